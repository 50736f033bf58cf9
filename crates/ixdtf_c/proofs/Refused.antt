-- The error of a reader, with its position and its reason.
use Rattle.std.proofs.Common.{◌≡◌, ◌↔◌, ℕ, List, [], map, Option, Some, None, Result, Ok, Err, refl, sym, ap, ◌∙◌, inl, inr}
use Rattle.ixdtf_grammar.specs.declared.reason.Reason.{Reason}
use Rattle.ixdtf_explanations.specs.declared.located.LocatedError.{LocatedError}
use Rattle.ixdtf.specs.language.{Letters.{Letter, Text}, Readers.{CoreKind, Reader, Reader.bracketed}, Languages.{Parsed, Found, Found.parsed}}
use Rattle.ixdtf.specs.{table.{Faults.{Fault}, Outcomes.{HasFaultAt, HasReason}}, Views.{Unread, returned_by}}
use Rattle.ixdtf.specs.LocatedFaults.{fault_of_located, stands_behind}
use Rattle.ixdtf.specs.LocatedPromises.{ReadsPartAt}
use Rattle.ixdtf.specs.Places.{HandledToAt, GivesFaultAt, GivesReason, UnhandledFaultAt, UnhandledReason}
use Rattle.ixdtf.specs.Handlers.{Step, Calls, handed}
use Rattle.ixdtf_reading.proofs.theorems.{Handled.{OwnReplies, NoReplies, by_value, replies_own, unhandled_form}, OnePlace.one_unhandled_place, OneReason.{one_unhandled_reason, reason_once}}
use Rattle.ixdtf_reading.proofs.theorems.{OneOutcome.place_once, OnlyOutcome.only_fault, Replies.nones}
use Rattle.ixdtf_c.specs.Asked.{Asked, Asked.{unhandled, listing}, Accepts, Reads, HasError, Refuses, IsOutcome, IsRefusal}
use Rattle.ixdtf_c.proofs.{Crossed.same_text, Listed.{nones_not_last, replies_none}}

-- What is true of the text that a reader had to read is true of the text of the code units, if the reader had all of them to read.
pub of_units : {U E : Type 0} (letter : ℕ → Letter) (number : U → ℕ) (units : List U) {rest : List ℕ} {named : E → Fault}
    {stands : Reason → ℕ → E → Type 0} {asked : Asked} {outcome : Option E} → rest ≡ map number units
    → IsOutcome named stands asked (map letter rest) outcome → IsOutcome named stands asked (map (λ unit. letter (number unit)) units) outcome
of_units letter number units all outcome = rw (← (same_text letter number units all)) outcome

module _ {T U F X E : Type 0} {number : U → ℕ} {step : Step T U F} {handler last : F} {kind : CoreKind} {text : Text}
    {named : E → Fault} {stands : Reason → ℕ → E → Type 0} {view : X → Parsed} {result : Result X E}
    (h : HandledToAt number step handler last (bracketed kind) text named stands view result) where
  -- ---- A reader whose handler returns each annotation.

  pub kept_ok : {x : X} → OwnReplies step → result ≡ Ok x → IsOutcome named stands (unhandled (bracketed kind)) text None
  kept_ok {x} own is =
      let form = unhandled_form (by_value number step handler (bracketed kind) text (returned_by named view result) last h.plain) own in
      record { accepted = (view x, (form.ok (view x)).0 (ap (returned_by named view) is)); refused = tt }

  pub kept_err : {e : E} → OwnReplies step → result ≡ Err e → IsOutcome named stands (unhandled (bracketed kind)) text (Some e)
  kept_err {e} own is =
      let form = unhandled_form (by_value number step handler (bracketed kind) text (returned_by named view result) last h.plain) own in
      let (reason, at, there, gives, because) = h.err e is in
      let pairs = handed number h.plain.calls in
      let replies = replies_own number step handler (bracketed kind) text (returned_by named view result) own h.plain.calls handler last h.plain.chain in
      let given : UnhandledFaultAt (bracketed kind) text (named e) at = (pairs, rw (← replies) gives) in
      let reasoned : UnhandledReason (bracketed kind) text reason = (pairs, rw (← replies) because) in
      let refusal : IsRefusal (unhandled (bracketed kind)) text (named e) at reason = record {
        refuses = (given, reasoned);
        only = λ other where_else why refuses.
            let (fault_is, at_is) = one_unhandled_place kind text (named e) at given other where_else refuses.0 in
            (fault_is, at_is, one_unhandled_reason kind text reason reasoned why refuses.1);
        not_accepted = λ accepted.
            let both : Err (named e) ≡ Ok accepted.0 = sym (ap (returned_by named view) is) ∙ (form.ok accepted.0).1 accepted.1 in
            absurd cc;
      } in
      record { accepted = tt; refused = (reason, at, there, refusal) }

  -- ---- A reader whose handler drops each annotation.

  pub dropped_ok : {x : X} → result ≡ Ok x → IsOutcome named stands (listing (bracketed kind)) text None
  dropped_ok {x} is =
      let gives = (h.plain.ok (view x)).0 (ap (returned_by named view) is) in
      record { accepted = (parsed gives.read, handed number h.plain.calls, gives.whole); refused = tt }

  fault_of_text : {fault : Fault} {at : ℕ} (calls : Calls T U) → GivesFaultAt (bracketed kind) text (handed number calls) (nones calls) fault at
      → HasFaultAt (bracketed kind) text (handed number calls) fault at
  fault_of_text {fault} calls (inl p) = absurd (nones_not_last calls fault p.1)
  fault_of_text calls (inr p) = p.0

  reason_of_text : {reason : Reason} (calls : Calls T U) → GivesReason (bracketed kind) text (handed number calls) (nones calls) reason
      → HasReason (bracketed kind) text (handed number calls) reason
  reason_of_text calls (inl p) = absurd (nones_not_last calls p.1 p.2)
  reason_of_text calls (inr p) = p.0

  pub dropped_err : {e : E} → NoReplies step → result ≡ Err e → IsOutcome named stands (listing (bracketed kind)) text (Some e)
  dropped_err {e} none is =
      let (reason, at, there, gives, because) = h.err e is in
      let calls = h.plain.calls in
      let pairs = handed number calls in
      let replies = replies_none number none calls handler last h.plain.chain in
      let given : HasFaultAt (bracketed kind) text pairs (named e) at = fault_of_text calls (rw (← replies) gives) in
      let reasoned : HasReason (bracketed kind) text pairs reason = reason_of_text calls (rw (← replies) because) in
      let refusal : IsRefusal (listing (bracketed kind)) text (named e) at reason = record {
        refuses = (pairs, (given, reasoned));
        only = λ other where_else why (before, (has, so)).
            let (fault_is, at_is) = place_once (bracketed kind) text pairs (named e) at given other before where_else has in
            (fault_is, at_is, reason_once (bracketed kind) text pairs reason reasoned why before so);
        not_accepted = λ (found, all, whole).
            let (row, fits, has, left) = given in
            (only_fault (bracketed kind) text pairs (named e) (row, fits, has)).underived found all whole;
      } in
      record { accepted = tt; refused = (reason, at, there, refusal) }

-- ---- A reader of a text without brackets.

-- A statement is true exactly if it is true.
pub itself : {P : Type 0} → P ↔ P
itself = (λ it. it, λ it. it)

-- What the grammar and the fault table say about the text without annotations is what was asked.
module _ {X A : Type 0} {letter : ℕ → Letter} {view : X → A} {found : A → Found} {reader : Reader} {old new : Unread} {result : Result X LocatedError}
    (reads : ReadsPartAt letter view found reader old result new)
    (accepts : Accepts (unhandled reader) (map letter old.rest) ↔ Reads reader (map letter old.rest))
    (refuses : (fault : Fault) (at : ℕ) (reason : Reason)
    → Refuses (unhandled reader) (map letter old.rest) fault at reason ↔ HasError reader (map letter old.rest) [] fault at reason) where
  pub part_ok : {x : X} → result ≡ Ok x → IsOutcome fault_of_located stands_behind (unhandled reader) (map letter old.rest) None
  part_ok {x} is =
      record { accepted = accepts.1 (found (view x), (reads.ok (view x)).0 (ap (returned_by fault_of_located view) is)); refused = tt }

  pub part_err : {e : LocatedError} → result ≡ Err e → IsOutcome fault_of_located stands_behind (unhandled reader) (map letter old.rest) (Some e)
  part_err {e} is =
      let of_error : ReadsPartAt letter view found reader old (Err e) new = rw (← is) reads in
      let refusal : IsRefusal (unhandled reader) (map letter old.rest) (fault_of_located e) e.at e.reason = record {
        refuses = (refuses (fault_of_located e) e.at e.reason).1 (of_error.err, of_error.reason);
        only = λ other where_else why refused.
            let has = (refuses other where_else why).0 refused in
            let (fault_is, at_is) = of_error.place other [] where_else has.0 in
            (fault_is, at_is, of_error.one_reason why [] has.1);
        not_accepted = λ accepted. let (other, whole) = accepts.0 accepted in of_error.only.underived other [] whole;
      } in
      record { accepted = tt; refused = (e.reason, e.at, (refl, refl), refusal) }
