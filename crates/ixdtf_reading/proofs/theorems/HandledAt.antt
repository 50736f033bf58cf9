-- The position of a fault in the clauses of the readers with a handler, from the result of the code for a chain of calls.
use Rattle.ixdtf_grammar.specs.declared.reason.Reason.{Reason}
use Rattle.std.proofs.{Common.{◌≡◌, ℕ, ◌+◌, ◌≤◌, length, arith, List, Ok, Err, sym, ◌∙◌, ap, inl, inr, Result}, lemmas.List.{length-append, length-map}}
use Rattle.ixdtf_grammar.specs.{language.{Letters.Text, Brackets.Pair, Languages.Parsed, Readers.{Reader, has_brackets}}, table.Faults.Fault, Views.returned_by}
use Rattle.ixdtf_grammar.specs.{Handlers.{Reply, Calls, handed, replies_of, Step}, Places.{GivesFaultAt, GivesReason, HandledAt, HandledToAt, UnhandledFaultAt, UnhandledReason}}
use Rattle.ixdtf_reading.specs.{declared.stop.StopAt.StopAt, reading.{Chains.{TextGives, TextRead}, Looks.Placed, Stops.{fault_at, fault_of_code}}}
use Rattle.ixdtf_reading.proofs.theorems.StopFaults.{fault_of_row, fault_of_refusal}
use Rattle.ixdtf_reading.proofs.theorems.RowPlaces.{left_fits as row_left_fits}
use Rattle.ixdtf_reading.proofs.theorems.{Handled.{OwnReplies, replies_own, handled_to, handled_to_of}, OnePlace.{one_place, without_place}, OneReason.{one_reason, reason_given}}

-- There are as many replies as annotations.
pub as_many : {T U : Type 0} (number : U → ℕ) (calls : Calls T U) → length (replies_of number calls) ≡ length (handed number calls)
as_many number calls = length-map calls _ ∙ sym (length-map calls _)

-- The position of a fault is the number of code units before it.
pub stands_at : (reader : Reader) (text : Text) (pairs : List Pair) (replies : List Reply) (stop : Reason) (left : Text) (at : ℕ) → at + length left ≡ length text
    → TextGives reader text pairs replies (Err (stop, left)) → GivesFaultAt reader text pairs replies (fault_at (has_brackets reader) stop left) at
stands_at reader text pairs replies stop left at is gives = elim gives [
  | inl p ↦ inl (
    (p.0.0, left, p.0.1, omega (arith, is, ap (λ t. length t) p.0.1, length-append p.0.0 left), p.0.2, p.0.3),
    rw (fault_of_refusal (has_brackets reader) stop p.1.0 left p.1.2) p.1.1,
  )
  | inr p ↦ inr (
    (
      p.0.0,
      p.0.1,
      sym (fault_of_row reader p.0.0 pairs text p.0.1) ∙ ap (λ (q : Placed). fault_at (has_brackets reader) q.0 q.1) p.0.2,
      rw (ap (λ q. q.1) p.0.2) is,
    ),
    p.1,
  )
]

-- What a private function says of a `Reason` at which it ended.
abbrev pub EndsAt : {T U F : Type 0} → (U → ℕ) → Step T U F → F → F → Reader → Text → StopAt → Type 0
EndsAt number step handler last reader text why = (left : Text) × (why.at + length left ≡ length text)
    × TextRead number step handler last reader text (Err (why.reason, left)) × (fault_of_code why.code ≡ fault_at (has_brackets reader) why.reason left)

-- A variant with a handler whose errors have a position.
module _ {T U F X E : Type 0} (number : U → ℕ) (step : Step T U F) (handler last : F) (reader : Reader) (text : Text) (named : E → Fault) (stands : Reason → ℕ → E → Type 0)
    (view : X → Parsed) where
  -- The function takes the handler by reference.
  unfoldable pub handled_to_at_ok : (x : X) → TextRead number step handler last reader text (Ok (view x)) → HandledToAt number step handler last reader text named stands view (Ok x)
  handled_to_at_ok x read = record {
    plain = handled_to number step handler reader text (Ok (view x)) last read;
    err = λ e is. absurd cc;
    place = λ e is. absurd cc;
  }

  unfoldable pub handled_to_at_err : (why : StopAt) (e : E) → named e ≡ fault_of_code why.code → stands why.reason why.at e → EndsAt number step handler last reader text why
      → HandledToAt number step handler last reader text named stands view (Err e)
  handled_to_at_err why e is_named is_there (left, lengths, read, code) =
      let gives : GivesFaultAt reader text (handed number read.calls) (replies_of number read.calls) (named e) why.at =
      rw (is_named, code) (stands_at reader text _ _ why.reason left why.at lengths read.gives) in
      let is_only = one_place reader text _ _ (named e) why.at (as_many number read.calls) gives in
      let because : GivesReason reader text (handed number read.calls) (replies_of number read.calls) why.reason =
      reason_given reader text _ _ why.reason left read.gives in
      let only_because = one_reason reader text _ _ why.reason because in
      record {
        plain = handled_to_of number step handler reader text (Err (named e)) read.calls last read.chain (without_place reader text _ _ (named e) why.at gives);
        err = λ e' is. let same : e ≡ e' = cc in rw (← same) (why.reason, why.at, is_there, gives, because);
        place = λ e' is. let same : e ≡ e' = cc in rw (← same) (why.reason, why.at, is_there, is_only, only_because);
      }

  -- The promise of a function that takes the handler by value.
  abbrev pub by_value : (result : Result X E) → HandledToAt number step handler last reader text named stands view result
      → HandledAt number step handler reader text named stands view result
  by_value result h = record {
    calls = h.plain.calls;
    last = last;
    chain = h.plain.chain;
    ok = h.plain.ok;
    err = h.err;
    only = λ e is. h.plain.only (named e) (ap (returned_by named view) is);
    place = h.place;
  }

  abbrev pub handled_at_ok : (x : X) → TextRead number step handler last reader text (Ok (view x)) → HandledAt number step handler reader text named stands view (Ok x)
  handled_at_ok x read = by_value (Ok x) (handled_to_at_ok x read)

  abbrev pub handled_at_err : (why : StopAt) (e : E) → named e ≡ fault_of_code why.code → stands why.reason why.at e → EndsAt number step handler last reader text why
      → HandledAt number step handler reader text named stands view (Err e)
  handled_at_err why e is_named is_there read = by_value (Err e) (handled_to_at_err why e is_named is_there read)

-- The position of the fault, if the reply to each annotation is the annotation itself.
pub unhandled_at : {T U F : Type 0} (number : U → ℕ) (step : Step T U F) (handler last : F) (reader : Reader) (text : Text) → OwnReplies step → (why : StopAt)
    → EndsAt number step handler last reader text why → UnhandledFaultAt reader text (fault_of_code why.code) why.at
unhandled_at number step handler last reader text own why (left, lengths, read, code) = (
  handed number read.calls,
  rw (← (replies_own number step handler reader text (Err (fault_of_code why.code)) own read.calls handler last read.chain), code)
      (stands_at reader text _ _ why.reason left why.at lengths read.gives),
)

-- The reason, if the reply to each annotation is the annotation itself.
pub unhandled_reason : {T U F : Type 0} (number : U → ℕ) (step : Step T U F) (handler last : F) (reader : Reader) (text : Text) → OwnReplies step → (why : StopAt)
    → EndsAt number step handler last reader text why → UnhandledReason reader text why.reason
unhandled_reason number step handler last reader text own why (left, lengths, read, code) = (
  handed number read.calls,
  rw (← (replies_own number step handler reader text (Err (fault_of_code why.code)) own read.calls handler last read.chain))
      (reason_given reader text _ _ why.reason left read.gives),
)

-- The text from the position of a fault on is not longer than the complete text.
pub left_fits : (reader : Reader) (text : Text) (pairs : List Pair) (replies : List Reply) (stop : Reason) (left : Text)
    → TextGives reader text pairs replies (Err (stop, left)) → length left ≤ length text
left_fits reader text pairs replies stop left gives = elim gives [
  | inl p ↦ omega (arith, ap (λ t. length t) p.0.1, length-append p.0.0 left)
  | inr p ↦ let short = row_left_fits reader p.0.0 pairs text p.0.1 in omega (arith, short, ap (λ q. length q.1) p.0.2)
]
