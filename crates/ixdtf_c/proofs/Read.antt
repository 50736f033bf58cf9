-- A chain of calls of a handler that returns each annotation gives the contract of a reader without a handler.
use Rattle.std.proofs.Common.{◌≡◌, ℕ, Result, Ok, Err, OnOk, refl}
use Rattle.ixdtf_grammar.specs.declared.{profile.Profile.Profile, reason.Reason.Reason}
use Rattle.ixdtf.specs.{language.{Letters.Text, Readers.{CoreKind, Reader.bracketed}, Languages.Parsed}, table.Faults.Fault}
use Rattle.ixdtf.specs.{table.Outcomes.NoRowFits, Laws.InNoOther, Places.{HandledToAt, UnhandledFaultAt}, Handlers.{Step, handed}}
use Rattle.ixdtf_reading.proofs.theorems.{Handled.{OwnReplies, by_value, replies_own, unhandled_form}, OnePlace.one_unhandled_place}
use Rattle.ixdtf_c.specs.{Located.{FaultAt, HasOutcome}, Outcomes.ReadsRecord}
use Rattle.ixdtf_c.proofs.Crossed.{same_ok}

module _ {T U F : Type 0} (number : U → ℕ) (step : Step T U F) (handler last : F) (profile : Profile) (kind : CoreKind) (text : Text) (own : OwnReplies step) where
  pub reads : {X E : Type 0} (named : E → Fault) (stands : Reason → ℕ → E → Type 0) (view : X → Parsed) (result : Result X E)
      → HandledToAt number step handler last (bracketed kind) text named stands view result
      → OnOk result (NoRowFits (bracketed kind) text) → OnOk result (InNoOther profile (bracketed kind) text)
      → (outcome : Result Parsed FaultAt) × HasOutcome named stands view result outcome × ReadsRecord profile (bracketed kind) text outcome
  reads named stands view (Ok x) h no_row no_other_reader =
      let form = unhandled_form (by_value number step handler (bracketed kind) text (Ok (view x)) last h.plain) own in (
        Ok (view x),
        refl,
        record {
          ok = λ found. (
            (λ is. (form.ok found).0 (same_ok (view x) found is)),
            λ given. same_ok (view x) found ((form.ok found).1 given),
          );
          err = λ e is. absurd cc;
          no_row = no_row;
          no_other_reader = no_other_reader;
          only = λ e is. absurd cc;
          place = λ e is. absurd cc;
        },
      )
  reads named stands view (Err e) h no_row no_other_reader =
      let form = unhandled_form (by_value number step handler (bracketed kind) text (Err (named e)) last h.plain) own in
      let (reason, at, there, gives, because) = h.err e refl in
      let fault_at : FaultAt = record { fault = named e; at = at } in
      let given : UnhandledFaultAt (bracketed kind) text (named e) at = (
        handed number h.plain.calls,
        rw (← (replies_own number step handler (bracketed kind) text (Err (named e)) own h.plain.calls handler last h.plain.chain)) gives,
      ) in (
        Err fault_at,
        (reason, at, there, refl),
        record {
          ok = λ found. (
            (λ is. absurd cc),
            λ given. let is : Err (named e) ≡ Ok found = (form.ok found).1 given in absurd cc,
          );
          err = λ other is. let it : fault_at ≡ other = cc in rw (← it) given;
          no_row = tt;
          no_other_reader = tt;
          only = λ other is. let it : fault_at ≡ other = cc in rw (← it) form.only;
          place = λ other is. let it : fault_at ≡ other = cc in rw (← it) (one_unhandled_place kind text (named e) at given);
        },
      )
