-- The digits of a number of a duration, consumed one by one.
use Rattle.ixdtf_grammar.specs.declared.reason.Reason.{Reason}
use Rattle.std.proofs.Common.{◌≡◌, ℕ, ◌+◌, ◌-◌, ◌*◌, true, false, [], ◌∷◌, ◌++◌, drop, Some, None, Ok, Err, refl, sym, ◌∙◌, nat_le}
use Rattle.ixdtf_grammar.specs.{declared.profile.Profile.Profile, language.{Letters.{Text, digit, Letter.Plain}, Digits.decimal, Durations.greatest_value}}
use Rattle.ixdtf_grammar.specs.table.{LineNames.DurationLine.{group_digits, group_value_range}, DurationFronts.{Context, half_of}}
use Rattle.ixdtf_reading.specs.{reading.{Looks.{Placed, seen}, Stops.duration_reason, Durations.{step, run, State.in_number}}}
use Rattle.ixdtf_reading.proofs.{code.FirstLetter.{first_is, nothing_is}, parts.GrowingDigits.decimal_snoc}
use Rattle.ixdtf_durations.specs.reading.DurationClauses.{run_from}
use Rattle.ixdtf_durations.proofs.code.DurationSteps.{fails}

-- The state of the loop: digits of this number were consumed, and `rest` remains.
pub record IsSoFar (first : ℕ) (whole rest : Text) (value : ℕ) : Type 0 where
  pub ds : Text
  pub number : value ≡ decimal ds
  pub leads : (profile : Profile) (context : Context)
      → run_from profile (in_number context (Plain first ∷ [])) whole ≡ run_from profile (in_number context ds) rest

pub begins : (first : ℕ) (whole : Text) (value : ℕ) → value ≡ decimal (Plain first ∷ []) → IsSoFar first whole whole value
begins first whole value is = record { ds = Plain first ∷ []; number = is; leads = λ profile context. refl }

module _ (first : ℕ) (whole rest : Text) (value : ℕ) (far : IsSoFar first whole rest value) where
  module _ (stop : Reason) (c : ℕ) (found : seen stop rest ≡ Ok (Some c)) where
    module _ (is : digit c ≡ true) where
      grown : value * 10 + (c - 48) ≡ decimal (far.ds ++ (Plain c ∷ []))
      grown = sym (rw (decimal_snoc far.ds (Plain c), far.number) refl)

      pub goes_on : (next : Text) (sum : ℕ) → next ≡ drop 1 rest → sum ≡ value * 10 + (c - 48) → nat_le (value * 10 + (c - 48)) greatest_value ≡ true
          → IsSoFar first whole next sum
      unfolding run step
      goes_on next sum moved sums small = record {
        ds = far.ds ++ (Plain c ∷ []);
        number = sums ∙ grown;
        leads = λ profile context. far.leads profile context ∙ rw (first_is stop rest c found, is, ← grown, small, moved) refl;
      }

      -- The number becomes 2^64 or more.
      pub passes : (next : Text) (past : Reason) → next ≡ drop 1 rest → nat_le (value * 10 + (c - 48)) greatest_value ≡ false → (profile : Profile) (context : Context)
          → duration_reason (group_value_range (half_of context)) ≡ past → run_from profile (in_number context (Plain first ∷ [])) whole ≡ Err (past, next)
      unfolding run step
      passes next past moved great profile context at = far.leads profile context ∙ rw (first_is stop rest c found, is, ← grown, great, moved, at) refl

  pub ends : (stop : Reason) → seen stop rest ≡ Ok None → (profile : Profile) (context : Context)
      → run_from profile (in_number context (Plain first ∷ [])) whole ≡ Err (duration_reason (group_digits (half_of context)), rest)
  unfolding run
  ends stop none profile context = far.leads profile context ∙ rw (nothing_is stop rest none) refl

  pub breaks : {stop : Reason} (fault : Placed) → seen stop rest ≡ Err fault → (profile : Profile) (context : Context)
      → duration_reason (group_digits (half_of context)) ≡ stop
      → run_from profile (in_number context (Plain first ∷ [])) whole ≡ Err fault
  breaks fault bad profile context at = far.leads profile context ∙ fails _ _ rest fault (rw at bad)
