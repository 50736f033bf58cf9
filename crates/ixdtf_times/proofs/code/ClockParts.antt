-- The numbers and the fraction of a clock are read with the `Reason`s of the clock.
use Rattle.ixdtf_grammar.specs.declared.reason.Reason.{Reason}
use Rattle.std.proofs.Common.{◌≡◌, ℕ, refl}
use Rattle.ixdtf_grammar.specs.{language.{Letters.Text, Times.{Clock, greatest_second}}, table.LineNames.{LineName.of_clock, ClockLine.{minute_digits, minute_range, second_digits, second_range, fraction_start, after_fraction}}}
use Rattle.ixdtf_reading.specs.{reading.{Clauses.{fraction_by, number_at_most}, Looks.{error_of, digits_by, number_by, two_digits_by}, Stops.reason_of}}
use Rattle.ixdtf_reading.specs.reading.Times.{fraction_at, minute_past, number_at, second_past}

module _ (clock : Clock) (first second : Reason) (text : Text) where
  pub minute_is : first ≡ reason_of (of_clock clock minute_digits) → second ≡ reason_of (of_clock clock minute_range)
      → number_at error_of (of_clock clock minute_digits) 59 (minute_past clock) text ≡ number_at_most first first 59 second text
  unfolding number_by two_digits_by digits_by
  minute_is is past = rw (is, past) refl

  pub second_is : (greatest : ℕ) → greatest ≡ greatest_second clock → first ≡ reason_of (of_clock clock second_digits) → second ≡ reason_of (of_clock clock second_range)
      → number_at error_of (of_clock clock second_digits) (greatest_second clock) (second_past clock) text ≡ number_at_most first first greatest second text
  unfolding number_by two_digits_by digits_by
  second_is greatest same is past = rw (same, is, past) refl

  pub fraction_is : first ≡ reason_of (of_clock clock fraction_start) → second ≡ reason_of (of_clock clock after_fraction)
      → fraction_at error_of clock text ≡ fraction_by first second text
  unfolding fraction_at fraction_by
  fraction_is is digits = rw (is, digits) refl
