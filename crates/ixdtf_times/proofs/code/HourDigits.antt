-- The two digits of the hour, for which the fault table has two lines, are read as one number.
use Rattle.ixdtf_grammar.specs.declared.reason.Reason.{Reason}
use Rattle.std.proofs.{Common.{◌≡◌, ℕ, true, [], ◌∷◌, refl, inl, inr}, lemmas.Bool.cases_Bool}
use Rattle.ixdtf_grammar.specs.{language.{Letters.{Text, digit, Letter.{Plain, Bad}}, Times.{Clock, Clock.Time}}, table.LineNames.{of_time, TimeLine.time_start, LineName.of_clock, ClockLine.hour_start}}
use Rattle.ixdtf_reading.specs.{reading.{Looks.{Read, Placed, Look, ◌>>=◌, error_of, digit_look, two_digits_by, digits_by, next_by, look_at, in_range}, Stops.reason_of}}
use Rattle.ixdtf_reading.specs.reading.{Clauses.clock_by, Cores.lone_time_at, Times.{OpenTime, hour_from, after_hour_at, clock_at}}

-- Reads a time whose first digit is read by a look for a digit.
abbrev from_digit : Reason → Clock → Text → Read Placed OpenTime
from_digit first clock text = next_by (digit_look first) text >>= λ tens. hour_from error_of clock tens.0 tens.1

second_digit : (first : Reason) (clock : Clock) (a : ℕ) (text : Text) → digit a ≡ true → from_digit first clock (Plain a ∷ text) ≡ clock_by first clock (Plain a ∷ text)
unfolding clock_by hour_from two_digits_by digits_by next_by look_at in_range
second_digit first clock a [] h = rw h refl
second_digit first clock a (Bad ∷ rest) h = rw h refl
second_digit first clock a (Plain b ∷ rest) h = elim (cases_Bool (digit b)) [ inl yes_it ↦ rw (h, yes_it) refl | inr none ↦ rw (h, none) refl ]

by_number : (first : Reason) (clock : Clock) (text : Text) → from_digit first clock text ≡ clock_by first clock text
unfolding clock_by hour_from two_digits_by digits_by next_by look_at in_range
by_number first clock [] = refl
by_number first clock (Bad ∷ rest) = refl
by_number first clock (Plain a ∷ rest) = elim (cases_Bool (digit a)) [ inl h ↦ second_digit first clock a rest h | inr none ↦ rw none refl ]

pub hour_is_number : (clock : Clock) (text : Text) → clock_at error_of clock text ≡ clock_by (reason_of (of_clock clock hour_start)) clock text
unfolding clock_at
hour_is_number clock text = by_number (reason_of (of_clock clock hour_start)) clock text

-- A time that does not begin with `T` or `t`.
pub lone_hour_is_number : (text : Text) → lone_time_at error_of text ≡ clock_by (reason_of (of_time time_start)) Time text
unfolding lone_time_at
lone_hour_is_number text = by_number (reason_of (of_time time_start)) Time text
