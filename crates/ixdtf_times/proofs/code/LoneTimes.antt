-- A time without a date. Its first code unit decides how it is read.
use Rattle.ixdtf_grammar.specs.declared.reason.Reason.{Reason}
use Rattle.std.proofs.{Common.{◌≡◌, ◌∙◌, ◌∷◌, ap, ℕ, true, false, drop, map, Option, Some, None, Result, Ok, Err, refl, arith}, lemmas.Bool.Decides.nat_tests}
use Rattle.ixdtf_grammar.specs.{declared.{profile.Profile.Profile, records.DateRecord.DateRecord}, Views.Unread}
use Rattle.ixdtf_grammar.specs.language.Letters.{Letter, Text, ◌or◌, digit, sign, hyphen, time_letter, Letter.Plain}
use Rattle.ixdtf_reading.specs.{reading.{Looks.{Read, Placed, ◌>>=◌, error_of, seen, look_at, next_by, mark_by}, Brackets.next_is}}
use Rattle.ixdtf_reading.specs.reading.{Dates.year_at, Months.{year_month_at, marks_at, month_day_at, year_month_begins, month_day_begins}, Times.clock_at}
use Rattle.ixdtf_grammar.specs.{language.Times.Clock.Time, table.LineNames.{of_time, TimeLine.time_start, LineName.of_clock, ClockLine.hour_start}}
use Rattle.ixdtf_reading.proofs.code.{FixedPlaces.reads_on, FirstLetter.first_is}
use Rattle.ixdtf_reading.specs.reading.Stops.{reason_of}
use Rattle.ixdtf_times.proofs.code.HourDigits.{hour_is_number, lone_hour_is_number}
use Rattle.ixdtf_reading.specs.reading.{Cores.{unfronted, lone_time_at, marked_time_at, marked_core_at, time_alone_core_at}, Clauses.{Reads, timed_core_at}}

ok_again : {A E : Type 0} → (r : Result A E) → (r >>= λ x. Ok x) ≡ r
ok_again (Ok x) = refl
ok_again (Err e) = refl

-- A result for one text is also the result for another text, if the reading functions return the same for both.
pub reads_as : {X Y : Type 0} (letter : ℕ → Letter) (view : X → Y) (old old' new : Unread) (result : Result X Reason) (reading reading' : Text → Read Placed Y)
    → reading' (map letter old'.rest) ≡ reading (map letter old.rest) → Reads letter view old result new reading → Reads letter view old' result new reading'
reads_as letter view old old' new result reading reading' e is = reads_on letter view old' old new result reading' reading e is

no_month_day : (c : ℕ) → time_letter c ≡ true → (hyphen or digit) c ≡ false
no_month_day c is = grind (arith, nat_tests)

no_year : (c : ℕ) → time_letter c ≡ true → (digit or sign) c ≡ false
no_year c is = grind (arith, nat_tests)

module _ (profile : Profile) (rest : Text) (c : ℕ) (marked : time_letter c ≡ true) where
  no_month_day_begins : month_day_begins profile (Plain c ∷ rest) ≡ false
  unfolding month_day_at marks_at mark_by next_by look_at
  no_month_day_begins = rw (no_month_day c marked) refl

  no_year_month_begins : year_month_begins (Plain c ∷ rest) ≡ false
  unfolding year_month_at year_at next_by look_at
  no_year_month_begins = rw (no_year c marked) refl

  marked_first : time_alone_core_at error_of profile (Plain c ∷ rest) ≡ timed_core_at (reason_of (of_clock Time hour_start)) None rest
  unfolding time_alone_core_at marked_core_at marked_time_at timed_core_at look_at
  marked_first = rw (marked, no_month_day_begins, no_year_month_begins, hour_is_number Time rest) (ok_again (timed_core_at (reason_of (of_clock Time hour_start)) None rest))

-- A text that begins with `T` or `t` does not begin with a month-day or a year-month.
pub marked_is : (profile : Profile) (text : Text) (c : ℕ) (stop : Reason) → seen stop text ≡ Ok (Some c) → time_letter c ≡ true → (date : Option DateRecord) → date ≡ None
    → time_alone_core_at error_of profile text ≡ timed_core_at (reason_of (of_clock Time hour_start)) date (drop 1 text)
marked_is profile text c stop first marked date none =
    let is = first_is stop text c first in
    ap (time_alone_core_at error_of profile) is ∙ rw none (marked_first profile (drop 1 text) c marked)

-- Any other text is read from its beginning. Then its beginning is tested.
pub unmarked_is : (profile : Profile) (text : Text) (next : Option ℕ) → seen (reason_of (of_time time_start)) text ≡ Ok next → next_is time_letter next ≡ false
    → (date : Option DateRecord) → date ≡ None
    → time_alone_core_at error_of profile text ≡ timed_core_at (reason_of (of_time time_start)) date text >>= λ core. unfronted error_of profile text (Ok core)
unfolding time_alone_core_at marked_core_at marked_time_at timed_core_at
unmarked_is profile text None first other date none = rw (none, first, lone_hour_is_number text) refl
unmarked_is profile text (Some c) first other date none = rw (none, first, other, lone_hour_is_number text) refl

-- If the first code unit is bad, the result is its `Reason`.
pub bad_is : (profile : Profile) (text : Text) (fault : Placed) → seen (reason_of (of_time time_start)) text ≡ Err fault
    → time_alone_core_at error_of profile text ≡ Err fault
unfolding time_alone_core_at marked_core_at marked_time_at
bad_is profile text fault first = rw first refl
