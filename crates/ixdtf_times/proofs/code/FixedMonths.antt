-- A year-month or a month-day in fixed columns. The reading functions return what is found in these columns.
use Rattle.ixdtf_grammar.specs.declared.reason.Reason.{Reason}
use Rattle.std.proofs.Common.{◌≡◌, ℕ, suc, ◌+◌, Bool, true, false, IsTrue, [], ◌∷◌, drop, map, Some, Ok, refl, sym, ap, ◌∙◌, pos}
use Rattle.std.proofs.{Common.{◌≤◌, arith, ◌++◌, append_assoc, inl, inr, length}, lemmas.Bool.{and_parts, cases_Bool}}
use Rattle.std.specs.Prelude.{Result, Err, nat_le, ◌&&◌, IsFalse}
use Rattle.ixdtf_grammar.specs.{declared.{profile.Profile.Profile, records.DateRecord.DateRecord}, language.Letters.{Letter, Text, digit, hyphen}, Views.Unread}
use Rattle.ixdtf_grammar.specs.{language.Letters.Letter.{Plain, Bad}, language.Months.{greatest_day, least_day}, table.LineNames.{of_year_month, of_month_day, YearMonthLine.after_year_in_year_month}}
use Rattle.ixdtf_grammar.specs.table.LineNames.MonthDayLine.{month_day_start, month_day_month_digits, month_day_month_range, month_day_range}
use Rattle.ixdtf_reading.specs.reading.Stops.{reason_of}
use Rattle.ixdtf_reading.specs.{reading.{Clauses.{Checks, Reads, YieldsAt}, Dates.{date_of, month_at}}}
use Rattle.ixdtf_reading.specs.reading.Looks.{Read, Placed, error_of, look_at, next_by, mark_by, digits_by, two_digits_by, ◌>>=◌}
use Rattle.ixdtf_reading.specs.reading.{Months.{year_month_at, marks_at, month_day_at, lone_month_in_range, lone_day_in_range, lone_day_at}}
use Rattle.ixdtf_reading.specs.reading.FixedPlaces.{byte_place, number_place, year_place, month_of_year_place, ranged_month}
use Rattle.ixdtf_reading.specs.reading.FixedPlaces.{marks_place, unmarked_at}
use Rattle.ixdtf_reading.proofs.{parts.{Looks.{onto, digits_go}, Marks.hyphens_of, Years.year_takes}}
use Rattle.ixdtf_reading.proofs.code.FixedPlaces.{then_some, Number, number_at_place, over_two, two_digits, two}
use Rattle.ixdtf_reading.proofs.{code.FixedPlaces.year_at_place, to_reading.Dates.{month_is, month_is_none, month_or_none, month_takes, month_out}}
use Rattle.ixdtf_reading.proofs.{to_reading.Months.over_lone_day, code.FixedPlaces.byte_is_mark}

-- ---- year-months

-- If a year is found in the first four columns, reading a year-month goes on with the month after it.
year_is_taken : (text : Text) (year : ℕ) → year_place text ≡ Some year → year_month_at error_of text
    ≡ (month_at error_of (of_year_month after_year_in_year_month) (drop 4 text) >>= λ month. Ok (date_of (pos year) month.0.0 1, month.1))
unfolding year_month_at
year_is_taken text year e =
    let (ys, is, y) = year_at_place text year e in
    ap (year_month_at error_of) is ∙ rw (year_takes error_of ys (pos year) (drop 4 text) (inl y)) refl

-- If the month is found too, its range decides the result.
month_is_read : (b : Bool) (text : Text) (year place : ℕ) (date : DateRecord) → year_place text ≡ Some year → drop 4 text ≡ hyphens_of b ++ drop place text
    → month_of_year_place year place text ≡ Some date → year_month_at error_of text ≡ ranged_month date (drop (suc (suc place)) text)
unfolding month_of_year_place
month_is_read b text year place date years at_month e =
    then_some (number_place place text) _ date e λ month f0 e0. by_number month (number_at_place place text month f0) e0
  where
    by_number : (month : ℕ) → Number place text month → Some (date_of (pos year) month 1) ≡ Some date
        → year_month_at error_of text ≡ ranged_month date (drop (suc (suc place)) text)
    by_number month m e =
        let is : date_of (pos year) month 1 ≡ date = cc in
        let after = drop (suc (suc place)) text in
        let split : drop 4 text ≡ (hyphens_of b ++ two m) ++ after = at_month ∙ ap (λ t. hyphens_of b ++ t) (over_two m refl) ∙ sym (append_assoc (hyphens_of b) (two m) after) in
        year_is_taken text year years ∙ rw (split, ← is) (elim (month_or_none month) [
          | inl h ↦ rw (
            month_takes error_of (of_year_month after_year_in_year_month) (λ c. refl) b (two m) month after (two_digits m refl, h.0, h.1),
            month_is month h.0 h.1,
          ) refl
          | inr h ↦ rw (
            month_out error_of (of_year_month after_year_in_year_month) (λ c. refl) b (two m) after ((two_digits m refl).0, rw m.value at h),
            month_is_none month h,
          ) refl
        ])

pub hyphened_month_is_read : (text : Text) (year : ℕ) (date : DateRecord) → year_place text ≡ Some year → IsTrue (hyphen (byte_place 4 text))
    → month_of_year_place year 5 text ≡ Some date → year_month_at error_of text ≡ ranged_month date (drop 7 text)
hyphened_month_is_read text year date years mark months =
    month_is_read true text year 5 date years (byte_is_mark 45 4 text refl mark) months

pub basic_month_is_read : (text : Text) (year : ℕ) (date : DateRecord) → year_place text ≡ Some year → month_of_year_place year 4 text ≡ Some date
    → year_month_at error_of text ≡ ranged_month date (drop 6 text)
basic_month_is_read text year date years months = month_is_read false text year 4 date years refl months

-- ---- month-days

-- Two digits that were found are read.
two_go : (first second : Reason) {place : ℕ} {text : Text} {n : ℕ} (number : Number place text n) (rest : Text) → two_digits_by first second (two number ++ rest) ≡ Ok (two number, rest)
unfolding two_digits_by digits_by next_by look_at
two_go first second number rest = rw (number.is_a, number.is_b) refl

module _ (first : Reason) (profile : Profile) (text : Text) (start month : ℕ) where
  abbrev behind : Text
  behind = drop (start + 2) text

  -- If the month is found and is 1 to 12, reading goes on after it.
  pub month_goes_on : number_place start text ≡ Some month → IsTrue (nat_le 1 month && nat_le month 12)
      → unmarked_at first profile (drop start text) ≡ lone_day_at error_of profile month behind
  unfolding lone_month_in_range
  month_goes_on months is =
      let m = number_at_place start text month months in
      let second : suc (suc start) ≡ start + 2 = omega arith in
      ap (unmarked_at first profile) (over_two m (ap (λ p. drop p text) second))
      ∙ rw (two_go first (reason_of (of_month_day month_day_month_digits)) m behind, ← m.value, is) refl

  pub month_stops : number_place start text ≡ Some month → IsFalse (nat_le 1 month && nat_le month 12)
      → unmarked_at first profile (drop start text) ≡ Err (reason_of (of_month_day month_day_month_range), behind)
  unfolding lone_month_in_range
  month_stops months is_none =
      let m = number_at_place start text month months in
      let second : suc (suc start) ≡ start + 2 = omega arith in
      ap (unmarked_at first profile) (over_two m (ap (λ p. drop p text) second))
      ∙ rw (two_go first (reason_of (of_month_day month_day_month_digits)) m behind, ← m.value, is_none) refl

  -- If a day is found, with or without a hyphen before it, its range decides the result.
  day_is_read : (b : Bool) (place day : ℕ) → behind ≡ hyphens_of b ++ drop place text → number_place place text ≡ Some day
      → lone_day_at error_of profile month behind ≡ lone_day_in_range error_of profile month day (drop (suc (suc place)) text)
  day_is_read b place day at_day days =
      let d = number_at_place place text day days in
      let after = drop (suc (suc place)) text in
      let split : behind ≡ (hyphens_of b ++ two d) ++ after = at_day ∙ ap (λ t. hyphens_of b ++ t) (over_two d refl) ∙ sym (append_assoc (hyphens_of b) (two d) after) in
      ap (lone_day_at error_of profile month) split ∙ (over_lone_day error_of profile month b (two d) day (two_digits d refl)).over after

  pub hyphened_day_is_read : (day : ℕ) → IsTrue (hyphen (byte_place (start + 2) text)) → number_place (start + 3) text ≡ Some day
      → lone_day_at error_of profile month behind ≡ lone_day_in_range error_of profile month day (drop (start + 5) text)
  hyphened_day_is_read day mark days =
      let third : suc (start + 2) ≡ start + 3 = omega arith in
      let last : suc (suc (start + 3)) ≡ start + 5 = omega arith in
      rw last at (day_is_read true (start + 3) day (byte_is_mark 45 (start + 2) text refl mark ∙ onto 45 (ap (λ p. drop p text) third)) days)

  pub basic_day_is_read : (day : ℕ) → number_place (start + 2) text ≡ Some day
      → lone_day_at error_of profile month behind ≡ lone_day_in_range error_of profile month day (drop (start + 4) text)
  basic_day_is_read day days =
      let last : suc (suc (start + 2)) ≡ start + 4 = omega arith in
      rw last at (day_is_read false (start + 2) day refl days)

-- The result of a function that tested the day is the result of the reading function.
pub day_tested : (profile : Profile) (month day : ℕ) (rest : Text) (result : Result DateRecord Reason)
    → Checks (λ date. date) result (date_of (pos 0) month day) (nat_le (least_day profile) day && nat_le day (greatest_day month)) (reason_of (of_month_day (month_day_range profile)))
    → YieldsAt (λ date. (date, rest)) result rest (lone_day_in_range error_of profile month day rest)
unfolding lone_day_in_range
day_tested profile month day rest (Ok date) is = rw (is.1, is.0) refl
day_tested profile month day rest (Err stop) is = rw (is.1, is.0) refl

-- If the wanted result is that of the reading function, a function that yields it reads as this function does.
pub yields_on : (letter : ℕ → Letter) (here new : Unread) (result : Result DateRecord Reason) (reading : Text → Read Placed DateRecord) (wanted : Read Placed DateRecord)
    → wanted ≡ reading (map letter here.rest) → Reads letter (λ date. date) here result new reading
    → YieldsAt (λ date. (date, map letter new.rest)) result (map letter new.rest) wanted
yields_on letter here new (Ok date) reading wanted same is = same ∙ is
yields_on letter here new (Err stop) reading wanted same is = same ∙ is

-- Two hyphens at the beginning are consumed.
pub marked_is_read : (profile : Profile) (text : Text) → IsTrue (marks_place text) → month_day_at error_of profile text ≡ unmarked_at (reason_of (of_month_day month_day_month_digits)) profile (drop 2 text)
unfolding month_day_at marks_at mark_by two_digits_by digits_by next_by look_at
marked_is_read profile text marks =
    let both = and_parts _ _ marks in
    let first = byte_is_mark 45 0 text refl both.0 in
    let second = byte_is_mark 45 1 text refl both.1 in
    ap (month_day_at error_of profile) (first ∙ onto 45 second)

-- A text that does not begin with a hyphen has no hyphens before its month.
pub unmarked_is_read : (profile : Profile) (text : Text) → IsFalse (hyphen (byte_place 0 text)) → 1 ≤ length text
    → month_day_at error_of profile text ≡ unmarked_at (reason_of (of_month_day month_day_start)) profile text
unfolding month_day_at marks_at mark_by two_digits_by digits_by next_by look_at
unmarked_is_read profile [] is some = absurd (omega arith)
unmarked_is_read profile (Bad ∷ rest) is some = refl
unmarked_is_read profile (Plain c ∷ rest) is some = elim (cases_Bool (digit c)) [ inl h ↦ rw (h, is, is, h) refl | inr h ↦ rw (h, is) refl ]
