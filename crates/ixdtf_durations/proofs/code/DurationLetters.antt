-- The code unit after the digits of a group, and the groups that it ends.
use Rattle.std.proofs.Common.{◌≡◌, ℕ, Bool, true, false, [], ◌∷◌, List, None, Ok, Err, map, drop, refl, sym, ◌∙◌, arith, nat_le}
use Rattle.std.proofs.{Common.if◌then◌else◌, lemmas.Bool.Decides.nat_tests}
use Rattle.ixdtf_grammar.specs.declared.{profile.Profile.Profile, records.{Sign.Sign, DurationParseRecord.DurationParseRecord}}
use Rattle.ixdtf_grammar.specs.language.Letters.{Letter, Text, digit, decimal_mark, hour_letter, minute_letter, Letter.Plain}
use Rattle.ixdtf_grammar.specs.language.Durations.{Half, Group, designator, unit_of, greatest, greatest_value, in_order, Half.{date, time}}
use Rattle.ixdtf_grammar.specs.{language.Durations.DurationUnit.{hours, minutes, seconds}, table.DurationFronts.Context}
use Rattle.ixdtf_grammar.specs.table.DurationFronts.Context.{in_dates, in_times}
use Rattle.ixdtf_reading.specs.reading.Looks.{Placed, Read, ◌>>=◌, error_of}
use Rattle.ixdtf_reading.specs.reading.Durations.{State, add_group, end_group, step, run, integer_group, State.{between, in_number, at_mark, ended}}
use Rattle.ixdtf_grammar.specs.declared.reason.Reason.{Reason}
use Rattle.ixdtf_durations.specs.{declared.group_numbers.Number.Number, reading.DurationClauses.{run_from, run_where, IsNumber}}
use Rattle.ixdtf_durations.specs.reading.DurationClauses.{behind_unit, date_group_of, date_read, after_time_group, date_group_fits, time_group_fits}

-- ---- code units

mark_no_designator : (c : ℕ) → decimal_mark c ≡ true → designator time c ≡ false
mark_no_designator c is = grind (arith, nat_tests)

-- ---- groups

-- Reading continues if both tests succeed.
both_tests : (profile : Profile) (a b : Bool) (x y : Reason) (state : State) (text : Text)
    → (((if a then (if b then Ok state else Err (x, text)) else Err (y, text)) >>= λ next. run_from profile next text))
    ≡ run_where profile (if a then (if b then Ok tt else Err x) else Err y) state text
both_tests profile true true x y state text = refl
both_tests profile true false x y state text = refl
both_tests profile false b x y state text = refl

one_test : (profile : Profile) (a : Bool) (y : Reason) (state : State) (text : Text)
    → (((if a then Ok state else Err (y, text)) >>= λ next. run_from profile next text)) ≡ run_where profile (if a then Ok tt else Err y) state text
one_test profile true y state text = refl
one_test profile false y state text = refl

-- The result is the same for equal groups.
date_step : (profile : Profile) (s : Sign) (dates : List Group) (h g : Group) (text : Text) → h ≡ g
    → (add_group error_of profile text (in_dates s dates) h >>= λ next. run_from profile next text)
    ≡ run_where profile (date_group_fits profile dates g) (between (in_dates s (g ∷ dates))) text
date_step profile s dates h g text is = rw is (both_tests profile (in_order profile dates g.unit) (nat_le g.value (greatest g.unit)) _ _ _ text)

time_step : (profile : Profile) (s : Sign) (dates times : List Group) (h g : Group) (text : Text) → h ≡ g → nat_le g.value (greatest g.unit) ≡ true
    → (add_group error_of profile text (in_times s dates times) h >>= λ next. run_from profile next text)
    ≡ run_where profile (time_group_fits profile times g) (between (in_times s dates (g ∷ times))) text
time_step profile s dates times h g text is small = rw (is, small) (one_test profile (in_order profile times g.unit) _ _ text)

pub end_step : (profile : Profile) (s : Sign) (dates times : List Group) (h g : Group) (text : Text) → h ≡ g
    → (end_group error_of profile text s dates times h >>= λ next. run_from profile next text)
    ≡ run_where profile (time_group_fits profile times g) (ended s dates times g) text
end_step profile s dates times h g text is = rw is (one_test profile (in_order profile times g.unit) _ _ text)

module _ (letter : ℕ → Letter) (first : ℕ) (old : List ℕ) (number : Number) (new : List ℕ) (reads : IsNumber letter first old number new) where
  -- The result of reading from the first digit on.
  abbrev from_first : Profile → Context → Read Placed DurationParseRecord
  from_first profile context = run_from profile (in_number context (Plain first ∷ [])) (map letter old)

  no_digit : digit number.next ≡ false
  no_digit = reads.other

  group_is : (half : Half)
      → ◌≡◌ {A = Group} (integer_group half reads.ds number.next) (record { unit = unit_of half number.next; value = number.value; fraction = None })
  group_is half i = record { unit = unit_of half number.next; value = sym reads.value i; fraction = None }

  -- A date group ends at the code unit after the number, or the code unit is an error.
  pub ends_date : (profile : Profile) (s : Sign) (dates : List Group) → from_first profile (in_dates s dates)
      ≡ run_where profile (date_read profile dates number) (between (in_dates s (date_group_of number ∷ dates))) (behind_unit date number.next (map letter new))
  unfolding run step
  ends_date profile s dates = reads.leads profile _ ∙ go (designator date number.next) refl
    where
      go : (b : Bool) → designator date number.next ≡ b → run_from profile (in_number (in_dates s dates) reads.ds) (map letter new)
          ≡ run_where profile (date_read profile dates number) (between (in_dates s (date_group_of number ∷ dates))) (behind_unit date number.next (map letter new))
      go true is = rw (reads.next, no_digit, is) (date_step profile s dates _ _ (drop 1 (map letter new)) (group_is date))
      go false is = rw (reads.next, no_digit, is) refl

  -- A time group ends at the code unit after the number, or the code unit is an error.
  pub ends_time : (profile : Profile) (s : Sign) (dates times : List Group) → decimal_mark number.next ≡ false → nat_le number.value greatest_value ≡ true
      → from_first profile (in_times s dates times)
      ≡ after_time_group profile s dates times (record { value = number.value; fraction = None; letter = number.next }) (map letter new)
  unfolding run step
  ends_time profile s dates times miss small = reads.leads profile _ ∙ go (designator time number.next) refl
    where
      in_range : (h m : Bool) → nat_le number.value (greatest (if h then hours else (if m then minutes else seconds))) ≡ true
      in_range true m = small
      in_range false true = small
      in_range false false = small

      go : (b : Bool) → designator time number.next ≡ b → run_from profile (in_number (in_times s dates times) reads.ds) (map letter new)
          ≡ after_time_group profile s dates times (record { value = number.value; fraction = None; letter = number.next }) (map letter new)
      go true is = rw (reads.next, no_digit, is)
          (time_step profile s dates times _ _ (drop 1 (map letter new)) (group_is time) (in_range (hour_letter number.next) (minute_letter number.next)))
      go false is = rw (reads.next, no_digit, is, miss) refl

  -- The code unit after the number is a decimal mark, which was consumed.
  pub at_decimal_mark : (profile : Profile) (s : Sign) (dates times : List Group) (left : Text) → left ≡ drop 1 (map letter new) → decimal_mark number.next ≡ true
      → from_first profile (in_times s dates times) ≡ run_from profile (at_mark s dates times reads.ds) left
  unfolding run step
  at_decimal_mark profile s dates times left moved is =
      reads.leads profile _ ∙ rw (reads.next, no_digit, mark_no_designator _ is, is, moved) refl
