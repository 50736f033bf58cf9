-- An offset in fixed columns after its sign, if the core ends after it. The reading functions return this offset.
use Rattle.std.proofs.Common.{◌≡◌, ℕ, ◌≤◌, append_assoc, List, ◌∷◌, [], ◌++◌, map, length, drop, Option, Some, None, Ok, true, false, nat_le, refl, ap, ◌∙◌, arith}
use Rattle.std.proofs.lemmas.{Bool.Decides.nat_tests, List.{drop-map, drop_all}}
use Rattle.ixdtf_grammar.specs.declared.records.{DateRecord.DateRecord, TimeRecord.TimeRecord, MinutePrecisionOffset.MinutePrecisionOffset}
use Rattle.ixdtf_grammar.specs.{declared.records.UtcOffsetRecord.TheVariants.MinutePrecision, language.Letters.{Text, Letter, colon, Letter.Plain}}
use Rattle.ixdtf_grammar.specs.language.{Offsets.minutes_of, ZoneNames.Zone, Times.{ColonMinuteText, Clock, Clock.{Offset, MinuteOffset}}}
use Rattle.ixdtf_grammar.specs.language.Times.TimeShape.{colon_minutes}
use Rattle.ixdtf_reading.specs.reading.{Looks.{error_of, look_at, peek_by}, FixedPlaces.{letter_place, number_place, hour_place, minute_place}}
use Rattle.ixdtf_reading.specs.reading.{Times.{time_of, line_after, clock_at}, Zones.{signed_alone_at, offset_alone_at, minute_offset_alone_at}}
use Rattle.ixdtf_grammar.specs.language.Digits.{decimal}
use Rattle.ixdtf_reading.{specs.reading.DateTimes.{num_offset_at, open_end, numeric_core}, proofs.to_reading.DateTimes.{over_offset_hour, over_offset_minute}}
use Rattle.ixdtf_reading.specs.reading.Cores.{with_offset, offset_core_at, core_end_at}
use Rattle.ixdtf_reading.proofs.{parts.Looks.onto, code.FixedPlaces.{then_some, Number, number_in_range, mark_at_place, two, two_digits, over_two}}
use Rattle.ixdtf_reading.proofs.to_reading.{Times.{Closed, time_takes}, ClockRows.clock_starts}

-- If there are only five code units, nothing is left after them.
pub nothing_left : (letter : ℕ → Letter) (units : List ℕ) → length units ≡ 5 → (drop 5 units ≡ []) × (drop 5 (map letter units) ≡ [])
nothing_left letter units size = let none = drop_all 5 units (omega arith) in (none, drop-map letter 5 units ∙ ap (map letter) none)

-- The code units of an hour, a colon and a minute, and the text after them.
record OffsetLetters (text : Text) (time : TimeRecord) : Type 0 where
  letters : Text
  is : text ≡ letters ++ drop 5 text
  minutes : ColonMinuteText letters time

of_numbers : (text : Text) (hour minute : ℕ) → (h : Number 0 text hour) → drop 2 text ≡ Plain 58 ∷ drop 3 text → (m : Number 3 text minute)
    → hour ≤ 23 → minute ≤ 59 → OffsetLetters text (time_of hour minute 0 None)
of_numbers text hour minute h mark m few short =
    let hours = two_digits h refl in
    let minutes = two_digits m refl in
    record {
      letters = two h ++ (Plain 58 ∷ two m);
      is = over_two h (mark ∙ onto 58 (over_two m refl));
      minutes = record {
        hs = two h;
        ms = two m;
        is = refl;
        hour = (hours.0, hours.1, few);
        minute = (minutes.0, minutes.1, short);
        no_second = refl;
        no_fraction = refl;
      };
    }

offset_letters : (text : Text) (hour minute : ℕ) → hour_place text ≡ Some hour → minute_place text ≡ Some minute
    → OffsetLetters text (time_of hour minute 0 None)
unfolding hour_place minute_place
offset_letters text hour minute hours minutes =
    then_some (letter_place colon 2 text) _ minute minutes λ mark f e.
    let h = number_in_range 23 0 text hour hours in
    let m = number_in_range 59 3 text minute e in
    of_numbers text hour minute h.0 (mark_at_place 58 2 text mark f) m.0 h.1 m.1

module _ (c : ℕ) (text : Text) (hour minute : ℕ) (hours : hour_place text ≡ Some hour) (minutes : minute_place text ≡ Some minute) where
  abbrev there : OffsetLetters text (time_of hour minute 0 None)
  there = offset_letters text hour minute hours minutes

  abbrev offset : MinutePrecisionOffset
  offset = minutes_of c (time_of hour minute 0 None)

  -- Its code units are read as an hour and a minute, if what follows does not continue them.
  is_read : (clock : Clock) → Closed clock colon_minutes (drop 5 text) → clock_at error_of clock text ≡ Ok ((colon_minutes, time_of hour minute 0 None), drop 5 text)
  is_read clock closed =
      ap (clock_at error_of clock) there.is ∙ time_takes error_of clock _ (clock_starts error_of clock) colon_minutes there.letters _
      (drop 5 text) there.minutes closed

  -- So the offset is read after the time of a date-time.
  pub is_numeric_offset : (date : DateRecord) (time : TimeRecord)
      → num_offset_at error_of open_end date time c text ≡ Ok (numeric_core date time offset, drop 5 text)
  is_numeric_offset date time =
      let m = there.minutes in
      ap (num_offset_at error_of open_end date time c) (there.is ∙ rw m.is (simp append_assoc))
      ∙ (over_offset_hour error_of open_end date time c m.hs 58 hour m.hour refl).over (m.ms ++ drop 5 text)
      ∙ over_offset_minute error_of open_end date time c (decimal m.hs) m.ms (drop 5 text) minute m.minute
      ∙ rw (← m.hour.1, ← m.minute.1) refl

  module _ (is : drop 5 text ≡ []) where
    pub ends_the_text : offset_alone_at error_of c text ≡ Ok (MinutePrecision offset, [])
    unfolding signed_alone_at peek_by look_at
    ends_the_text = rw (is_read Offset (rw is (tt, tt)), is) refl

    pub ends_a_zone : minute_offset_alone_at error_of c text ≡ Ok (Zone.Offset offset, [])
    unfolding signed_alone_at peek_by look_at
    ends_a_zone = rw (is_read MinuteOffset (rw is (tt, tt)), is) refl

  module _ (date : Option DateRecord) (time : TimeRecord) where
    -- The code unit after the five columns is read next.
    goes_on : Closed Offset colon_minutes (drop 5 text)
        → offset_core_at error_of date time c text
        ≡ core_end_at error_of (line_after Offset colon_minutes) (with_offset date time (MinutePrecision offset)) (drop 5 text)
    unfolding offset_core_at
    goes_on closed =
        rw (is_read Offset closed) refl

    pub ends : drop 5 text ≡ [] → offset_core_at error_of date time c text ≡ Ok ((with_offset date time (MinutePrecision offset), false), [])
    unfolding core_end_at peek_by look_at
    ends is = goes_on (rw is (tt, tt)) ∙ rw is refl

    pub goes_into_a_bracket : (rest : Text) → drop 5 text ≡ Plain 91 ∷ rest
        → offset_core_at error_of date time c text ≡ Ok ((with_offset date time (MinutePrecision offset), true), rest)
    unfolding core_end_at peek_by look_at
    goes_into_a_bracket rest is = goes_on (rw is (refl, refl)) ∙ rw is refl
