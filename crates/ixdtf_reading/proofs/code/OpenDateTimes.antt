-- A date-time can be read before its end, because its core says at which table line it ends.
use Rattle.std.proofs.Common.{◌≡◌, ℕ, Bool, true, false, Ok, Err, Option, Some, None, refl, pos, if◌then◌else◌}
use Rattle.ixdtf_grammar.specs.declared.records.{DateRecord.DateRecord, MinutePrecisionOffset.MinutePrecisionOffset, TimeRecord.TimeRecord}
use Rattle.ixdtf_grammar.specs.language.{Letters.{Text, zulu}, Digits.decimal, Cores.Core}
use Rattle.ixdtf_grammar.specs.table.{LineNames.LineName.of_date_time, DateTimeFronts.{point, Field.{second_field, offset_minute_field}}}
use Rattle.ixdtf_grammar.specs.table.LineNames.DateTimeLine.{four_digits, after_four_digits, after_field, after_secfrac, after_utc}
use Rattle.ixdtf_grammar.specs.language.Languages.{parsed_with}
use Rattle.ixdtf_reading.specs.reading.{Clauses.end_look, Cores.{core_end_at, internet_date_time_core_at}, DateTimes.{date_time_ends, rfc_3339_at}, Dates.date_of, Times.time_of}
use Rattle.ixdtf_reading.specs.reading.{Looks.{Read, Placed, ◌>>=◌, error_of, peek_by, letter_at, digits_at}, DateTimes.{Finish, open_end, num_offset, numeric_core, utc_core}}
use Rattle.ixdtf_reading.specs.reading.DateTimes.{offset_minute_at, num_offset_at, secfrac_digits_at, time_offset_at, secfrac_at, after_whole_second_at, whole_second_at}
use Rattle.ixdtf_reading.specs.reading.DateTimes.{whole_minute_at, full_time_at, full_day_at, full_month_at, date_time_by, line_after_offset}
use Rattle.ixdtf_reading.specs.reading.Stops.{reason_of}

module _ {A : Type 0} (finish : Finish Placed A) (last : Core → Text → Read Placed A)
    (utc : (date : DateRecord) (time : TimeRecord) (text : Text) → finish (of_date_time after_utc) (utc_core date time) text ≡ last (utc_core date time) text)
    (numeric : (date : DateRecord) (time : TimeRecord) (offset : MinutePrecisionOffset) (text : Text)
    → finish (of_date_time (after_field offset_minute_field)) (numeric_core date time offset) text ≡ last (numeric_core date time offset) text) where
  -- The end after a core that was read.
  abbrev ended : Read Placed Core → Read Placed A
  ended read = read >>= λ core. last core.0 core.1

  -- Both readings read a part first.
  part : {B : Type 0} (read : Read Placed B) (whole : B × Text → Read Placed A) (opened : B × Text → Read Placed Core)
      → ((x : B × Text) → whole x ≡ ended (opened x)) → (read >>= whole) ≡ ended (read >>= opened)
  part (Ok x) whole opened same = same x
  part (Err e) whole opened same = refl

  choice : (test : Bool) (whole other : Read Placed A) (opened other_opened : Read Placed Core) → whole ≡ ended opened → other ≡ ended other_opened
      → (if test then whole else other) ≡ ended (if test then opened else other_opened)
  choice true whole other opened other_opened same same_too = same
  choice false whole other opened other_opened same same_too = same_too

  offset_minute_open : (date : DateRecord) (time : TimeRecord) (c hour : ℕ) (text : Text)
      → offset_minute_at error_of finish date time c hour text ≡ ended (offset_minute_at error_of open_end date time c hour text)
  unfolding offset_minute_at
  offset_minute_open date time c hour text = part _ _ _ (λ minute. numeric _ _ _ minute.1)

  num_offset_open : (date : DateRecord) (time : TimeRecord) (c : ℕ) (text : Text)
      → num_offset_at error_of finish date time c text ≡ ended (num_offset_at error_of open_end date time c text)
  unfolding num_offset_at
  num_offset_open date time c text = part _ _ _ (λ hour. offset_minute_open date time c hour.0 hour.1)

  pub time_offset_open : (date : DateRecord) (time : TimeRecord) (c : ℕ) (text : Text)
      → time_offset_at error_of finish date time c text ≡ ended (time_offset_at error_of open_end date time c text)
  unfolding time_offset_at
  time_offset_open date time c text = choice (zulu c) _ _ _ _ (utc _ _ text) (num_offset_open date time c text)

  secfrac_open : (date : DateRecord) (hour minute second : ℕ) (text : Text)
      → secfrac_at error_of finish date hour minute second text ≡ ended (secfrac_at error_of open_end date hour minute second text)
  unfolding secfrac_at
  secfrac_open date hour minute second text = part (secfrac_digits_at error_of text) _ _
      (λ fraction. part (letter_at error_of (of_date_time after_secfrac) fraction.1) _
      (λ lead. time_offset_at error_of open_end date (time_of hour minute second (Some fraction.0)) lead.0 lead.1) (λ lead. time_offset_open date (time_of hour minute second (Some fraction.0)) lead.0 lead.1))

  pub after_second_open : (date : DateRecord) (hour minute second : ℕ) (text : Text)
      → after_whole_second_at error_of finish date hour minute second text ≡ ended (after_whole_second_at error_of open_end date hour minute second text)
  unfolding after_whole_second_at
  after_second_open date hour minute second text =
      part (letter_at error_of (of_date_time (after_field second_field)) text) _
      (λ lead. if point lead.0 then secfrac_at error_of open_end date hour minute second lead.1
      else time_offset_at error_of open_end date (time_of hour minute second None) lead.0 lead.1) (λ lead. choice (point lead.0) _ _ _ _ (secfrac_open date hour minute second lead.1) (time_offset_open date (time_of hour minute second None) lead.0 lead.1))

  second_open : (date : DateRecord) (hour minute : ℕ) (text : Text)
      → whole_second_at error_of finish date hour minute text ≡ ended (whole_second_at error_of open_end date hour minute text)
  unfolding whole_second_at
  second_open date hour minute text = part _ _ _ (λ second. after_second_open date hour minute second.0 second.1)

  minute_open : (date : DateRecord) (hour : ℕ) (text : Text)
      → whole_minute_at error_of finish date hour text ≡ ended (whole_minute_at error_of open_end date hour text)
  unfolding whole_minute_at
  minute_open date hour text = part _ _ _ (λ minute. second_open date hour minute.0 minute.1)

  time_open : (date : DateRecord) (text : Text) → full_time_at error_of finish date text ≡ ended (full_time_at error_of open_end date text)
  unfolding full_time_at
  time_open date text = part _ _ _ (λ hour. minute_open date hour.0 hour.1)

  day_open : (year : _) (month : ℕ) (text : Text) → full_day_at error_of finish year month text ≡ ended (full_day_at error_of open_end year month text)
  unfolding full_day_at
  day_open year month text = part _ _ _ (λ day. time_open (date_of year month day.0) day.1)

  month_open : (year : _) (text : Text) → full_month_at error_of finish year text ≡ ended (full_month_at error_of open_end year text)
  unfolding full_month_at
  month_open year text = part _ _ _ (λ month. day_open year month.0 month.1)

  pub date_time_open : (text : Text) → date_time_by error_of finish text ≡ ended (date_time_by error_of open_end text)
  unfolding date_time_by
  date_time_open text = part (digits_at error_of (of_date_time four_digits) 4 text) _ _
      (λ years. part (letter_at error_of (of_date_time after_four_digits) years.1) _
      (λ mark. full_month_at error_of open_end (pos (decimal years.0)) mark.1) (λ mark. month_open (pos (decimal years.0)) mark.1))

-- A date-time of RFC 3339, and the end of the text.
pub rfc_3339_open : (text : Text) → rfc_3339_at error_of text
    ≡ (date_time_by error_of open_end text >>= λ core. peek_by (end_look (reason_of (line_after_offset core.0.offset))) core.1 >>= λ next. Ok (parsed_with core.0 None, next.1))
unfolding date_time_ends
rfc_3339_open text = date_time_open (date_time_ends error_of)
    (λ core rest. peek_by (end_look (reason_of (line_after_offset core.offset))) rest >>= λ next. Ok (parsed_with core None, next.1))
    (λ date time rest. refl) (λ date time offset rest. refl) text

-- A date-time of RFC 3339, and the end of the text or `[`.
pub internet_date_time_open : (text : Text) → internet_date_time_core_at error_of text
    ≡ (date_time_by error_of open_end text >>= λ core. core_end_at error_of (line_after_offset core.0.offset) core.0 core.1)
internet_date_time_open text = date_time_open (core_end_at error_of) (λ core. core_end_at error_of (line_after_offset core.offset) core)
    (λ date time rest. refl) (λ date time offset rest. refl) text
