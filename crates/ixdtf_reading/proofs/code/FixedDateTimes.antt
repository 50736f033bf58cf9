-- A date-time of RFC 3339 that begins with a date, `T` or `t` and a time in fixed columns. Reading goes on after its seconds.
use Rattle.std.proofs.Common.{◌≡◌, ℕ, IsTrue, Ok, Err, Some, pos, [], ◌∷◌, ◌++◌, refl, sym, ap, ◌∙◌, append_assoc}
use Rattle.ixdtf_grammar.specs.declared.records.{DateRecord.DateRecord, TimeRecord.TimeRecord}
use Rattle.ixdtf_grammar.specs.language.{Letters.{Text, hyphen, time_letter, Letter.Plain}, Digits.decimal, FixedPlaces.{FixedDate, FixedDateTime}}
use Rattle.ixdtf_grammar.specs.{language.DateTimes.IsFullDate, table.{DateTimeFronts.ThroughSecond, LineNames.{LineName.of_date_time, DateTimeLine.{four_digits, after_four_digits}}}}
use Rattle.ixdtf_reading.specs.reading.Looks.{Read, Placed, ◌>>=◌, error_of, next_by, digits_by, digit_look, look_for, as_number}
use Rattle.ixdtf_reading.specs.reading.{FixedPlaces.byte_place, Stops.reason_of, DateTimes.{Finish, after_whole_second_at, full_month_at, date_time_by}}
use Rattle.ixdtf_reading.proofs.to_reading.DateTimes.{over_through_second}

full_date : (text : Text) (date : DateRecord) → FixedDate text date → IsFullDate text date
full_date text date d = (
  record { years = d.years; months = d.months; days = d.days; is = d.is; year = d.year; month = d.month; day = d.day },
  d.in_month,
)

-- The separator is the eleventh code unit.
pub separator_is : (text : Text) (date : DateRecord) (time : TimeRecord) (rest : Text) (f : FixedDateTime text date time rest) → byte_place 10 text ≡ f.separator
separator_is text date time rest f =
    let d = f.is_date in
    let y = d.year.0 in
    let m = d.month.0.0 in
    let n = d.day.0 in
    rw (f.is, d.is, y.2, y.4.2, y.4.4.2, y.4.4.4.2, y.4.4.4.4, m.2, m.4.2, m.4.4, n.2, n.4.2, n.4.4) refl

pub fixed_date_time : {A : Type 0} (finish : Finish Placed A) (text : Text) (date : DateRecord) (time : TimeRecord) (rest : Text)
    → IsTrue (time_letter (byte_place 10 text)) → FixedDateTime text date time rest
    → date_time_by error_of finish text ≡ after_whole_second_at error_of finish date time.hour time.minute time.second rest
fixed_date_time finish text date time rest letter f =
    let t = f.is_time in
    let marked : IsTrue (time_letter f.separator) = ap time_letter (sym (separator_is text date time rest f)) ∙ letter in
    let until_hour : Text = f.dates ++ (Plain f.separator ∷ []) in
    let until_minute : Text = until_hour ++ (t.hs ++ (Plain 58 ∷ [])) in
    let until_second : Text = until_minute ++ (t.ms ++ (Plain 58 ∷ [])) in
    let through : ThroughSecond (until_second ++ t.ss) = (
      until_second,
      t.ss,
      refl,
      (
        until_minute,
        t.ms ++ (Plain 58 ∷ []),
        refl,
        (
          until_hour,
          t.hs ++ (Plain 58 ∷ []),
          refl,
          (f.dates, Plain f.separator ∷ [], refl, (date, full_date f.dates date f.is_date), (f.separator, refl, marked)),
          (t.hs, Plain 58 ∷ [], refl, (time.hour, t.hour), (58, refl, refl)),
        ),
        (t.ms, Plain 58 ∷ [], refl, (time.minute, t.minute), (58, refl, refl)),
      ),
      (time.second, t.second),
    ) in
    let is : text ≡ (until_second ++ t.ss) ++ rest = f.is ∙ rw t.is (simp append_assoc) in
    ap (date_time_by error_of finish) is ∙ (over_through_second error_of finish (until_second ++ t.ss) through).over rest
    ∙ (λ i. after_whole_second_at error_of finish date (sym t.hour.1 i) (sym t.minute.1 i) (sym t.second.1 i) rest)

-- A date-time is read as the number of its year, and then the rest.
pub year_then : {A : Type 0} (finish : Finish Placed A) (text : Text) → date_time_by error_of finish text
    ≡ (as_number (digits_by (digit_look (reason_of (of_date_time four_digits))) 4 text) >>= λ year. next_by (look_for hyphen (reason_of (of_date_time after_four_digits))) year.1
    >>= λ mark. full_month_at error_of finish (pos year.0) mark.1)
unfolding date_time_by
year_then {A} finish text = go (digits_by (digit_look (reason_of (of_date_time four_digits))) 4 text)
  where
    go : (r : Read Placed Text) → (r >>= λ years. next_by (look_for hyphen (reason_of (of_date_time after_four_digits))) years.1
        >>= λ mark. full_month_at error_of finish (pos (decimal years.0)) mark.1)
        ≡ (as_number r >>= λ year. next_by (look_for hyphen (reason_of (of_date_time after_four_digits))) year.1 >>= λ mark. full_month_at error_of finish (pos year.0) mark.1)
    go (Ok x) = refl
    go (Err e) = refl
