-- The reading of a core that begins with a date and a time in fixed columns continues after their second.
use Rattle.std.proofs.Common.{◌≡◌, ℕ, IsTrue, ◌∷◌, ◌++◌, refl, ap, ◌∙◌, inl, inr}
use Rattle.ixdtf_grammar.specs.{declared.records.{DateRecord.DateRecord, TimeRecord.TimeRecord}, language.Letters.{Text, date_time_separator, Letter.Plain}}
use Rattle.ixdtf_grammar.specs.language.{Dates.IsDate, Times.Clock.Time, FixedPlaces.{FixedDate, FixedDateTime}}
use Rattle.ixdtf_reading.specs.reading.{Looks.{error_of, look_at}, Times.{after_second_at, clock_at}}
use Rattle.ixdtf_reading.specs.reading.Cores.{time_core_at, whole_time_core_at, after_date_at, date_time_core_at}
use Rattle.ixdtf_reading.proofs.to_reading.{Dates.date_takes, Times.over_seconds, ClockRows.clock_starts}

fixed_is_date : (text : Text) (date : DateRecord) → FixedDate text date → IsDate text date
fixed_is_date text date d =
    (inr (record { years = d.years; months = d.months; days = d.days; is = d.is; year = inl d.year; month = d.month; day = d.day }), d.in_month)

over_separator : (date : DateRecord) (c : ℕ) (rest : Text) → IsTrue (date_time_separator c)
    → after_date_at error_of date (Plain c ∷ rest) ≡ time_core_at error_of date rest
unfolding after_date_at look_at
over_separator date c rest h = rw h refl

pub fixed_core : (text : Text) (date : DateRecord) (time : TimeRecord) (rest : Text) → FixedDateTime text date time rest
    → date_time_core_at error_of text ≡ whole_time_core_at error_of date time.hour time.minute time.second rest
unfolding date_time_core_at time_core_at whole_time_core_at
fixed_core text date time rest f =
    let after = Plain f.separator ∷ (f.times ++ rest) in
    let dated = date_takes error_of f.dates date after (fixed_is_date f.dates date f.is_date) in
    let timed : clock_at error_of Time (f.times ++ rest) ≡ after_second_at error_of Time time.hour time.minute time.second rest =
    (over_seconds error_of Time _ (clock_starts error_of Time) f.times time (inr f.is_time)).over rest in
    ap (date_time_core_at error_of) f.is ∙ rw dated (over_separator date f.separator _ f.separates ∙ rw timed refl)
