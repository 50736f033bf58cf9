-- The canonical text of a duration: of the texts for which the parser returns it, the one that is printed.
use Rattle.std.specs.Prelude.{ℕ, ◌≤◌, Bool, [], ◌∷◌, ◌++◌, map, length, codes, Option, Some, None, nat_eq, ◌&&◌, if◌then◌else◌}
use Rattle.std.specs.Fmt.{decimal}
use Rattle.ixdtf_grammar.specs.declared.{profile.Profile.{Profile, TheVariants.Crate}, records.Sign.{Sign, TheVariants.{Positive, Negative}}}
use Rattle.ixdtf_grammar.specs.declared.records.{DurationParseRecord.DurationParseRecord, DateDurationRecord.DateDurationRecord}
use Rattle.ixdtf_grammar.specs.declared.records.TimeDurationRecord.{TimeDurationRecord, TheVariants.{Hours, Minutes, Seconds}}
use Rattle.ixdtf.specs.language.{Letters.{Text, Letter.Plain}, Fractions.FractionParts, Languages.{Derives, Found.lasting}, Readers.Reader.parse_duration}
use Rattle.ixdtf_print.specs.{Canonical.fraction_text, Printing.{HasText, HasOneText}}

-- The parser of durations returns the record for the text under the profile.
abbrev pub IsDurationText : Profile → Text → DurationParseRecord → Type 0
IsDurationText profile text duration = Derives (parse_duration profile) text (lasting duration) []

-- ---- the text

-- The text is the number without leading zeros.
abbrev pub number_text : ℕ → Text
number_text number = map Plain (decimal number)

-- The text is the number and the letter of its duration unit. It is empty if the number is zero.
abbrev pub unit_text : ℕ → ℕ → Text
unit_text number letter = if nat_eq number 0 then [] else (number_text number ++ (Plain letter ∷ []))

-- The text is the years, months, weeks and days.
unfoldable pub date_units_text : DateDurationRecord → Text
date_units_text date = unit_text date.years 89 ++ (unit_text date.months 77 ++ (unit_text date.weeks 87 ++ unit_text date.days 68))

abbrev pub has_no_unit : DateDurationRecord → Bool
has_no_unit date = nat_eq date.years 0 && nat_eq date.months 0 && nat_eq date.weeks 0 && nat_eq date.days 0

-- If there is a date, the text is its duration units that are not zero, or `0D` if all of them are zero.
abbrev pub date_part_text : Option DateDurationRecord → Text
date_part_text None = []
date_part_text (Some date) = if has_no_unit date then map Plain (codes "0D") else date_units_text date

-- The text is the last number of a time with its fraction and the letter of its duration unit. It is written even if it is zero.
unfoldable pub last_text : ℕ → Option FractionParts → ℕ → Text
last_text number fraction letter = number_text number ++ (fraction_text fraction ++ (Plain letter ∷ []))

-- The text is the hours, minutes and seconds, up to the last duration unit of the record.
abbrev pub time_units_text : TimeDurationRecord → Text
time_units_text (Hours hours fraction) = last_text hours fraction 72
time_units_text (Minutes hours minutes fraction) = unit_text hours 72 ++ last_text minutes fraction 77
time_units_text (Seconds hours minutes seconds fraction) = unit_text hours 72 ++ (unit_text minutes 77 ++ last_text seconds fraction 83)

-- The fraction of the last duration unit of a time, if there is one.
abbrev pub last_fraction : Option TimeDurationRecord → Option FractionParts
last_fraction None = None
last_fraction (Some (Hours hours fraction)) = fraction
last_fraction (Some (Minutes hours minutes fraction)) = fraction
last_fraction (Some (Seconds hours minutes seconds fraction)) = fraction

-- The text is `T` and the time, if there is one.
abbrev pub time_part_text : Option TimeDurationRecord → Text
time_part_text None = []
time_part_text (Some time) = Plain 84 ∷ time_units_text time

-- The text is `P`, with a `-` before it if the duration is negative.
abbrev pub start_text : Sign → Text
start_text Positive = map Plain (codes "P")
start_text Negative = map Plain (codes "-P")

unfoldable pub duration_text : DurationParseRecord → Text
duration_text duration = start_text duration.sign ++ (date_part_text duration.date ++ time_part_text duration.time)

-- ---- what holds of it

-- The parser returns the duration for some text.
abbrev pub IsPrintableDuration : DurationParseRecord → Type 0
IsPrintableDuration duration = HasText (IsDurationText Crate) duration

-- Under each profile, the parser returns the duration for its canonical text, which is that of no other duration.
abbrev pub IsDurationReadBack : DurationParseRecord → Type 0
IsDurationReadBack duration = (profile : Profile) → HasOneText (IsDurationText profile) duration_text duration

-- The canonical text of a duration is at most as long as each text for which the parser returns the duration.
abbrev pub DurationFits : Type 0
DurationFits = (profile : Profile) (text : Text) (duration : DurationParseRecord) → IsDurationText profile text duration → length (duration_text duration) ≤ length text

abbrev pub DurationIsReadBack : Type 0
DurationIsReadBack = (duration : DurationParseRecord) → IsPrintableDuration duration → IsDurationReadBack duration
