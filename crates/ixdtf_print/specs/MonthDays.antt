-- The canonical text of a record of `parse_month_day`: of the texts for which the reader returns it, the one that is printed.
use Rattle.std.specs.Prelude.{[], ◌∷◌, ◌++◌, Option, Some, None}
use Rattle.ixdtf_grammar.specs.declared.{profile.Profile.{Profile, TheVariants.Crate}, records.DateRecord.DateRecord}
use Rattle.ixdtf.specs.{Handlers.UnhandledRecord, language.{Letters.{Text, Letter.Plain}, Languages.Parsed, Readers.parse_month_day}}
use Rattle.ixdtf_print.specs.{Canonical.{two_digits, brackets_text}, Printing.{HasText, HasOneText, EachIsReadBack, FitsWithin}}

-- `parse_month_day` returns the record for the text under the profile, with each annotation as its own reply.
abbrev pub IsMonthDayText : Profile → Text → Parsed → Type 0
IsMonthDayText profile text found = UnhandledRecord (parse_month_day profile) text found

-- The text is `Month-Day`.
unfoldable pub day_text : DateRecord → Text
day_text date = two_digits date.month ++ (Plain 45 ∷ two_digits date.day)

-- The text is the month and the day, if there is a date.
abbrev pub optional_day_text : Option DateRecord → Text
optional_day_text None = []
optional_day_text (Some date) = day_text date

-- The text is the month and the day, and then the brackets.
unfoldable pub month_day_text : Parsed → Text
month_day_text found = optional_day_text found.date ++ brackets_text found

-- `parse_month_day` returns the record for some text under the default profile. If it returns the record for a text under the
-- strict profile, it also returns it for a text under the default one.
abbrev pub IsPrintableMonthDay : Parsed → Type 0
IsPrintableMonthDay found = HasText (IsMonthDayText Crate) found

-- If `parse_month_day` returns the record for some text under a profile, it returns the record for its canonical text under this
-- profile, and the canonical text is that of no other record of a month and a day. Under the default profile this is always so.
pub record IsMonthDayReadBack (found : Parsed) : Type 0 where
  pub same : HasOneText (IsMonthDayText Crate) month_day_text found
  pub profiles : (profile : Profile) → HasText (IsMonthDayText profile) found → HasOneText (IsMonthDayText profile) month_day_text found

-- The canonical text of a record has at most 4 code units more than each text for which `parse_month_day` returns the record.
abbrev pub MonthDayFits : Type 0
MonthDayFits = (profile : Profile) → FitsWithin 4 (IsMonthDayText profile) month_day_text

abbrev pub MonthDayIsReadBack : Type 0
MonthDayIsReadBack = (profile : Profile) → EachIsReadBack (IsMonthDayText profile) month_day_text
