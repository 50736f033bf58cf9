-- The canonical text of a record of `parse_year_month`: of the texts for which the reader returns it, the one that is printed.
use Rattle.std.specs.Prelude.{[], ◌∷◌, ◌++◌, Option, Some, None}
use Rattle.ixdtf_grammar.specs.declared.records.DateRecord.{DateRecord}
use Rattle.ixdtf.specs.{Handlers.UnhandledRecord, language.{Letters.{Text, Letter.Plain}, Languages.Parsed, Readers.parse_year_month}}
use Rattle.ixdtf_print.specs.{Canonical.{two_digits, year_text, brackets_text}, Printing.{HasText, HasOneText, EachIsReadBack, FitsWithin}}

-- `parse_year_month` returns the record for the text, with each annotation as its own reply.
abbrev pub IsYearMonthText : Text → Parsed → Type 0
IsYearMonthText text found = UnhandledRecord parse_year_month text found

-- The text is `Year-Month`.
unfoldable pub month_text : DateRecord → Text
month_text date = year_text date.year ++ (Plain 45 ∷ two_digits date.month)

-- The text is the year and the month, if there is a date.
abbrev pub optional_month_text : Option DateRecord → Text
optional_month_text None = []
optional_month_text (Some date) = month_text date

-- The text is the year and the month, and then the brackets.
unfoldable pub year_month_text : Parsed → Text
year_month_text found = optional_month_text found.date ++ brackets_text found

-- `parse_year_month` returns the record for some text.
abbrev pub IsPrintableYearMonth : Parsed → Type 0
IsPrintableYearMonth found = HasText IsYearMonthText found

-- `parse_year_month` returns the record for its canonical text, which is that of no other record of a year and a month.
abbrev pub IsYearMonthReadBack : Parsed → Type 0
IsYearMonthReadBack found = HasOneText IsYearMonthText year_month_text found

-- The canonical text of a record has at most 4 code units more than each text for which `parse_year_month` returns the record.
abbrev pub YearMonthFits : Type 0
YearMonthFits = FitsWithin 4 IsYearMonthText year_month_text

abbrev pub YearMonthIsReadBack : Type 0
YearMonthIsReadBack = EachIsReadBack IsYearMonthText year_month_text
