-- The canonical text of a record of `parse_time`: of the texts for which the reader returns it, the one that is printed.
use Rattle.std.specs.Prelude.{[], ◌++◌, Option, Some, None}
use Rattle.ixdtf_grammar.specs.declared.{profile.Profile.{Profile, TheVariants.Crate}, records.TimeRecord.TimeRecord}
use Rattle.ixdtf.specs.{Handlers.UnhandledRecord, language.{Letters.Text, Languages.Parsed, Readers.parse_time}}
use Rattle.ixdtf_print.specs.{Canonical.{clock_text, offset_text, brackets_text}, Printing.{HasText, HasOneText, FitsWithin}}

-- `parse_time` returns the record for the text under the profile, with each annotation as its own reply.
abbrev pub IsTimeText : Profile → Text → Parsed → Type 0
IsTimeText profile text found = UnhandledRecord (parse_time profile) text found

-- The text is the clock without a `T`, if there is a time.
abbrev pub unmarked_time_text : Option TimeRecord → Text
unmarked_time_text None = []
unmarked_time_text (Some time) = clock_text time.hour time.minute time.second time.fraction

-- The text is the time and the offset.
unfoldable pub time_core_text : Parsed → Text
time_core_text found = unmarked_time_text found.time ++ offset_text found.offset

-- The text is the time and the offset, and then the brackets.
unfoldable pub lone_time_text : Parsed → Text
lone_time_text found = time_core_text found ++ brackets_text found

-- `parse_time` returns the record for some text under the default profile. If it returns the record for a text under the other
-- profile, there is such a text too.
abbrev pub IsPrintableTime : Parsed → Type 0
IsPrintableTime found = HasText (IsTimeText Crate) found

-- Under each profile, `parse_time` returns the record for its canonical text, which is that of no other record of a time.
abbrev pub IsTimeReadBack : Parsed → Type 0
IsTimeReadBack found = (profile : Profile) → HasOneText (IsTimeText profile) lone_time_text found

-- The canonical text of a record has at most 12 code units more than each text for which `parse_time` returns the record.
abbrev pub TimeFits : Type 0
TimeFits = (profile : Profile) → FitsWithin 12 (IsTimeText profile) lone_time_text

abbrev pub TimeIsReadBack : Type 0
TimeIsReadBack = (profile : Profile) (found : Parsed) → HasText (IsTimeText profile) found → IsTimeReadBack found
