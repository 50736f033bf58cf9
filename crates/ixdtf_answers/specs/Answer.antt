-- Defines the answer to one line, without its newline.
use Rattle.std.specs.{Prelude.{◌≡◌, ◌≢◌, ℕ, ◌+◌, Bool, ◌==◌, ◌⊎◌, List, ◌++◌, map, length, take, drop, nat_lt, Option, Some, None, MatchOption, position, codes}, Bool.MatchBool, Fmt.decimal}
use Rattle.ixdtf_grammar.specs.declared.records.{DateRecord.DateRecord, TimeRecord.TimeRecord, UtcOffsetRecordOrZ.UtcOffsetRecordOrZ}
use Rattle.ixdtf_grammar.specs.{Instants.instant_count, ReasonNames.reason_name}
use Rattle.ixdtf_explanations.specs.Parts.{IsPart, extent_of}
use Rattle.ixdtf_grammar.specs.declared.reason.Reason.{Reason}
use Rattle.ixdtf_explanations.specs.declared.part.WrongPart.{WrongPart}
use Rattle.ixdtf.specs.{table.{ErrorTexts.message_of, Faults.Fault}, Widths.{HasUnhandledOutcome, UnhandledOutcome.{read_as, faulted}}}
use Rattle.ixdtf.specs.language.{Languages.{Parsed, Found, Found.{parsed, dated, shifted, identified, named, lasting}}, Letters.{Text, byte_letter}, Readers.Reader}
use Rattle.ixdtf_print.specs.{Canonical.canonical_text, Times.lone_time_text, YearMonths.year_month_text, MonthDays.month_day_text}
use Rattle.ixdtf_answers.specs.{Fields.{fields_of, canonical_field_by, instant_text_of}, Word.{name_of, reader_of, explain, IsNoWord}, Errors.RefusesAt, declared.word.Word.{Word, TheVariants.Parse}}
use Rattle.ixdtf_answers.specs.declared.word.Word.TheVariants.{YearMonth, MonthDay, Time, Offset, Zone, Iana, Duration, StrictMonthDay, StrictTime}
use Rattle.ixdtf_answers.specs.declared.word.Word.TheVariants.{StrictDuration, Canonical, Rfc3339, ZoneName, Rfc9557, CanonicalOffset, CanonicalZone, CanonicalDuration, Instant, CanonicalTime, CanonicalYearMonth, CanonicalMonthDay}

-- A line with more bytes than this is too long.
abbrev pub line_limit : ℕ
line_limit = 4096

abbrev pub too_long : List ℕ
too_long = codes "error line too long"

abbrev pub unknown_reader : List ℕ
unknown_reader = codes "error unknown reader"

abbrev pub no_instant : List ℕ
no_instant = codes "error no instant"

abbrev pub is_space : ℕ → Bool
is_space byte = byte == 32

-- These are the characters that the bytes stand for in the definitions.
abbrev pub letters : List ℕ → Text
letters bytes = map byte_letter bytes

-- The answer has the fields of the value that a reader returned.
abbrev pub fields_answer_of : Found → List ℕ
fields_answer_of found = codes "ok" ++ fields_of found

-- The answer has the canonical text of the value. `text_of` gives the canonical text of a record of dates and times.
abbrev pub canonical_answer_by : (Parsed → Text) → Found → List ℕ
canonical_answer_by text_of found = codes "ok" ++ canonical_field_by text_of found

-- The answer has the instant of a date, a time, and an offset or `Z`, if all three are present (`instant_count` of
-- `Instants.antt`).
abbrev pub instant_answer_of : Option DateRecord → Option TimeRecord → Option UtcOffsetRecordOrZ → List ℕ
instant_answer_of (Some date) (Some time) (Some offset) = codes "ok" ++ instant_text_of (instant_count date time offset)
instant_answer_of (Some date) (Some time) None = no_instant
instant_answer_of (Some date) None offset = no_instant
instant_answer_of None time offset = no_instant

-- The answer has the instant of the value that a reader returned. Only a record of dates and times can have one.
abbrev pub found_instant_of : Found → List ℕ
found_instant_of (parsed found) = instant_answer_of found.date found.time found.offset
found_instant_of (dated found) = instant_answer_of found.date found.time found.offset
found_instant_of (shifted offset) = no_instant
found_instant_of (identified zone) = no_instant
found_instant_of (named name) = no_instant
found_instant_of (lasting duration) = no_instant

-- The answer to an accepted text has the fields of the value, its canonical text, or its instant.
abbrev pub read_answer_of : Word → Found → List ℕ
read_answer_of Parse found = fields_answer_of found
read_answer_of YearMonth found = fields_answer_of found
read_answer_of MonthDay found = fields_answer_of found
read_answer_of Time found = fields_answer_of found
read_answer_of Offset found = fields_answer_of found
read_answer_of Zone found = fields_answer_of found
read_answer_of Iana found = fields_answer_of found
read_answer_of Duration found = fields_answer_of found
read_answer_of StrictMonthDay found = fields_answer_of found
read_answer_of StrictTime found = fields_answer_of found
read_answer_of StrictDuration found = fields_answer_of found
read_answer_of Canonical found = canonical_answer_by canonical_text found
read_answer_of Rfc3339 found = fields_answer_of found
read_answer_of ZoneName found = fields_answer_of found
read_answer_of Rfc9557 found = fields_answer_of found
read_answer_of CanonicalOffset found = canonical_answer_by canonical_text found
read_answer_of CanonicalZone found = canonical_answer_by canonical_text found
read_answer_of CanonicalDuration found = canonical_answer_by canonical_text found
read_answer_of Instant found = found_instant_of found
read_answer_of CanonicalTime found = canonical_answer_by lone_time_text found
read_answer_of CanonicalYearMonth found = canonical_answer_by year_month_text found
read_answer_of CanonicalMonthDay found = canonical_answer_by month_day_text found

-- The answer to a refused text has the message of the error.
abbrev pub error_answer_of : Fault → List ℕ
error_answer_of fault = codes "error " ++ message_of fault

-- The reader accepts the text, and returns this value. If the texts of the reader can have brackets, the reply to each annotation
-- is the annotation itself, as without a handler. For other readers, there are no annotations.
abbrev pub Gives : Reader → Text → Found → Type 0
Gives reader text found = HasUnhandledOutcome reader text (read_as found)

-- The reader refuses the text with this error. If the texts of the reader can have brackets, the reply to each annotation is the
-- annotation itself, as without a handler. For other readers, there are no annotations.
abbrev pub Refuses : Reader → Text → Fault → Type 0
Refuses reader text fault = HasUnhandledOutcome reader text (faulted fault)

-- The reader of the word accepts the text, and this is the answer for its value.
abbrev pub IsReadAnswer : Word → List ℕ → List ℕ → Type 0
IsReadAnswer word text answer = (found : Found) × Gives (reader_of word) (letters text) found × (answer ≡ read_answer_of word found)

-- The reader of the word accepts the text, and this is the answer for its value. Or it refuses the text, and this is the answer for
-- its error.
abbrev pub IsOutcome : Word → List ℕ → List ℕ → Type 0
IsOutcome word text answer =
    IsReadAnswer word text answer
    ⊎ ((fault : Fault) × Refuses (reader_of word) (letters text) fault × (answer ≡ error_answer_of fault))

-- This explains why a text is refused: it has the position of the error, the part of the text that is wrong, and the name of the reason.
abbrev pub refusal_of : ℕ → WrongPart → Reason → List ℕ
refusal_of at part reason =
    codes "error at=" ++ (decimal at ++ (codes " part=" ++ (decimal part.begin ++ (codes ".." ++ (decimal part.end ++ (codes " reason=" ++ reason_name reason))))))

-- The reader refuses the text at a position and for a reason, and the answer explains this.
pub record ExplainsRefusal (reader : Reader) (text answer : List ℕ) : Type 0 where
  pub at : ℕ
  pub reason : Reason
  pub refuses : RefusesAt reader (letters text) at reason
  pub part : WrongPart
  pub is_part : IsPart (extent_of reason) text at part
  pub is : answer ≡ refusal_of at part reason

-- The reader of the word accepts the text, and this is the answer for its value. Or it refuses the text, and the answer explains why.
abbrev pub IsExplanation : Word → List ℕ → List ℕ → Type 0
IsExplanation word text answer = IsReadAnswer word text answer ⊎ ExplainsRefusal (reader_of word) text answer

-- This is the explanation of the word that has the name and of the text, or the answer that there is no such word.
abbrev pub IsNamedExplanation : List ℕ → List ℕ → List ℕ → Type 0
IsNamedExplanation name text answer =
    ((word : Word) × (name ≡ name_of word) × IsExplanation word text answer)
    ⊎ (IsNoWord name × (answer ≡ unknown_reader))

-- This is the answer to `explain`, a space and these bytes. They have to be a word, a space and a text.
abbrev pub IsExplainAnswer : List ℕ → List ℕ → Type 0
IsExplainAnswer bytes answer = MatchOption (position is_space bytes)
    (answer ≡ unknown_reader)
    (λ place. IsNamedExplanation (take place bytes) (drop (place + 1) bytes) answer)

-- This is the answer of the reader that the name names, or the explanation if the name is `explain`, or the answer that there is no
-- such reader.
abbrev pub IsReaderAnswer : List ℕ → List ℕ → List ℕ → Type 0
IsReaderAnswer name text answer =
    ((word : Word) × (name ≡ name_of word) × IsOutcome word text answer)
    ⊎ (((name ≡ explain) × IsExplainAnswer text answer)
    ⊎ (IsNoWord name × (name ≢ explain) × (answer ≡ unknown_reader)))

-- This is the answer to a line.
abbrev pub IsAnswer : List ℕ → List ℕ → Type 0
IsAnswer line answer = MatchBool (nat_lt line_limit (length line))
    (answer ≡ too_long)
    (MatchOption (position is_space line)
    (answer ≡ unknown_reader)
    (λ place. IsReaderAnswer (take place line) (drop (place + 1) line) answer))
