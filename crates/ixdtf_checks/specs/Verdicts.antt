-- Defines the verdict on a line.
use Rattle.std.specs.{Prelude.{◌≡◌, ◌⊎◌, ℕ, Bool, true, ◌+◌, List, [], ◌∷◌, ◌++◌, length, nat_lt, codes, IsUtf8, Option, Some, None}, Bool.MatchBool}
use Rattle.ixdtf_grammar.specs.declared.profile.Profile.{Profile}
use Rattle.ixdtf_explanations.specs.declared.located.{LocatedError.LocatedError, LocatedReason.LocatedReason}
use Rattle.ixdtf_explanations.specs.declared.part.WrongPart.{WrongPart}
use Rattle.ixdtf_explanations.specs.LocatedTexts.{pointed_text}
use Rattle.ixdtf_explanations.specs.Parts.{IsPart, extent_of}
use Rattle.ixdtf_grammar.specs.{Widths.{HasUnhandledOutcome, byte_text, UnhandledOutcome.read_as}, language.{Languages.{Found}}}
use Rattle.ixdtf_grammar.specs.{language.Readers.{Reader}}
use Rattle.ixdtf_buffers.specs.Lines.{newline}
use Rattle.ixdtf_checks.specs.{declared.{line_part.Lost.{Lost, TheVariants.{NoField, Broken}}, request.{Request.Request, Task.{Task, TheVariants.{Check, Print, Order}}}}, Kinds.{has_offset, reader_of, instant_reader_of}}
use Rattle.ixdtf_instants.specs.declared.instant.Instant.{Instant}
use Rattle.ixdtf_checks.specs.{Canonicals.IsCanonical, Order.{IsTimed, IsUntimed, IsTooEarly}, Csv.{quoting_message, quoting_name}, Parts.{Text, HasText, IsLost, line_in, width_of}, Skipped.is_skipped, Spaced.{HasHint, SaysWhy}, Errors.HasError}

-- What a report says about a refused line. `column` is where the wrong part begins, and `end` is after its last byte. Both are counted in
-- bytes from 1. `reason` is the name of the reason, and `lines` are the lines under the message.
pub record Refusal : Type 0 where
  pub column : ℕ
  pub end : ℕ
  pub reason : List ℕ
  pub message : List ℕ
  pub lines : List ℕ

-- This is the line with the hint.
abbrev pub hint_line : Option (List ℕ) → List ℕ
hint_line None = []
hint_line (Some hint) = codes "hint: " ++ (hint ++ newline ∷ [])

-- Why a line is refused.
-- `whole`: the line has no text. It is refused at this column, for the reason with this name, with this message.
-- `marked`: the text with these bytes is refused as a whole, for the reason with this name, with this message. It begins at this column.
-- `unread`: a reader refuses the text for this reason, at this position. The first value says whether an offset may follow a time in the
-- text.
pub data Cause : Type 0 where
  whole : ℕ → List ℕ → List ℕ → Cause
  marked : ℕ → List ℕ → List ℕ → List ℕ → Cause
  unread : Bool → Text → LocatedReason → Cause

-- `accepted`: the line is accepted, and has this instant if its text was read for its instant.
-- `printed`: the text is accepted, and this is its canonical text.
-- `skipped`: the line is skipped.
-- `refused`: the line is refused for this cause. It has an instant if its text is accepted, but is too early.
pub data Verdict : Type 0 where
  accepted : Option Instant → Verdict
  printed : List ℕ → Verdict
  skipped : Verdict
  refused : Option Instant → Cause → Verdict

-- This is what a report says if the line, or its text, is refused as a whole at this column.
abbrev pub refusal_at : ℕ → List ℕ → List ℕ → List ℕ → Refusal
refusal_at column reason message lines = record { column = column; end = column; reason = reason; message = message; lines = lines }

-- A line with more bytes than this is refused, and no reader reads its text.
abbrev pub line_limit : ℕ
line_limit = 65536

-- The reader accepts the text, without a handler.
abbrev pub IsRead : Reader → List ℕ → Type 0
IsRead reader bytes = (found : Found) × HasUnhandledOutcome reader (byte_text bytes) (read_as found)

-- These lines show a part of a text: the text, and marks under the part. There are no lines if the text is not UTF-8.
abbrev pub ShowsPart : List ℕ → WrongPart → List ℕ → Type 0
ShowsPart bytes part lines =
    (IsUtf8 bytes × (lines ≡ pointed_text bytes part.begin part.end ++ newline ∷ [])) ⊎ (¬ (IsUtf8 bytes) × (lines ≡ []))

-- The report says why a reader refuses the text, for this reason and at this position.
pub record Explains (has_offset : Bool) (text : Text) (error : LocatedReason) (refusal : Refusal) : Type 0 where
  pub part : WrongPart
  pub is_part : IsPart (extent_of error.reason) text.bytes error.at part
  pub column : refusal.column ≡ text.start + width_of text part.begin + 1
  pub end : refusal.end ≡ text.start + width_of text part.end + 1
  pub says : SaysWhy has_offset text.bytes error part refusal.reason refusal.message
  pub shows : ShowsPart text.bytes part refusal.lines

-- A report about a line that is refused for the cause says this. The mark under a text that is refused as a whole is under its first
-- character.
abbrev pub Tells : Cause → Refusal → Type 0
Tells (whole column reason message) refusal = refusal ≡ refusal_at column reason message []
Tells (marked column bytes reason message) refusal =
    (refusal ≡ refusal_at column reason message refusal.lines) × ShowsPart bytes (record { begin = 0; end = 0 }) refusal.lines
Tells (unread has_offset text error) refusal = Explains has_offset text error refusal

-- This is the hint about a line that is refused for the cause, if there is one. There is none if the line or its text is refused as a
-- whole.
abbrev pub IsHintAbout : Cause → Option (List ℕ) → Type 0
IsHintAbout (whole column reason message) hint = hint ≡ None
IsHintAbout (marked column bytes reason message) hint = hint ≡ None
IsHintAbout (unread has_offset text error) hint =
    (part : WrongPart) × IsPart (extent_of error.reason) text.bytes error.at part × HasHint has_offset text.bytes error part hint

-- This is the reason of an error, with the position of the error.
abbrev pub reason_at : LocatedError → LocatedReason
reason_at error = record { at = error.at; reason = error.reason }

-- The reader refuses the text, and this is the cause.
abbrev pub IsUnread : Bool → Reader → Text → Cause → Type 0
IsUnread has_offset reader text cause =
    (error : LocatedError) × HasError reader (byte_text text.bytes) error × (cause ≡ unread has_offset text (reason_at error))

-- This is the cause if the complete text is refused. The column is that of the first byte of the text in the line.
abbrev pub marked_text : Text → List ℕ → List ℕ → Cause
marked_text text reason message = marked (text.start + 1) text.bytes reason message

-- This is the verdict on a text that has to name an instant. The text is accepted if the reader accepts it, and if it names an
-- instant that is not before `last`.
abbrev pub IsOrderVerdict : Reader → Option Instant → Text → Verdict → Type 0
IsOrderVerdict reader last text (accepted None) = ⊥
IsOrderVerdict reader last text (accepted (Some instant)) = IsTimed reader text.bytes instant × ¬ (IsTooEarly instant last)
IsOrderVerdict reader last text (printed canonical) = ⊥
IsOrderVerdict reader last text skipped = ⊥
IsOrderVerdict reader last text (refused None cause) =
    IsUnread true reader text cause ⊎ (IsUntimed reader text.bytes × (cause ≡ marked_text text (codes "no_instant") (codes "no instant")))
IsOrderVerdict reader last text (refused (Some instant) cause) =
    IsTimed reader text.bytes instant × IsTooEarly instant last × (cause ≡ marked_text text (codes "earlier") (codes "earlier than the line before"))

-- This is the verdict on the text of a line. `last` is the instant of the last earlier line that has one.
abbrev pub IsTextVerdict : Task → Profile → Option Instant → Text → Verdict → Type 0
IsTextVerdict (Check kind) profile last text (accepted None) = IsRead (reader_of kind profile) text.bytes
IsTextVerdict (Check kind) profile last text (accepted (Some instant)) = ⊥
IsTextVerdict (Check kind) profile last text (printed canonical) = ⊥
IsTextVerdict (Check kind) profile last text skipped = ⊥
IsTextVerdict (Check kind) profile last text (refused None cause) = IsUnread (has_offset kind) (reader_of kind profile) text cause
IsTextVerdict (Check kind) profile last text (refused (Some instant) cause) = ⊥
IsTextVerdict (Print kind) profile last text (accepted instant) = ⊥
IsTextVerdict (Print kind) profile last text (printed canonical) = IsCanonical kind profile text.bytes canonical
IsTextVerdict (Print kind) profile last text skipped = ⊥
IsTextVerdict (Print kind) profile last text (refused None cause) = IsUnread (has_offset kind) (reader_of kind profile) text cause
IsTextVerdict (Print kind) profile last text (refused (Some instant) cause) = ⊥
IsTextVerdict (Order kind) profile last text verdict = IsOrderVerdict (instant_reader_of kind) last text verdict

-- This is the verdict on a line without a text.
abbrev pub IsLostVerdict : List ℕ → Lost → Verdict → Type 0
IsLostVerdict line NoField verdict = verdict ≡ refused None (whole (length line + 1) (codes "no_such_field") (codes "no such field"))
IsLostVerdict line (Broken broken) verdict = verdict ≡ refused None (whole (broken.at + 1) (quoting_name broken.quoting) (quoting_message broken.quoting))

-- This is the verdict on a line that is neither too long nor skipped, without the bytes that do not belong to it.
abbrev pub IsLineVerdict : Request → Option Instant → List ℕ → Verdict → Type 0
IsLineVerdict request last line verdict =
    ((text : Text) × HasText request.field line text × IsTextVerdict request.task request.profile last text verdict)
    ⊎ ((lost : Lost) × IsLost request.field line lost × IsLostVerdict line lost verdict)

abbrev pub IsShortVerdict : Request → Bool → Option Instant → List ℕ → Verdict → Type 0
IsShortVerdict request is_first last line verdict =
    MatchBool (is_skipped request.skips is_first line) (verdict ≡ skipped) (IsLineVerdict request last line verdict)

-- This is the verdict on any line. `last` is the instant of the last earlier line that has one.
abbrev pub IsVerdict : Request → Bool → Option Instant → List ℕ → Verdict → Type 0
IsVerdict request is_first last line verdict = MatchBool (nat_lt line_limit (length line))
    (verdict ≡ refused None (whole (line_limit + 1) (codes "line_too_long") (codes "line too long")))
    (IsShortVerdict request is_first last (line_in is_first line) verdict)
