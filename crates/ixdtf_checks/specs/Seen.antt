-- Translates a verdict of the code to the verdict of the definitions. No clause of `check` cites this module.
use Rattle.std.specs.{Prelude.{ℕ, ◌+◌, if◌then◌else◌, List, [], ◌∷◌, ◌++◌, codes, Option, Some, None, option_map}, Str.is_utf8}
use Rattle.ixdtf_explanations.specs.LocatedTexts.{pointed_text}
use Rattle.ixdtf_explanations.specs.Messages.{message_text}
use Rattle.ixdtf_buffers.specs.Lines.{newline}
use Rattle.ixdtf_grammar.specs.ReasonNames.{reason_name}
use Rattle.ixdtf_explanations.specs.declared.message.Message.{Message}
use Rattle.ixdtf_instants.specs.declared.instant.Instant.{Instant}
use Rattle.ixdtf_checks.specs.declared.verdict.Verdict.{Verdict as VerdictInCode, TheVariants.{Accepted, Timed, Printed, Skipped, Refused}}
use Rattle.ixdtf_checks.specs.declared.cause.Cause.{Cause as CauseInCode}
use Rattle.ixdtf_checks.specs.declared.cause.Cause.TheVariants as causes
use Rattle.ixdtf_checks.specs.declared.refusal.{Marked.Marked, Refusal.Refusal as RefusalInCode, Why.Why}
use Rattle.ixdtf_checks.specs.declared.refusal.Why.TheVariants as reasons
use Rattle.ixdtf_checks.specs.{Csv.{quoting_message, quoting_name}, Parts.seen_part}
use Rattle.ixdtf_checks.specs.Verdicts.{Refusal, hint_line, line_limit, Cause, Cause.{whole, marked, unread}, Verdict, Verdict.{accepted, printed, skipped, refused}}

-- These lines show a part of a text. There are no lines if the bytes are not UTF-8.
abbrev pub lines_at : ℕ → ℕ → List ℕ → List ℕ
lines_at begin end bytes = if is_utf8 bytes then pointed_text bytes begin end ++ newline ∷ [] else []

abbrev pub lines_in : Option Marked → List ℕ
lines_in None = []
lines_in (Some shown) = lines_at shown.part.begin shown.part.end shown.text.now

-- These lines follow the line with the message.
abbrev pub lines_behind : Option Marked → Option Message → List ℕ
lines_behind marked_text hint = lines_in marked_text ++ hint_line (option_map message_text hint)

-- This is the name of the reason.
abbrev pub why_name : Why → List ℕ
why_name reasons.LineTooLong = codes "line_too_long"
why_name reasons.NoSuchField = codes "no_such_field"
why_name (reasons.Quotes quoting) = quoting_name quoting
why_name reasons.NoInstant = codes "no_instant"
why_name reasons.Earlier = codes "earlier"
why_name reasons.SpaceBeforeOffset = codes "space_before_offset"
why_name (reasons.Unread reason) = reason_name reason

-- This is what a report says, in the definitions.
abbrev pub seen_refusal : RefusalInCode → Refusal
seen_refusal refusal = record {
  column = refusal.column;
  end = refusal.end;
  reason = why_name refusal.why;
  message = message_text refusal.message;
  lines = lines_in refusal.marked;
}

-- This is the cause of the definitions.
abbrev pub seen_cause : CauseInCode → Cause
seen_cause causes.TooLong = whole (line_limit + 1) (codes "line_too_long") (codes "line too long")
seen_cause (causes.NoField column) = whole column (codes "no_such_field") (codes "no such field")
seen_cause (causes.Broken quoting column) = whole column (quoting_name quoting) (quoting_message quoting)
seen_cause (causes.Untimed text) = marked text.column text.text.now (codes "no_instant") (codes "no instant")
seen_cause (causes.Early instant text) = marked text.column text.text.now (codes "earlier") (codes "earlier than the line before")
seen_cause (causes.Unread text) = unread text.has_offset (seen_part text.part) text.error

-- This is the instant of a line that is refused for the cause.
abbrev pub refused_instant : CauseInCode → Option Instant
refused_instant causes.TooLong = None
refused_instant (causes.NoField column) = None
refused_instant (causes.Broken quoting column) = None
refused_instant (causes.Untimed text) = None
refused_instant (causes.Early instant text) = Some instant
refused_instant (causes.Unread text) = None

-- This is the verdict of the definitions. `canonical` is the canonical text that was printed last.
abbrev pub seen : List ℕ → VerdictInCode → Verdict
seen canonical Accepted = accepted None
seen canonical (Timed instant) = accepted (Some instant)
seen canonical Printed = printed canonical
seen canonical Skipped = skipped
seen canonical (Refused cause) = refused (refused_instant cause) (seen_cause cause)
