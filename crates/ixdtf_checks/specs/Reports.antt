-- Defines the reports about the lines of a file.
use Rattle.std.specs.{Prelude.{◌≡◌, ℕ, Bool, true, false, ◌+◌, ◌||◌, ◌==◌, nat_le, nat_lt, List, [], ◌∷◌, ◌++◌, length, Option, None}, Bool.MatchBool}
use Rattle.ixdtf_instants.specs.declared.instant.Instant.{Instant}
use Rattle.ixdtf_buffers.specs.Lines.{newline}
use Rattle.ixdtf_checks.specs.{declared.request.{Request.Request, Task.{Task, TheVariants.{Check, Print, Order}}, Format.{Format, TheVariants.{Text, Coloured, Json}}}, Coloured.{IsColoured, coloured_of}, Json.json_object, Texts.text_of, Order.latest, Verdicts.{Cause, Refusal, hint_line, IsHintAbout, Tells, Verdict, IsVerdict, Verdict.{accepted, printed, skipped, refused}}}

-- This is the report of a refused line in a format, with a hint if there is one.
abbrev pub refusal_of : Format → List ℕ → ℕ → Refusal → Option (List ℕ) → List ℕ
refusal_of Text name number refusal hint = text_of name number refusal.column refusal.message (refusal.lines ++ hint_line hint)
refusal_of Coloured name number refusal hint = coloured_of name number refusal hint
refusal_of Json name number refusal hint = json_object name number refusal hint ++ newline ∷ []

-- Reports as texts have hints, but only the reports of the first refused lines of a file. This is the number of these lines.
abbrev pub most_hints : ℕ
most_hints = 1000

-- Whether the report of a refused line has the hint about it. `refusals` is the number of refused lines of the file up to it.
abbrev pub has_hint : Format → ℕ → Bool
has_hint Text refusals = nat_le refusals most_hints
has_hint Coloured refusals = nat_le refusals most_hints
has_hint Json refusals = true

-- This is the hint in the report of a line that is refused for the cause.
abbrev pub IsHintIn : Bool → Cause → Option (List ℕ) → Type 0
IsHintIn hinted cause hint = MatchBool hinted (IsHintAbout cause hint) (hint ≡ None)

-- This is a report of a line that is refused for the cause. `hinted` says whether it has the hint about the line.
abbrev pub IsRefusalReport : Format → List ℕ → ℕ → Bool → Cause → List ℕ → Type 0
IsRefusalReport format name number hinted cause report = (refusal : Refusal) × (hint : Option (List ℕ)) × Tells cause refusal
    × IsHintIn hinted cause hint × (report ≡ refusal_of format name number refusal hint)

-- Without its escape sequences, a report with colours is a report as a text of the same line.
abbrev pub ColoursOnlyAdd : Type 0
ColoursOnlyAdd = (name : List ℕ) (number : ℕ) (hinted : Bool) (cause : Cause) (report : List ℕ) → IsRefusalReport Coloured name number hinted cause report
    → (text : List ℕ) × IsRefusalReport Text name number hinted cause text × IsColoured report text

-- This is the report of the line with this number. `refusals` is the number of refused lines up to it.
abbrev pub IsReport : Request → ℕ → ℕ → Verdict → List ℕ → Type 0
IsReport request number refusals (accepted instant) report = report ≡ []
IsReport request number refusals (printed canonical) report = report ≡ canonical ++ newline ∷ []
IsReport request number refusals skipped report = report ≡ []
IsReport request number refusals (refused instant cause) report = MatchBool (request.is_quiet || nat_lt request.most_reports refusals)
    (report ≡ [])
    (IsRefusalReport request.format request.name.now number (has_hint request.format refusals) cause report)

-- A refused line counts as 1, and any other line as 0.
abbrev pub refusal_count : Verdict → ℕ
refusal_count (accepted instant) = 0
refusal_count (printed canonical) = 0
refusal_count skipped = 0
refusal_count (refused instant cause) = 1

-- Whether the task writes canonical texts.
abbrev pub prints : Task → Bool
prints (Check kind) = false
prints (Print kind) = true
prints (Order kind) = false

-- A check has two outputs. If the task writes canonical texts, these texts go to the first output, and the reports of refused lines to the
-- second. Otherwise, all reports go to the first.
abbrev pub goes_to_second : Task → Verdict → Bool
goes_to_second task (accepted instant) = false
goes_to_second task (printed canonical) = false
goes_to_second task skipped = false
goes_to_second task (refused instant cause) = prints task

-- These bytes go to the first output for the line.
abbrev pub IsFirst : Request → ℕ → ℕ → Verdict → List ℕ → Type 0
IsFirst request number refusals verdict bytes =
    MatchBool (goes_to_second request.task verdict) (bytes ≡ []) (IsReport request number refusals verdict bytes)

-- These bytes go to the second output for the line.
abbrev pub IsSecond : Request → ℕ → ℕ → Verdict → List ℕ → Type 0
IsSecond request number refusals verdict bytes =
    MatchBool (goes_to_second request.task verdict) (IsReport request number refusals verdict bytes) (bytes ≡ [])

-- These are the reports of the lines, one after the other. `Is` says what the report of one line is. The first line has this number, and
-- `before` is the number of refused lines before it.
abbrev pub AreReports : (ℕ → ℕ → Verdict → List ℕ → Type 0) → ℕ → ℕ → List Verdict → List ℕ → Type 0
AreReports Is number before [] bytes = bytes ≡ []
AreReports Is number before (verdict ∷ verdicts) bytes = (report : List ℕ) × (others : List ℕ) × (bytes ≡ report ++ others)
    × Is number (before + refusal_count verdict) verdict report × AreReports Is (number + 1) (before + refusal_count verdict) verdicts others

-- This is the number of refused lines.
abbrev pub refusals_of : List Verdict → ℕ
refusals_of [] = 0
refusals_of (verdict ∷ verdicts) = refusal_count verdict + refusals_of verdicts

-- This is the instant of the line, if its text was read for its instant and names one.
abbrev pub instant_in : Verdict → Option Instant
instant_in (accepted instant) = instant
instant_in (printed canonical) = None
instant_in skipped = None
instant_in (refused instant cause) = instant

-- This is the instant of the last line that has one. The last line of the file is the first of the list.
abbrev pub last_instant : List Verdict → Option Instant
last_instant [] = None
last_instant (verdict ∷ earlier) = latest (instant_in verdict) (last_instant earlier)

-- Each line has one verdict, in order. `earlier` has the verdicts on the earlier lines of the file, the last one first.
abbrev pub AreVerdicts : Request → List Verdict → List (List ℕ) → List Verdict → Type 0
AreVerdicts request earlier [] [] = Unit {0}
AreVerdicts request earlier [] (verdict ∷ verdicts) = ⊥
AreVerdicts request earlier (line ∷ lines) [] = ⊥
AreVerdicts request earlier (line ∷ lines) (verdict ∷ verdicts) =
    IsVerdict request (length earlier == 0) (last_instant earlier) line verdict × AreVerdicts request (verdict ∷ earlier) lines verdicts
