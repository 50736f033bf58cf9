-- Defines what a check writes and counts.
use Rattle.std.specs.{Prelude.{◌≡◌, ℕ, ◌==◌, ◌+◌, ◌-◌, ◌^◌, min, List, [], ◌++◌, length, Option, Some}, Io.KnownBytes.Appends}
use Rattle.ixdtf_instants.specs.declared.instant.Instant.{Instant}
use Rattle.ixdtf_buffers.specs.Output.{AppendsFront}
use Rattle.ixdtf_checks.specs.{declared.{request.Request.Request, tally.Tally.Tally}, Order.latest, Reports.{AreReports, AreVerdicts, IsFirst, IsSecond, instant_in, refusal_count, refusals_of}}
use Rattle.ixdtf_checks.specs.Verdicts.{Verdict, IsVerdict}

-- The numbers of lines and of refused lines are those of the verdicts.
pub record Counts (tally : Tally) (verdicts : List Verdict) : Type 0 where
  pub lines : tally.lines ≡ length verdicts
  pub refused : tally.refused ≡ refusals_of verdicts

-- The reports of the lines were written to the two outputs, and the lines were counted. `old` and `new` are what is in the first output
-- before and after this, and `second_old` and `second_new` what is in the second.
pub record Reports (old new second_old second_new : Option (List ℕ)) (request : Request) (tally : Tally) (lines : List (List ℕ)) : Type 0 where
  pub verdicts : List Verdict
  pub are : AreVerdicts request [] lines verdicts
  pub bytes : List ℕ
  pub reports : AreReports (IsFirst request) 1 0 verdicts bytes
  pub appended : Appends old new bytes
  pub other_bytes : List ℕ
  pub other_reports : AreReports (IsSecond request) 1 0 verdicts other_bytes
  pub second : Appends second_old second_new other_bytes
  pub counts : Counts tally verdicts

-- The first lines were counted, and a prefix of their reports was written to each output.
pub record ReportsFront (old new second_old second_new : Option (List ℕ)) (request : Request) (tally : Tally) (lines : List (List ℕ)) : Type 0 where
  pub first : List (List ℕ)
  pub others : List (List ℕ)
  pub whole : lines ≡ first ++ others
  pub verdicts : List Verdict
  pub are : AreVerdicts request [] first verdicts
  pub bytes : List ℕ
  pub reports : AreReports (IsFirst request) 1 0 verdicts bytes
  pub front : AppendsFront old new bytes
  pub other_bytes : List ℕ
  pub other_reports : AreReports (IsSecond request) 1 0 verdicts other_bytes
  pub second : AppendsFront second_old second_new other_bytes
  pub counts : Counts tally verdicts

-- The bytes are the reports of the lines, those in the first and those in the second output, and the lines were counted.
abbrev pub ReportsWhole : List ℕ → List ℕ → Request → Tally → List (List ℕ) → Type 0
ReportsWhole first second request tally lines = Reports (Some []) (Some first) (Some []) (Some second) request tally lines

-- One more line was counted, and these bytes were written about it: the first to the first output, and the others to the second. A count
-- stays at 2 ^ 64 - 1 at most. `last` is the instant of the last earlier line that has one, and `next` is the same for the next line.
pub record ReportsLine (request : Request) (old new : Tally) (last next : Option Instant) (line first second : List ℕ) : Type 0 where
  pub verdict : Verdict
  pub is : IsVerdict request (old.lines == 0) last line verdict
  pub instant : next ≡ latest (instant_in verdict) last
  pub lines : new.lines ≡ min (old.lines + 1) (2 ^ 64 - 1)
  pub refused : new.refused ≡ min (old.refused + refusal_count verdict) (2 ^ 64 - 1)
  pub first_is : IsFirst request new.lines new.refused verdict first
  pub second_is : IsSecond request new.lines new.refused verdict second
