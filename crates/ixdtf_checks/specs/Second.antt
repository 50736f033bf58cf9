-- What is in the second output of a check.
use Rattle.std.specs.{Prelude.{◌≡◌, ℕ, List, [], ◌++◌, Option}, Bool.MatchBool, Io.KnownBytes.Appends}
use Rattle.ixdtf_buffers.specs.Output.{AppendsFront, written}
use Rattle.ixdtf_checks.specs.declared.second_output.SecondOutput.{SecondOutput}

-- `start` is what was in the sink at the beginning. These bytes were written to it since then, and nothing waits in the buffer. Or a write
-- failed after a prefix of them.
abbrev pub IsWritten : {E : Type 0} → (E → Option (List ℕ)) → (E → Type 0) → Option (List ℕ) → List ℕ → SecondOutput E → Type 0
IsWritten contents failed start bytes second = MatchBool second.has_failed
    (failed second.output.sink.now × AppendsFront start (written contents second.output) bytes)
    ((second.output.waiting ≡ []) × Appends start (written contents second.output) bytes)

-- These bytes were written after those that were written before. The output still has the same sink.
pub record AddsReports {E : Type 0} (contents : E → Option (List ℕ)) (failed : E → Type 0) (old new : SecondOutput E) (bytes : List ℕ) : Type 0 where
  pub same : new.output.sink.ghost_name ≡ old.output.sink.ghost_name
  pub written : (start : Option (List ℕ)) (before : List ℕ) → IsWritten contents failed start before old → IsWritten contents failed start (before ++ bytes) new
