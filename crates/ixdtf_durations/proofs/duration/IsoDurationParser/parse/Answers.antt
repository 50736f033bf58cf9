use Rattle.ixdtf_durations.proofs.duration.IsoDurationParser.parse.Goals as goal
use Rattle.std.proofs.Common.{Err, refl, rules}
use Rattle.ixdtf_grammar.specs.language.{Readers.Reader.parse_duration, Languages.Found.lasting}
use Rattle.ixdtf_reading.specs.reading.{Looks.error_of, Durations.duration_at}
use Rattle.ixdtf_reading.proofs.code.ReadersWithoutPairs.{exact}
use Rattle.ixdtf_durations.proofs.code.DurationSteps.{reads_whole}

-- The beginning of a duration was read.
pub returns-in-Ok : goal.returns-in-Ok
returns-in-Ok g c =
    let groups = c.parse_groups.ensures.groups in
    let gives = exact _ _ (parse_duration c.self.inside.profile) lasting (λ x y e. cc) tt _ c.fork-here.result groups.left refl _ _ _
    (reads_whole _ _ _ c.fork-here.result c.parse_opening.new.cursor _ _ (c.in-Ok.ensures.sign _) groups.reads) groups.settled in
    let no_other_reader = gives.no_other_reader c.self.inside.profile in
    let empty = gives.empty _ groups.ended in
    rw (← c.self.view_is, ← c.fork-here.ensures.same) (record {
      reads = record { ok = gives.ok; err = gives.err; no_row = gives.no_row; only = gives.only; leaves = search rules };
      no_other_reader = no_other_reader;
      profile = search rules;
    })

-- The beginning of the text is not that of a duration.
pub returns-in-Err : goal.returns-in-Err
returns-in-Err g c =
    let gives = exact _ _ (parse_duration c.self.inside.profile) lasting (λ x y e. cc) tt (duration_at error_of _)
    c.fork-here.result c.parse_opening.new.cursor refl _ (Err c.in-Err.stop) _ (c.in-Err.ensures.sign _) c.settle.ensures.settled in
    rw (← c.self.view_is, ← c.fork-here.ensures.same) (record {
      reads = record { ok = gives.ok; err = gives.err; no_row = gives.no_row; only = gives.only; leaves = search rules };
      no_other_reader = search rules;
      profile = search rules;
    })
