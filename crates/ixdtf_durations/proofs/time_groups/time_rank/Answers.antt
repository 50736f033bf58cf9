use Rattle.ixdtf_durations.proofs.time_groups.time_rank.Goals as goal
use Rattle.std.proofs.Common.{refl, arith}
use Rattle.ixdtf_grammar.specs.language.Durations.Half.{time}
use Rattle.ixdtf_durations.specs.reading.DurationClauses.{rank_seen}
use Rattle.ixdtf_reading.proofs.code.Tables.{agree_below, listed_from, in_table}
use Rattle.ixdtf_durations.proofs.code.DurationRanks.{rank_small}

pub returns : goal.returns
unfolding agree_below listed_from
returns c =
    let is = in_table (rank_seen time) refl c.args.letter (omega arith) in
    record { rank = is; small = rw is (rank_small time 3 refl c.args.letter (omega arith)) }
