use Rattle.ixdtf_durations.proofs.date_groups.date_rank.Goals as goal
use Rattle.std.proofs.Common.{refl, arith}
use Rattle.ixdtf_grammar.specs.language.Durations.Half.{date}
use Rattle.ixdtf_durations.specs.reading.DurationClauses.{rank_seen}
use Rattle.ixdtf_reading.proofs.code.Tables.{agree_below, listed_from, in_table}
use Rattle.ixdtf_durations.proofs.code.DurationRanks.{rank_small}

pub returns : goal.returns
unfolding agree_below listed_from
returns c =
    let is = in_table (rank_seen date) refl c.args.letter (omega arith) in
    record { rank = is; small = rw is (rank_small date 4 refl c.args.letter (omega arith)) }
