use Rattle.ixdtf.proofs.parsers.time_zone_parser.TimeZoneParser.parse_identifier.Goals as goal
use Rattle.std.proofs.Common.{refl, rules}
use Rattle.ixdtf_grammar.specs.language.{Readers.Reader.parse_identifier, Languages.Found.identified}
use Rattle.ixdtf_reading.proofs.code.ReadersWithoutPairs.{exact}

pub returns : goal.returns
returns g c =
    let gives = exact _ _ parse_identifier identified (λ x y e. cc) tt _ c.fork-here.result c.parse_identifier_text-read.new.cursor refl _ _ _
    c.parse_identifier_text-read.ensures.zone c.settle.ensures.settled in
    rw (← c.self.view_is, ← c.fork-here.ensures.same) (record { reads = record { ok = search rules; err = gives.err; no_row = gives.no_row; only = gives.only; leaves = search rules } })
