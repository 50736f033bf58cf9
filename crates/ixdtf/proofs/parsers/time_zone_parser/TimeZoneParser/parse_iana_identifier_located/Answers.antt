use Rattle.ixdtf.proofs.parsers.time_zone_parser.TimeZoneParser.parse_iana_identifier_located.Goals as goal
use Rattle.std.proofs.Common.{refl, rules, ◌∙◌, sym, ap}
use Rattle.ixdtf_grammar.specs.{Views.Unread, language.{Readers.Reader.parse_iana_identifier, Languages.Found.named}}
use Rattle.ixdtf_reading.specs.reading.Looks.{error_of}
use Rattle.ixdtf_reading.proofs.to_grammar.ZonesAlone.{iana_identifier_read}
use Rattle.ixdtf_explanations.proofs.code.Located.{located}
use Rattle.ixdtf.proofs.code.Promised.{part_at}

pub returns : goal.returns
returns g c =
    let gives = located _ _ parse_iana_identifier named (λ x y e. cc) tt _ c.fork-here.result c.parse_iana_identifier_text-outcome.new.cursor refl _ (iana_identifier_read error_of _) _
    (c.fork-here.ensures.rest ∙ ap (λ (u : Unread). u.rest) (sym c.fork-here.ensures.same)) _ _ c.parse_iana_identifier_text-outcome.ensures.name c.settle.ensures.settled c.settle.ensures.place in
    rw (← c.self.view_is, ← c.fork-here.ensures.same) (record { reads = part_at gives (search rules) })
