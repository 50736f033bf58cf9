use Rattle.ixdtf.proofs.parsers.time_zone_parser.TimeZoneParser.parse_iana_identifier.Goals as goal
use Rattle.std.proofs.Common.{Ok, Err, false, map, refl, rules}
use Rattle.ixdtf_grammar.specs.{language.{Readers.Reader.parse_iana_identifier, Languages.Found.named}, table.Faults.fault_of}
use Rattle.ixdtf_reading.specs.reading.Clauses.{Settles}
use Rattle.ixdtf_reading.proofs.code.ReadersWithoutPairs.{exact}

pub returns-in-Ok : goal.returns-in-Ok
returns-in-Ok g c =
    let settled : Settles fault_of false (map g.T.EncodingType.letter c.parse_iana_identifier_text.new.cursor.rest) c.parse_iana_identifier_text.result (Ok c.in-Ok.name) = rw c.in-Ok.is refl in
    let gives = exact _ _ parse_iana_identifier named (λ x y e. cc) tt _ c.fork-here.result c.parse_iana_identifier_text.new.cursor refl _ _ _
    c.parse_iana_identifier_text.ensures.name settled in
    rw (← c.self.view_is, ← c.fork-here.ensures.same) (record {
      reads = record {
        ok = search rules;
        err = gives.err;
        no_row = gives.no_row;
        only = gives.only;
        leaves = record {
          empty = gives.empty _ refl;
          unchanged = tt;
          comes = tt;
          looks = search rules;
          counted = search rules;
        };
      };
    })

pub returns-in-Err : goal.returns-in-Err
returns-in-Err g c =
    let settled : Settles fault_of false (map g.T.EncodingType.letter c.parse_iana_identifier_text.new.cursor.rest) c.parse_iana_identifier_text.result (Err c.error_at-error.result) = rw c.in-Err.is c.error_at-error.ensures.fault in
    let gives = exact _ _ parse_iana_identifier named (λ x y e. cc) tt _ c.fork-here.result c.parse_iana_identifier_text.new.cursor refl _ _ _
    c.parse_iana_identifier_text.ensures.name settled in
    rw (← c.self.view_is, ← c.fork-here.ensures.same) (record { reads = record { ok = search rules; err = gives.err; no_row = gives.no_row; only = gives.only; leaves = search rules } })
