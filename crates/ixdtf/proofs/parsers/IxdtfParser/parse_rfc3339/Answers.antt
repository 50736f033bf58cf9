use Rattle.ixdtf.proofs.parsers.IxdtfParser.parse_rfc3339.Goals as goal
use Rattle.std.proofs.Common.{Ok, Err, false, map, refl, rules, arith}
use Rattle.ixdtf_grammar.specs.{language.{Readers.Reader.{parse_rfc3339 as reader_rfc3339}, Languages.Found.dated}, Views.parsed_of, table.Faults.fault_of}
use Rattle.ixdtf_reading.specs.reading.{Looks.error_of, Clauses.Settles, DateTimes.rfc_3339_at}
use Rattle.ixdtf_reading.proofs.code.ReadersWithoutPairs.{exact}
use Rattle.ixdtf.proofs.code.Placed.{reads_record, returned_with}

pub returns : goal.returns
returns g c =
    let found = c.parse_rfc3339_text.new.found in
    let settled : Settles fault_of false (map g.T.EncodingType.letter c.parse_rfc3339_text.new.cursor.rest) (returned_with found c.parse_rfc3339_text.result) (Ok found) = rw c.in-Ok.is refl in
    let read = reads_record g.T.EncodingType.letter g.T.EncodingType.number c.fork-here.result c.parse_rfc3339_text.new.cursor found c.default-found.result
    c.parse_rfc3339_text.result c.default-found.ensures c.parse_rfc3339_text.ensures.kept c.parse_rfc3339_text.ensures.date_time in
    let gives = exact g.T.EncodingType.letter (parsed_of g.T.EncodingType.number) reader_rfc3339 dated (λ x y e. cc) tt (rfc_3339_at error_of) c.fork-here.result
    c.parse_rfc3339_text.new.cursor refl _ _ _ read settled in
    let spent = c.parse_rfc3339_text.ensures.looks in
    rw (← c.self.view_is, ← c.fork-here.ensures.same) (record {
      reads = record {
        ok = gives.ok;
        err = gives.err;
        no_row = gives.no_row;
        only = gives.only;
        leaves = record { empty = gives.empty _ refl; unchanged = tt; comes = tt; looks = omega (arith, spent.0); counted = omega (arith, spent.1) };
      };
      profile = search rules;
    })

pub returns-in-Err : goal.returns-in-Err
returns-in-Err g c =
    let found = c.parse_rfc3339_text.new.found in
    let settled : Settles fault_of false (map g.T.EncodingType.letter c.parse_rfc3339_text.new.cursor.rest) (returned_with found c.parse_rfc3339_text.result) (Err c.error_at-error.result) = rw c.in-Err.is c.error_at-error.ensures.fault in
    let read = reads_record g.T.EncodingType.letter g.T.EncodingType.number c.fork-here.result c.parse_rfc3339_text.new.cursor found c.default-found.result
    c.parse_rfc3339_text.result c.default-found.ensures c.parse_rfc3339_text.ensures.kept c.parse_rfc3339_text.ensures.date_time in
    let gives = exact g.T.EncodingType.letter (parsed_of g.T.EncodingType.number) reader_rfc3339 dated (λ x y e. cc) tt (rfc_3339_at error_of) c.fork-here.result
    c.parse_rfc3339_text.new.cursor refl _ _ _ read settled in
    rw (← c.self.view_is, ← c.fork-here.ensures.same) (record {
      reads = record { ok = gives.ok; err = gives.err; no_row = gives.no_row; only = gives.only; leaves = search rules };
      profile = search rules;
    })
