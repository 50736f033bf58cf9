use Rattle.ixdtf.proofs.parsers.IxdtfParser.parse_rfc3339_located.Goals as goal
use Rattle.std.proofs.Common.{Ok, Err, false, map, refl, rules, arith, ◌∙◌, sym, ap}
use Rattle.ixdtf_grammar.specs.{language.{Readers.Reader.{parse_rfc3339 as reader_rfc3339}, Languages.Found.dated}, Views.{Unread, parsed_of}}
use Rattle.ixdtf_explanations.specs.LocatedFaults.{fault_of_located}
use Rattle.ixdtf_reading.specs.reading.{Looks.error_of, Clauses.Settles, DateTimes.rfc_3339_at}
use Rattle.ixdtf_reading.proofs.to_grammar.DateTimes.{rfc_3339_read}
use Rattle.ixdtf_explanations.proofs.code.Located.{located}
use Rattle.ixdtf.proofs.code.Placed.{reads_record, returned_with}

pub returns : goal.returns
returns g c =
    let found = c.parse_rfc3339_text.new.found in
    let settled : Settles fault_of_located false (map g.T.EncodingType.letter c.parse_rfc3339_text.new.cursor.rest) (returned_with found c.parse_rfc3339_text.result) (Ok found) = rw c.in-Ok.is refl in
    let read = reads_record g.T.EncodingType.letter g.T.EncodingType.number c.fork-here.result c.parse_rfc3339_text.new.cursor found c.default-found.result
    c.parse_rfc3339_text.result c.default-found.ensures c.parse_rfc3339_text.ensures.kept c.parse_rfc3339_text.ensures.date_time in
    let gives = located g.T.EncodingType.letter (parsed_of g.T.EncodingType.number) reader_rfc3339 dated (λ x y e. cc) tt (rfc_3339_at error_of) c.fork-here.result
    c.parse_rfc3339_text.new.cursor refl _ (rfc_3339_read error_of _) _ (c.fork-here.ensures.rest ∙ ap (λ (u : Unread). u.rest) (sym c.fork-here.ensures.same)) _ _
    read settled (rw c.in-Ok.is tt) in
    let plain = gives.plain in
    let spent = c.parse_rfc3339_text.ensures.looks in
    rw (← c.self.view_is, ← c.fork-here.ensures.same) (record {
      reads = record {
        ok = plain.ok;
        err = gives.err;
        place = gives.place;
        reason = gives.reason;
        one_reason = gives.one_reason;
        no_row = plain.no_row;
        only = plain.only;
        leaves = record { empty = plain.empty _ refl; unchanged = tt; comes = tt; looks = omega (arith, spent.0); counted = omega (arith, spent.1) };
      };
      profile = search rules;
    })

pub returns-in-Err : goal.returns-in-Err
returns-in-Err g c =
    let found = c.parse_rfc3339_text.new.found in
    let settled : Settles fault_of_located false (map g.T.EncodingType.letter c.parse_rfc3339_text.new.cursor.rest) (returned_with found c.parse_rfc3339_text.result) (Err c.error_at-error.result) = rw c.in-Err.is c.error_at-error.ensures.fault in
    let read = reads_record g.T.EncodingType.letter g.T.EncodingType.number c.fork-here.result c.parse_rfc3339_text.new.cursor found c.default-found.result
    c.parse_rfc3339_text.result c.default-found.ensures c.parse_rfc3339_text.ensures.kept c.parse_rfc3339_text.ensures.date_time in
    let gives = located g.T.EncodingType.letter (parsed_of g.T.EncodingType.number) reader_rfc3339 dated (λ x y e. cc) tt (rfc_3339_at error_of) c.fork-here.result
    c.parse_rfc3339_text.new.cursor refl _ (rfc_3339_read error_of _) _ (c.fork-here.ensures.rest ∙ ap (λ (u : Unread). u.rest) (sym c.fork-here.ensures.same)) _ _
    read settled (rw c.in-Err.is (rw (c.saturating_sub-at.ensures, c.remaining.ensures, c.remaining-in-Err.ensures) at c.error_at-error.ensures.place)) in
    let plain = gives.plain in
    rw (← c.self.view_is, ← c.fork-here.ensures.same) (record {
      reads = record { ok = plain.ok; err = gives.err; place = gives.place; reason = gives.reason; one_reason = gives.one_reason; no_row = plain.no_row; only = plain.only; leaves = search rules };
      profile = search rules;
    })
