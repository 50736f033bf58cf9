-- Proves the case of an accepted text, and the case of a refused text.
use Rattle.ixdtf_answers.proofs.canonical_answers.canonical_record.Goals as goal
use Rattle.std.proofs.{Common.{refl, sym, arith, length}, lemmas.List.length-map}
use Rattle.ixdtf.specs.language.{Languages.Found.parsed, Letters.byte_letter}
use Rattle.ixdtf_print.{specs.{Canonical.canonical_text, Printable.record_of}, proofs.theorems.PrintableRecords.read_fits}
use Rattle.ixdtf_answers.specs.declared.word.Word.TheVariants.{Canonical}
use Rattle.ixdtf_answers.proofs.PrintedLemmas.{spelled_bytes, has_printed}

pub print_with_room-requires : goal.print_with_room-requires
print_with_room-requires c =
    let given = rw c.from_utf8.ensures.rest at ((c.parse-read.ensures.reads.ok (record_of c.in-Ok.record)).0 (rw c.in-Ok.is refl)) in
    omega (arith, c.told-room, read_fits 4352 c.args.text.now (record_of c.in-Ok.record) given (omega (arith, c.requires)))

pub returns-in-Ok : goal.returns-in-Ok
returns-in-Ok c =
    let given = rw c.from_utf8.ensures.rest at ((c.parse-read.ensures.reads.ok (record_of c.in-Ok.record)).0 (rw c.in-Ok.is refl)) in
    record {
      ok = has_printed Canonical c.args.text.now (parsed (record_of c.in-Ok.record)) (canonical_text (record_of c.in-Ok.record)) _ _ given refl
          (read_fits 4352 c.args.text.now (record_of c.in-Ok.record) given (omega (arith, c.requires)))
          (c.print_with_room.ensures.count, sym (spelled_bytes _ _ c.print_with_room.ensures.text));
      err = tt;
    }

pub returns-in-Err : goal.returns-in-Err
returns-in-Err c = record { ok = tt; err = rw c.from_utf8.ensures.rest at (rw c.in-Err.is at c.parse-read.ensures.reads.err) }
