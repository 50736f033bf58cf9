-- Proves the case of a printed canonical text, and the case of a refused text.
use Rattle.ixdtf_answers.proofs.reader_answers.put_canonical.Goals as goal
use Rattle.std.proofs.Common.{refl}
use Rattle.ixdtf.specs.table.Faults.{fault_of}
use Rattle.ixdtf_buffers.proofs.OutputLemmas.{Puts-after, Puts-exit}
use Rattle.ixdtf_answers.proofs.PartsLemmas.{puts_found, puts_refused, puts_same, refused_short, printed_line}

pub returns-in_err-put-in-Ok : goal.returns-in_err-put-in-Ok
returns-in_err-put-in-Ok g c =
    let has = rw c.in-Ok.is at c.requires.ok in
    puts_found c.args.word c.args.text.now has.found has.gives (puts_same (printed_line has c.add_byte-end.ensures.text) (Puts-exit _ c.in_err-put-in-Ok.ensures c.from_residual.ensures.1))

pub returns-in_ok-put-in-Ok : goal.returns-in_ok-put-in-Ok
returns-in_ok-put-in-Ok g c =
    let has = rw c.in-Ok.is at c.requires.ok in
    puts_found c.args.word c.args.text.now has.found has.gives (puts_same (printed_line has c.add_byte-end.ensures.text) (Puts-after c.in_ok-put-in-Ok.ensures c.put-in-Ok.ensures))

pub put_error-requires : goal.put_error-requires
put_error-requires g c = refused_short c.args.word c.args.text.now (fault_of c.in-Err.error) (rw c.in-Err.is at c.requires.err)

pub returns-in-Err : goal.returns-in-Err
returns-in-Err g c =
    puts_refused c.args.word c.args.text.now (fault_of c.in-Err.error) (rw c.in-Err.is at c.requires.err) c.put_error.ensures
