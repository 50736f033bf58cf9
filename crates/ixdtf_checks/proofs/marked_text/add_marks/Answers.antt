-- Proves that the added bytes are the first of the marks.
use Rattle.ixdtf_checks.proofs.marked_text.add_marks.Goals as goal
use Rattle.std.proofs.Common.{◌+◌, List, ℕ, replicate, arith}
use Rattle.ixdtf_buffers.proofs.AddingLemmas.{adds_front}
use Rattle.ixdtf_checks.proofs.PointedLemmas.{front_of_many}

pub returns-clause-text : goal.returns-clause-text
returns-clause-text c =
    let many = c.args.count in
    let few = c.requires.few in
    let marks : List ℕ = replicate 24 94 in
    let added = adds_front c.args.room.now c.add_bytes-end.new.room c.args.at c.add_bytes-end.result (c.args.at + many) many marks
    (omega arith) c.add_bytes-end.ensures.place (omega arith) (omega (arith, few)) c.add_bytes-end.ensures.text in
    record { is = rw (← front_of_many many 24 94 few) added.is }
