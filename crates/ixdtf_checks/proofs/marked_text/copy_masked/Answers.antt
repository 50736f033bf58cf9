-- Proves what the loop has found after its last byte.
use Rattle.ixdtf_checks.proofs.marked_text.copy_masked.Goals as goal
use Rattle.std.proofs.{Common.{◌≡◌, length, take, arith}, lemmas.List.take_all}
use Rattle.ixdtf_checks.proofs.PointedLemmas.{greatest_all}

pub returns-clause-greatest : goal.returns-clause-greatest
returns-clause-greatest c =
    let all : take (length c.args.room.now) c.args.bytes.now ≡ c.args.bytes.now = take_all _ _ (omega (arith, c.requires)) in
    greatest_all c.args.bytes.now c.loop-index.index c.loop-index.greatest (omega (arith, c.requires, c.loop-index-test.false)) (rw all at c.loop-index.invariant.most)
