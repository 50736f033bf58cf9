use Rattle.ixdtf_explanations.proofs.pointed.write_marks.Goals as goal
use Rattle.std.proofs.{Common.{refl, true}, Output.{has_written_styled_append, has_written_styled_of_eq}, lemmas.List.replicate-append-replicate}

pub loop-preserved : goal.loop-preserved
loop-preserved g c = λ flush.
    let so_far = c.loop.invariant flush in
    has_written_styled_of_eq _ _ _ _ _ (replicate-append-replicate c.loop.counter 1 94)
    (has_written_styled_append _ _ _ _ _ _ so_far (c.in_ok-write_str.ensures.styled so_far.flush (refl {a = true})))
