use Rattle.ixdtf_print.proofs.put.put_each.Goals as goal
use Rattle.ixdtf_print.proofs.code.PutBytes.{further, first_put, all_put}

pub loop-front-preserved : goal.loop-front-preserved
loop-front-preserved c =
    let pieces = c.in-Some.ensures.cases in
    further c.requires c.loop-front.invariant (first_put 16 _ _ _ pieces.0 pieces.1 c.put_sixteen-place.ensures)

pub returns : goal.returns
returns c =
    let eight = further c.requires c.loop-front.invariant c.put_first-place.ensures.puts in
    let four = further c.requires eight c.put_first-place-2.ensures.puts in
    let two = further c.requires four c.put_first-place-3.ensures.puts in
    let few = c.put_first-place-4.ensures.few (c.put_first-place-3.ensures.few (c.put_first-place-2.ensures.few (c.put_first-place.ensures.few c.in_default.ensures.cases))) in
    all_put few (further c.requires two c.put_first-place-4.ensures.puts)
