use Rattle.ixdtf_print.proofs.put.put_sixteen.Goals as goal

pub put-requires : goal.put-requires
put-requires c = c.requires

pub returns : goal.returns
returns c = c.put.ensures
