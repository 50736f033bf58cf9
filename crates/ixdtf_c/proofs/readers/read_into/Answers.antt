use Rattle.ixdtf_c.proofs.readers.read_into.Goals as goal
use Rattle.ixdtf.specs.Views.{parsed_of}
use Rattle.ixdtf_c.proofs.Crossed.{outcome_ok, outcome_err}

pub returns-in-Ok-clause-read : goal.returns-in-Ok-clause-read
returns-in-Ok-clause-read g c = outcome_ok (parsed_of g.T.EncodingType.number) c.read_as.result c.read_as.ensures (g.R.RecordOf.contents c.args.out.now) c.in-Ok.is c.write.ensures

pub returns-in-Err-clause-read : goal.returns-in-Err-clause-read
returns-in-Err-clause-read g c =
    outcome_err (parsed_of g.T.EncodingType.number) c.read_as.result c.read_as.ensures (g.R.RecordOf.contents c.args.out.now) c.in-Err.is c.refuse.ensures.number c.refuse.ensures.error
