use Rattle.ixdtf_c.proofs.laws.replying_is_handling.Goals as goal
use Rattle.ixdtf_c.specs.{Narrow.{annotation_by as narrow_by}, Wide.{annotation_by as wide_by}}
use Rattle.ixdtf_c.proofs.Replying.{replying_gives, replying_is_handling}

pub returns-clause-gives : goal.returns-clause-gives
returns-clause-gives g c = replying_gives narrow_by

pub returns-clause-wide_gives : goal.returns-clause-wide_gives
returns-clause-wide_gives g c = replying_gives wide_by

pub returns-clause-handling : goal.returns-clause-handling
returns-clause-handling g c = replying_is_handling narrow_by _ _

pub returns-clause-wide_handling : goal.returns-clause-wide_handling
returns-clause-wide_handling g c = replying_is_handling wide_by _ _
