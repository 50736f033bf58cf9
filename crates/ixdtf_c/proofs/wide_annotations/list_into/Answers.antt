-- The list keeps its reference to the array.
use Rattle.ixdtf_c.proofs.wide_annotations.list_into.Goals as goal
use Rattle.std.proofs.Common.{rules, refl}
use Rattle.ixdtf_c.specs.Wide.{contents}
use Rattle.ixdtf_c.proofs.{Crossed.{outcome_ok, outcome_err}, Listed.{lists_left, annotations_few}}

pub returns-in-Ok : goal.returns-in-Ok
returns-in-Ok g c = record { lists = outcome_ok _ _ (lists_left (search rules) refl c.list_as-read.ensures.lists) (contents c.args.out.now) c.in-Ok.is c.write.ensures; few = annotations_few _ _ c.list_as-read.ensures.lists; unchanged = λ refused. absurd (refused refl) }

pub returns-in-Err : goal.returns-in-Err
returns-in-Err g c = record { lists = outcome_err _ _ (lists_left (search rules) refl c.list_as-read.ensures.lists) (contents c.args.out.now) c.in-Err.is c.refuse.ensures.number c.refuse.ensures.error; few = annotations_few _ _ c.list_as-read.ensures.lists; unchanged = λ refused. c.refuse.ensures.unchanged }
