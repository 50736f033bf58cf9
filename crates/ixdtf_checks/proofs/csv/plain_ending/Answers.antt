-- A field that is not in quotes ends.
use Rattle.ixdtf_checks.proofs.csv.plain_ending.Goals as goal
use Rattle.ixdtf_checks.proofs.CsvLemmas.{plain_at, plain_last, stray_before, stray_last}

pub returns-in-None-place_of-clause-ending : goal.returns-in-None-place_of-clause-ending
returns-in-None-place_of-clause-ending c =
    plain_last c.args.separator c.args.bytes.now c.in-None.ensures.place c.in-None-place_of.ensures.place

pub returns-in-Some-place_of-clause-ending : goal.returns-in-Some-place_of-clause-ending
returns-in-Some-place_of-clause-ending c =
    stray_last c.args.separator c.in-Some-place_of.at c.args.bytes.now c.requires c.in-None.ensures.place c.in-Some-place_of.ensures.place

pub returns-in-None-place_of-2-clause-ending : goal.returns-in-None-place_of-2-clause-ending
returns-in-None-place_of-2-clause-ending c =
    plain_at c.args.separator c.in-Some.place c.args.bytes.now c.in-Some.ensures.place c.in-None-place_of-2.ensures.place

pub returns-in-Some-place_of-2-clause-ending : goal.returns-in-Some-place_of-2-clause-ending
returns-in-Some-place_of-2-clause-ending c =
    stray_before c.args.separator c.in-Some-place_of-2.at c.in-Some.place c.args.bytes.now c.requires c.in-Some.ensures.place c.in-Some-place_of-2.ensures.place
