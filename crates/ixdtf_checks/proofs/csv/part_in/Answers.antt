-- A field in quotes has its text between them.
use Rattle.ixdtf_checks.proofs.csv.part_in.Goals as goal
use Rattle.std.proofs.Common.{sym, ◌∙◌}
use Rattle.ixdtf_checks.proofs.CsvLemmas.{quoted_part}

pub returns-clause-part : goal.returns-clause-part
returns-clause-part c = λ separator cell is whole.
    quoted_part separator c.args.start cell c.args.bytes.now c.without_doubles.result.now is whole (sym c.is_escaped.ensures.is ∙ c.if-not-is_escaped.false) c.without_doubles.ensures.text
