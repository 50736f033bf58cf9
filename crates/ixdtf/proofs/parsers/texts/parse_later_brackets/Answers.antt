use Rattle.ixdtf.proofs.parsers.texts.parse_later_brackets.Goals as goal
use Rattle.ixdtf.proofs.parsers.texts.parse_later_brackets.Goals.{in-Some, in-None}
use Rattle.std.proofs.{Common.{◌≡◌, rules}, lemmas.Result.err_from_is_err_and}

pub returns-in_err-calendar-clause-replied : goal.returns-in_err-calendar-clause-replied
returns-in_err-calendar-clause-replied g c =
    let p = err_from_is_err_and c.from_residual.result c.from_residual.ensures.1 in
    let same : c.match-text.first ≡ c.args.text.now.first = elim c.match-text.branch [ in-Some w ↦ search rules | in-None w ↦ search rules ] in
    let pairs = rw (c.fork-here.ensures.same, same) at c.in_err-calendar.ensures.pairs in
    rw (p.1, p.2) pairs
