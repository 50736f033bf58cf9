-- Proves that a long text and its newline are written.
use Rattle.ixdtf_checks.proofs.report.put_printed.Goals as goal
use Rattle.std.proofs.Common.{◌-◌, length}
use Rattle.std.proofs.lemmas.List.{append-nil, take-append-drop}

pub returns : goal.returns
returns g c =
    rw (c.split_at.ensures.front, c.split_at.ensures.back, append-nil, take-append-drop (length c.args.line.now - 1) c.args.line.now) at c.put_all.ensures
