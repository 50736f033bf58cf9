-- Proves the case of an ASCII text that is shown completely.
use Rattle.ixdtf_checks.proofs.marked_text.is_text.Goals as goal
use Rattle.ixdtf_checks.proofs.PointedLemmas.{whole_text}

pub returns-then-window-bytes-clause-yes : goal.returns-then-window-bytes-clause-yes
returns-then-window-bytes-clause-yes c = λ _. whole_text c.args.bytes.now c.args.window.start c.args.window.end c.requires c.if-window-eq0.true c.if-window-bytes.true
