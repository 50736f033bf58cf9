-- The cause has the reason of the error of the reader, and its position.
use Rattle.ixdtf_checks.proofs.judge.refuse.Goals as goal
use Rattle.std.proofs.Common.{refl}

pub returns-clause-verdict : goal.returns-clause-verdict
returns-clause-verdict c = λ reader has printed. rw (c.write_unread.ensures printed, c.located_reason.ensures.at, c.located_reason.ensures.reason) (c.args.error, has, refl)

pub returns-clause-instant : goal.returns-clause-instant
returns-clause-instant c = λ printed. rw (c.write_unread.ensures printed) refl
