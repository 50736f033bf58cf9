-- Proves that the canonical text of a value that was read from a line fits into the buffer.
use Rattle.ixdtf_checks.proofs.printing.print_duration.Goals as goal
use Rattle.std.proofs.Common.{refl, arith}
use Rattle.ixdtf_print.{specs.Durations.{IsDurationText, duration_text}, proofs.theorems.PrintableDurations.{duration_fits, duration_printable}}
use Rattle.ixdtf_checks.proofs.CanonicalLemmas.{printed_text, ready, refused_text}

pub print_duration-requires : goal.print_duration-requires
print_duration-requires c =
    let given = rw (c.duration_parser.ensures.profile, c.duration_parser.ensures.rest) at ((c.in-Ok.ensures.reads.ok _).0 refl) in
    let (has, fits) = ready {stands = IsDurationText c.args.profile} duration_text 0 c.args.text.now (λ text found is. omega (arith, duration_fits c.args.profile text found is)) (omega arith) c.requires given in
    (omega arith, (duration_printable c.args.profile _ has, fits))

pub returns-in-Ok : goal.returns-in-Ok
returns-in-Ok c = printed_text _ (rw (c.duration_parser.ensures.profile, c.duration_parser.ensures.rest) at ((c.in-Ok.ensures.reads.ok _).0 refl)) c.print_duration.ensures

pub returns-in-Err : goal.returns-in-Err
returns-in-Err c = rw (← c.duration_parser.ensures.profile) (refused_text c.duration_parser.ensures.rest (c.in-Err.ensures.reads.err, c.in-Err.ensures.reads.reason))
