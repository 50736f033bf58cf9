use Rattle.std.proofs.{Common.{arith, refl, sym, ap, ◌∙◌}, Output.{has_written_styled_append, has_written_styled_nil, has_written_styled_of_eq}}
use Rattle.ixdtf_instants.proofs.TextLemmas.{fraction_digits-none, fraction_digits-some}
use Rattle.ixdtf_instants.proofs.display.write_fraction.Goals as goal

pub returns-then-nanoseconds-eq0 : goal.returns-then-nanoseconds-eq0
returns-then-nanoseconds-eq0 g c = λ flush ok.
    has_written_styled_of_eq _ _ _ _ _ (sym (fraction_digits-none c.args.nanoseconds (omega arith))) (has_written_styled_nil _ _ flush)

pub returns : goal.returns
returns g c = λ flush ok.
    let point = c.in_ok-write_str.ensures.styled flush refl in
    let digits = c.write_digits.ensures point.flush ok in
    has_written_styled_of_eq _ _ _ _ _ (sym (fraction_digits-some c.args.nanoseconds (omega arith)))
    (rw (← c.trimmed-count.ensures.digits, ← c.from.ensures) (has_written_styled_append _ _ _ _ _ _ point digits))
