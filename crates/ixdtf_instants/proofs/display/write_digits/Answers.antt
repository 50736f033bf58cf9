use Rattle.std.proofs.Common.{◌≡◌, ◌∙◌, ◌+◌, ◌-◌, ◌/◌, ◌%◌, ◌^◌, ◌++◌, ◌∷◌, [], true, refl, sym, ap, arith, append_assoc, append-nil}
use Rattle.std.proofs.Output.{has_written_styled_append, has_written_styled_of_eq}
use Rattle.ixdtf_instants.specs.Texts.{digits_in}
use Rattle.ixdtf_instants.proofs.TextLemmas.{ten_pos, digits_in-none, digits_in-first}
use Rattle.ixdtf_instants.proofs.display.write_digits.Goals as goal

pub nonzero_div-number : goal.nonzero_div-number
nonzero_div-number g c = omega (arith, ten_pos (c.loop-left.left - 1))

pub loop-left-preserved : goal.loop-left-preserved
loop-left-preserved g c =
    let (below, small, done, whole, wrote) = c.loop-left.invariant in
    let digit = 48 + c.args.number / 10 ^ (c.loop-left.left - 1) % 10 in (
      omega arith,
      small,
      done ++ digit ∷ [],
      append_assoc done _ _ ∙ ap (λ t. done ++ t) (sym (digits_in-first _ _ (omega arith))) ∙ whole,
      λ flush. rw (← c.pow.ensures) (has_written_styled_append _ _ _ _ _ _ (wrote flush) (c.in_ok-write_digit.ensures (wrote flush).flush (refl {a = true}))),
    )

pub returns : goal.returns
returns g c =
    let (below, small, done, whole, wrote) = c.loop-left.invariant in
    let none : c.loop-left.left ≡ 0 = omega arith in
    let all = sym (append-nil done) ∙ ap (λ t. done ++ t) (sym (digits_in-none c.args.number)) ∙ (rw none at whole) in
    λ flush ok. has_written_styled_of_eq _ _ _ _ _ all (wrote flush)
