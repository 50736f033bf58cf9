use Rattle.ixdtf_c.proofs.reason_numbers.name_and_zero.Goals as goal
use Rattle.ixdtf_c.proofs.reason_numbers.name_and_zero.Goals.{then-number-lt1-via-then-number-lt1, then-number-lt1-via-else-number-lt1+then-number-gt126}
use Rattle.std.proofs.Common.{Bor, List, ℕ, arith, inl, inr, ◌⊎◌, ◌<◌, sym, ap, ◌++◌, ◌∷◌, []}
use Rattle.std.proofs.Math.ListN.{get_or-map}
use Rattle.ixdtf_c.proofs.Reasoned.{line_at, no_line}

pub returns : goal.returns
returns c = rw (← get_or-map (λ (it : Bor (List ℕ)). it.now)) (line_at c.args.number _ (omega (arith, c.if-number-lt1.false)) (omega (arith, c.if-number-gt126.false)))

pub returns-then-number-lt1 : goal.returns-then-number-lt1
returns-then-number-lt1 c =
    let out : (c.args.number < 1) ⊎ (126 < c.args.number) = elim c.then-number-lt1.branch [
      | then-number-lt1-via-then-number-lt1 w ↦ inl (omega (arith, w.if-number-lt1.true))
      | then-number-lt1-via-else-number-lt1+then-number-gt126 w ↦ inr (omega (arith, w.if-number-gt126.true))
    ] in
    sym (ap (λ name. name ++ 0 ∷ []) (no_line _ out))
