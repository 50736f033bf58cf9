use Rattle.ixdtf_brackets.proofs.zone.pass_parts.Goals as goal
use Rattle.std.proofs.{Common.{ℕ, List, Ok, length, drop, sym, ap, ◌∙◌, arith}, lemmas.Result.err_from_is_err_and}
use Rattle.ixdtf_reading.proofs.code.{LetterLoops.begins, Units.stepped}
use Rattle.ixdtf_grammar.specs.language.Letters.{slash, zone_char}
use Rattle.ixdtf_brackets.proofs.code.NameLoop.{is_some, some_next, part_fails, part_ceases, part_slashes, slash_fails, slash_ceases, slash_goes_on}

pub loop-behind-init : goal.loop-behind-init
loop-behind-init g c = record { far = begins _ _ _ _ _; looks = omega arith; counted = omega arith; shorter = omega arith }

pub returns-in_err-behind-clause-letters : goal.returns-in_err-behind-clause-letters
returns-in_err-behind-clause-letters g c =
    let p = err_from_is_err_and c.from_residual.result c.from_residual.ensures.1 in
    rw (p.1, p.2) (part_fails _ _ g.met.T.EncodingType.faithful _ c.loop-behind.invariant.far _ _ c.in_err-behind.ensures.letters)

-- No slash follows a part.
pub returns-then-not-ends_part-clause-letters : goal.returns-then-not-ends_part-clause-letters
returns-then-not-ends_part-clause-letters g c =
    let passed = c.in_ok-behind.ensures.letters in
    part_ceases _ _ g.met.T.EncodingType.faithful _ c.loop-behind.invariant.far _ _ _ passed.2 passed.1 (sym c.ends_part.ensures ∙ c.if-not-ends_part.true)

-- The code unit after a slash is bad.
pub returns-in_err-next-clause-letters : goal.returns-in_err-next-clause-letters
returns-in_err-next-clause-letters g c =
    let faithful = g.met.T.EncodingType.faithful in
    let p = err_from_is_err_and c.from_residual-in_err-next.result c.from_residual-in_err-next.ensures.1 in
    let passed = c.in_ok-behind.ensures.letters in
    let is = sym c.ends_part.ensures ∙ c.if-not-ends_part.false in
    let far = part_slashes _ _ faithful _ c.loop-behind.invariant.far _ _ _ passed.2 passed.1 _ is c.advance.ensures.rest in
    rw (p.1, p.2, c.look.ensures.rest) (slash_fails _ _ faithful _ far _ c.in_err-next.ensures.letter)

-- No part follows a slash.
pub returns-then-not-starts_part-clause-letters : goal.returns-then-not-starts_part-clause-letters
returns-then-not-starts_part-clause-letters g c =
    let faithful = g.met.T.EncodingType.faithful in
    let passed = c.in_ok-behind.ensures.letters in
    let is = sym c.ends_part.ensures ∙ c.if-not-ends_part.false in
    let far = part_slashes _ _ faithful _ c.loop-behind.invariant.far _ _ _ passed.2 passed.1 _ is c.advance.ensures.rest in
    rw c.look.ensures.rest (slash_ceases _ _ faithful _ far _ c.in_ok-next.ensures.letter (sym c.starts_part.ensures ∙ c.if-not-starts_part.true))

pub loop-behind-preserved : goal.loop-behind-preserved
loop-behind-preserved g c =
    let faithful = g.met.T.EncodingType.faithful in
    let passed = c.in_ok-behind.ensures.letters in
    let is = sym c.ends_part.ensures ∙ c.if-not-ends_part.false in
    let far = part_slashes _ _ faithful _ c.loop-behind.invariant.far _ _ _ passed.2 passed.1 _ is c.advance.ensures.rest in
    let starts = sym c.starts_part.ensures ∙ c.if-not-starts_part.false in
    let found = some_next zone_char _ starts in
    let moved = c.advance-in-loop-behind.ensures.rest ∙ ap (λ t. drop 1 t) c.look.ensures.rest in
    let counts = c.loop-behind.invariant in
    let walked = c.in_ok-behind.ensures in
    let paid = walked.stays (is_some slash _ is) in
    let joined = stepped _ g.T.EncodingType.letter _ found.0 (c.in_ok-next.ensures.letter ∙ ap Ok found.1) in
    let off = ap (λ (t : List ℕ). length t) c.advance.ensures.rest in
    let off_too = ap (λ (t : List ℕ). length t) moved in
    record {
      far = slash_goes_on _ _ faithful _ far _ _ c.in_ok-next.ensures.letter starts moved;
      looks = omega (arith, counts.looks, walked.looks, paid, joined, off, off_too);
      counted = omega (arith, counts.counted, walked.looks);
      shorter = omega (arith, counts.shorter, walked.shorter, paid, joined, off, off_too);
    }

-- The slash was consumed, so its access needs no addition to the limit.
pub returns-then-not-starts_part-clause-looks : goal.returns-then-not-starts_part-clause-looks
returns-then-not-starts_part-clause-looks g c =
    let walked = c.in_ok-behind.ensures in
    let paid = walked.stays (is_some slash _ (sym c.ends_part.ensures ∙ c.if-not-ends_part.false)) in
    let off = ap (λ (t : List ℕ). length t) (c.look.ensures.rest ∙ c.advance.ensures.rest) in
    (omega (arith, c.loop-behind.invariant.looks, walked.looks, paid, off), omega (arith, c.loop-behind.invariant.counted, walked.looks))

pub returns-in_err-next-clause-looks : goal.returns-in_err-next-clause-looks
returns-in_err-next-clause-looks g c =
    let walked = c.in_ok-behind.ensures in
    let paid = walked.stays (is_some slash _ (sym c.ends_part.ensures ∙ c.if-not-ends_part.false)) in
    let off = ap (λ (t : List ℕ). length t) (c.look.ensures.rest ∙ c.advance.ensures.rest) in
    (omega (arith, c.loop-behind.invariant.looks, walked.looks, paid, off), omega (arith, c.loop-behind.invariant.counted, walked.looks))
