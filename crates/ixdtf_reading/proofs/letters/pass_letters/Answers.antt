use Rattle.ixdtf_grammar.specs.declared.reason.Reason.{Reason}
use Rattle.ixdtf_reading.proofs.letters.pass_letters.Goals as goal
use Rattle.std.proofs.Common.{◌≡◌, ◌+◌, ℕ, List, map, length, drop, Option, Some, None, Result, Ok, Err, true, false, refl, sym, arith}
use Rattle.std.specs.Prelude.{IfOk, IsSome}
use Rattle.ixdtf_grammar.specs.{language.Letters.{Letter, Text, Class, Letter.Plain}, Views.Unread}
use Rattle.ixdtf_reading.specs.{reading.{Clauses.{YieldsAt}, Looks.{Placed, seen}, Runs.{PassesOver, always, found_in, within}}}
use Rattle.ixdtf_reading.proofs.code.{FractionLoop.one_taken, LetterLoops.{IsSoFar, goes_on, ceases, fails}}

-- A look found a code unit of the class.
one_found : (class : Class) (found : Result (Option ℕ) Reason) (text : Text) (sees : Result (Option ℕ) Placed) → YieldsAt (λ x. x) found text sees
    → found_in class found ≡ true → (c : ℕ) × (sees ≡ Ok (Some c)) × (class c ≡ true)
one_found class (Ok (Some c)) text sees is has = (c, is, has)
one_found class (Ok None) text sees is has = absurd cc
one_found class (Err stop) text sees is has = absurd cc

-- A step consumed a code unit. The run continues after it.
record Step (stop : Reason) (letter : ℕ → Letter) (class : Class) (whole before after : List ℕ) : Type 0 where
  far : IsSoFar (always stop) (within class) letter tt whole after tt
  taken : length after + 1 ≡ length before

step : {stop : Reason} (letter : ℕ → Letter) (faithful : (unit n : ℕ) → letter unit ≡ Plain n → n ≡ unit) (class : Class) (whole before looked after : List ℕ)
    (found : Result (Option ℕ) Reason) → IsSoFar (always stop) (within class) letter tt whole before tt → YieldsAt (λ x. x) found (map letter before) (seen stop (map letter before))
    → true ≡ found_in class found → looked ≡ before → after ≡ drop 1 looked → Step stop letter class whole before after
step letter faithful class whole before looked after found far is goes same moved =
    let (byte, sees, has) = one_found class found _ _ is (sym goes) in
    let off = one_taken {letter = letter} sees refl same moved in
    let next : within class tt byte ≡ Some tt = rw has refl in
    record { far = goes_on _ _ letter faithful _ _ _ _ far _ _ _ _ off.found next off.moved; taken = off.shorter }

-- The run ends at the end of the text, at a code unit of another class, or at a bad code unit.
run_ends : (stop : Reason) (letter : ℕ → Letter) (faithful : (unit n : ℕ) → letter unit ≡ Plain n → n ≡ unit) (class : Class) (old here : Unread)
    (found : Result (Option ℕ) Reason) → IsSoFar (always stop) (within class) letter tt old.rest here.rest tt
    → YieldsAt (λ x. x) found (map letter here.rest) (seen stop (map letter here.rest)) → found_in class found ≡ false → PassesOver letter stop old found here class
run_ends stop letter faithful class old here (Ok (Some c)) far is other =
    let none : within class tt c ≡ None = rw other refl in
    (far.taken, far.units, ceases _ _ letter faithful _ _ _ _ far _ (Some c) is none)
run_ends stop letter faithful class old here (Ok None) far is other = (far.taken, far.units, ceases _ _ letter faithful _ _ _ _ far _ None is tt)
run_ends stop letter faithful class old here (Err e) far is other = fails _ _ letter faithful _ _ _ _ far _ is

-- If a look found a code unit, a step consumes one code unit.
stays : (stop : Reason) (letter : ℕ → Letter) (rest : List ℕ) (found : Result (Option ℕ) Reason) → YieldsAt (λ x. x) found (map letter rest) (seen stop (map letter rest))
    → IfOk found (λ next. IsSome next → length (drop 1 rest) + 1 ≡ length rest)
stays stop letter rest (Ok (Some c)) is = λ some. (one_taken {letter = letter} {rest = rest} is refl refl refl).shorter
stays stop letter rest (Ok None) is = λ some. absurd cc
stays stop letter rest (Err e) is = tt

pub loop-here-smaller : goal.loop-here-smaller
loop-here-smaller g c =
    let one = step g.T.EncodingType.letter g.met.T.EncodingType.faithful g.S.Letters.class _ _ _ _ _ c.loop-here.invariant.far
    c.look-last.ensures.letter c.if-not-goes_on-5.ensures c.look-last.ensures.rest c.advance-in-loop-here.ensures.rest in
    omega arith

pub loop-here-preserved : goal.loop-here-preserved
loop-here-preserved g c =
    let one = step g.T.EncodingType.letter g.met.T.EncodingType.faithful g.S.Letters.class _ _ _ _ _ c.loop-here.invariant.far
    c.look-last.ensures.letter c.if-not-goes_on-5.ensures c.look-last.ensures.rest c.advance-in-loop-here.ensures.rest in
    record { far = one.far; looks = omega arith; counted = omega arith; shorter = omega arith }

pub loop-here-preserved-then-remaining-ge4 : goal.loop-here-preserved-then-remaining-ge4
loop-here-preserved-then-remaining-ge4 g c =
    let first = step g.T.EncodingType.letter g.met.T.EncodingType.faithful g.S.Letters.class _ _ _ _ _ c.loop-here.invariant.far
    c.look-first.ensures.letter c.if-not-goes_on.ensures c.look-first.ensures.rest c.advance.ensures.rest in
    let second = step g.T.EncodingType.letter g.met.T.EncodingType.faithful g.S.Letters.class _ _ _ _ _ first.far
    c.look-second.ensures.letter c.if-not-goes_on-2.ensures c.look-second.ensures.rest c.advance-then-remaining-ge4.ensures.rest in
    let third = step g.T.EncodingType.letter g.met.T.EncodingType.faithful g.S.Letters.class _ _ _ _ _ second.far
    c.look-third.ensures.letter c.if-not-goes_on-3.ensures c.look-third.ensures.rest c.advance-then-remaining-ge4-2.ensures.rest in
    let fourth = step g.T.EncodingType.letter g.met.T.EncodingType.faithful g.S.Letters.class _ _ _ _ _ third.far
    c.look-fourth.ensures.letter c.if-not-goes_on-4.ensures c.look-fourth.ensures.rest c.advance-then-remaining-ge4-3.ensures.rest in
    record { far = fourth.far; looks = omega arith; counted = omega arith; shorter = omega arith }

pub returns-then-not-goes_on-clause-letters : goal.returns-then-not-goes_on-clause-letters
returns-then-not-goes_on-clause-letters g c =
    run_ends c.args.stop g.T.EncodingType.letter g.met.T.EncodingType.faithful g.S.Letters.class c.args.cursor.now c.look-first.new.self c.look-first.result
    (rw c.look-first.ensures.rest c.loop-here.invariant.far) (rw c.look-first.ensures.rest c.look-first.ensures.letter) (sym c.if-not-goes_on.ensures)

pub returns-then-not-goes_on-2-clause-letters : goal.returns-then-not-goes_on-2-clause-letters
returns-then-not-goes_on-2-clause-letters g c =
    let first = step g.T.EncodingType.letter g.met.T.EncodingType.faithful g.S.Letters.class _ _ _ _ _ c.loop-here.invariant.far
    c.look-first.ensures.letter c.if-not-goes_on.ensures c.look-first.ensures.rest c.advance.ensures.rest in
    run_ends c.args.stop g.T.EncodingType.letter g.met.T.EncodingType.faithful g.S.Letters.class c.args.cursor.now c.look-second.new.self c.look-second.result
    (rw c.look-second.ensures.rest first.far) (rw c.look-second.ensures.rest c.look-second.ensures.letter) (sym c.if-not-goes_on-2.ensures)

pub returns-then-not-goes_on-3-clause-letters : goal.returns-then-not-goes_on-3-clause-letters
returns-then-not-goes_on-3-clause-letters g c =
    let first = step g.T.EncodingType.letter g.met.T.EncodingType.faithful g.S.Letters.class _ _ _ _ _ c.loop-here.invariant.far
    c.look-first.ensures.letter c.if-not-goes_on.ensures c.look-first.ensures.rest c.advance.ensures.rest in
    let second = step g.T.EncodingType.letter g.met.T.EncodingType.faithful g.S.Letters.class _ _ _ _ _ first.far
    c.look-second.ensures.letter c.if-not-goes_on-2.ensures c.look-second.ensures.rest c.advance-then-remaining-ge4.ensures.rest in
    run_ends c.args.stop g.T.EncodingType.letter g.met.T.EncodingType.faithful g.S.Letters.class c.args.cursor.now c.look-third.new.self c.look-third.result
    (rw c.look-third.ensures.rest second.far) (rw c.look-third.ensures.rest c.look-third.ensures.letter) (sym c.if-not-goes_on-3.ensures)

pub returns-then-not-goes_on-4-clause-letters : goal.returns-then-not-goes_on-4-clause-letters
returns-then-not-goes_on-4-clause-letters g c =
    let first = step g.T.EncodingType.letter g.met.T.EncodingType.faithful g.S.Letters.class _ _ _ _ _ c.loop-here.invariant.far
    c.look-first.ensures.letter c.if-not-goes_on.ensures c.look-first.ensures.rest c.advance.ensures.rest in
    let second = step g.T.EncodingType.letter g.met.T.EncodingType.faithful g.S.Letters.class _ _ _ _ _ first.far
    c.look-second.ensures.letter c.if-not-goes_on-2.ensures c.look-second.ensures.rest c.advance-then-remaining-ge4.ensures.rest in
    let third = step g.T.EncodingType.letter g.met.T.EncodingType.faithful g.S.Letters.class _ _ _ _ _ second.far
    c.look-third.ensures.letter c.if-not-goes_on-3.ensures c.look-third.ensures.rest c.advance-then-remaining-ge4-2.ensures.rest in
    run_ends c.args.stop g.T.EncodingType.letter g.met.T.EncodingType.faithful g.S.Letters.class c.args.cursor.now c.look-fourth.new.self c.look-fourth.result
    (rw c.look-fourth.ensures.rest third.far) (rw c.look-fourth.ensures.rest c.look-fourth.ensures.letter) (sym c.if-not-goes_on-4.ensures)

pub returns-then-not-goes_on-5-clause-letters : goal.returns-then-not-goes_on-5-clause-letters
returns-then-not-goes_on-5-clause-letters g c =
    run_ends c.args.stop g.T.EncodingType.letter g.met.T.EncodingType.faithful g.S.Letters.class c.args.cursor.now c.look-last.new.self c.look-last.result
    (rw c.look-last.ensures.rest c.loop-here.invariant.far) (rw c.look-last.ensures.rest c.look-last.ensures.letter) (sym c.if-not-goes_on-5.ensures)

pub returns-then-not-goes_on-5-clause-stays : goal.returns-then-not-goes_on-5-clause-stays
returns-then-not-goes_on-5-clause-stays g c =
    stays c.args.stop g.T.EncodingType.letter c.look-last.new.self.rest c.look-last.result (rw c.look-last.ensures.rest c.look-last.ensures.letter)
