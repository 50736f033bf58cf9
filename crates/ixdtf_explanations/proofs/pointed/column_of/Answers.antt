use Rattle.ixdtf_explanations.proofs.pointed.column_of.Goals as goal
use Rattle.std.proofs.Common.{◌≡◌, ℕ, ◌+◌, ◌-◌, ◌<◌, ◌≤◌, List, length, get_or, drop, cond, nat_lt, sym, ap, ◌∙◌, arith}
use Rattle.std.proofs.lemmas.{Iterator.{YieldsList-from_chars, Consumers.{YieldsList-turn, YieldsList-end}}, List.{at_drop_more, at_drop_all, length_push}}
use Rattle.std.proofs.lemmas.Bool.Decides.{nat_tests}
use Rattle.std.specs.{Char.len_utf8, Str.chars}
use Rattle.ixdtf_explanations.specs.LocatedTexts.{column_of}

-- At a character of the text, the column is computed from this character.
at_character : (cs : List ℕ) (n c left : ℕ) → (n < length cs) × (c ≡ get_or cs n c) → column_of (drop n cs) left ≡ cond (nat_lt left (len_utf8 c)) 0 (column_of (drop (n + 1) cs) (left - len_utf8 c) + 1)
at_character cs n c left h =
    at_drop_more (λ ds. column_of ds left) cs n c h.0
    ∙ ap (λ x. cond (nat_lt left (len_utf8 x)) 0 (column_of (drop (n + 1) cs) (left - len_utf8 x) + 1)) (sym h.1)

pub returns-then-left-length-clause-column : goal.returns-then-left-length-clause-column
returns-then-left-length-clause-column c =
    let t = YieldsList-turn (YieldsList-from_chars c.args.text.now c.utf8.text cc) c.loop-character.yielded _ c.loop-character.yielded_by _ _ c.in-Some.character c.in-Some.is c.next.ensures.steps in
    let n = c.loop-character.invariant.0 in
    let e = at_character _ _ _ c.loop-character.left t in
    let w = c.len_utf8-length.ensures.value in
    grind (arith, nat_tests)

pub loop-character-preserved : goal.loop-character-preserved
loop-character-preserved c =
    let t = YieldsList-turn (YieldsList-from_chars c.args.text.now c.utf8.text cc) c.loop-character.yielded _ c.loop-character.yielded_by _ _ c.in-Some.character c.in-Some.is c.next.ensures.steps in
    let e = at_character _ _ _ c.loop-character.left t in
    let w = c.len_utf8-length.ensures.value in
    let p = length_push c.loop-character.yielded c.in-Some.character in
    grind (arith, nat_tests)

pub returns-clause-column : goal.returns-clause-column
returns-clause-column c =
    let t = YieldsList-end (YieldsList-from_chars c.args.text.now c.utf8.text cc) c.loop-character.yielded _ c.loop-character.yielded_by _ _ c.in-None.is c.next.ensures.steps in
    let past : length (chars c.args.text.now) ≤ c.loop-character.column = omega (arith, t.1) in
    let e = at_drop_all (λ ds. column_of ds c.loop-character.left) _ c.loop-character.column past in
    omega (arith, e)
