use Rattle.ixdtf_reading.proofs.annotations.start_component.Goals as goal
use Rattle.std.proofs.Common.{rules, ◌≡◌, ◌∙◌, ◌≤◌, ℕ, List, true, false, length, map, drop, Ok, refl, sym, ap, arith}
use Rattle.ixdtf_grammar.specs.language.Letters.{value_char}
use Rattle.ixdtf_reading.proofs.code.FirstBytes.{component_taken, component_refused, two_behind, two_there}

pub advance_two-requires : goal.advance_two-requires
advance_two-requires g c =
    let is : value_char c.byte_at.result ≡ true = search rules in
    let two = two_there value_char refl g.T.EncodingType.letter c.args.cursor.now.rest (rw (← c.byte_at.ensures.there) is) in
    omega (arith, two, ap (λ (t : List ℕ). length t) c.byte_at.ensures.rest)

pub returns-then-is_annotation_value_component-clause-letter : goal.returns-then-is_annotation_value_component-clause-letter
returns-then-is_annotation_value_component-clause-letter g c =
    let is : value_char c.byte_at.result ≡ true = search rules in
    let moved = c.advance_two.ensures.rest ∙ ap (λ t. drop 2 t) c.byte_at.ensures.rest in
    component_taken c.args.stop (drop 1 (map g.T.EncodingType.letter c.args.cursor.now.rest)) (rw (← c.byte_at.ensures.there) is)
    ∙ ap (λ t. Ok (true, t)) (two_behind g.T.EncodingType.letter c.args.cursor.now.rest ∙ ap (map g.T.EncodingType.letter) (sym moved))

pub returns-clause-letter : goal.returns-clause-letter
returns-clause-letter g c =
    let out : value_char c.byte_at.result ≡ false = search rules in
    rw c.stopped.ensures (component_refused c.args.stop (drop 1 (map g.T.EncodingType.letter c.args.cursor.now.rest)) (rw (← c.byte_at.ensures.there) out)
    ∙ rw (c.advance.ensures.letters, c.byte_at.ensures.rest) refl)
