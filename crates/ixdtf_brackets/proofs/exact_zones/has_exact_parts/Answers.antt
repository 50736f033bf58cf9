use Rattle.ixdtf_brackets.proofs.exact_zones.has_exact_parts.Goals as goal
use Rattle.std.proofs.Common.{ℕ, Ok, List, length, drop, option_map, sym, ap, ◌∙◌, ◌&&◌, refl, arith, rules}
use Rattle.ixdtf_grammar.specs.language.Letters.{closing}
use Rattle.ixdtf_reading.proofs.code.Units.{stepped}
use Rattle.ixdtf_brackets.specs.BracketTypes.{part_form_of}
use Rattle.ixdtf_brackets.proofs.code.ExactParts.{parts_go, parts_stop, parts_end, parts_bad}

pub loop-byte-init : goal.loop-byte-init
loop-byte-init g c = record { parts = refl; looks = omega arith; counted = omega arith }

pub returns-in-Ok-None-clause-parts : goal.returns-in-Ok-None-clause-parts
returns-in-Ok-None-clause-parts g c =
    sym (parts_end _ (part_form_of c.loop-byte.form) _ (c.in-Ok-None.ensures.letter ∙ ap Ok c.in-Ok-None.field-0-is)) ∙ c.loop-byte.invariant.parts

pub returns-in-Err-clause-parts : goal.returns-in-Err-clause-parts
returns-in-Err-clause-parts g c =
    sym (parts_bad _ (part_form_of c.loop-byte.form) _ _ c.in-Err.ensures.letter) ∙ c.loop-byte.invariant.parts

pub returns-then-may_end-clause-parts : goal.returns-then-may_end-clause-parts
returns-then-may_end-clause-parts g c =
    let form = part_form_of c.loop-byte.form in
    let byte = c.in-Ok-Some.byte in
    let none = sym c.after.ensures ∙ ap (option_map part_form_of) c.in-None.is in
    let ends = sym c.may_end.ensures ∙ c.if-may_end.true in
    c.is_annotation_close.ensures ∙ ap (λ b. b && closing byte) (sym ends)
    ∙ sym (parts_stop _ g.T.EncodingType.letter g.met.T.EncodingType.faithful form c.loop-byte.cursor.rest byte (c.in-Ok-Some.ensures.letter ∙ ap Ok c.in-Ok-Some.field-0-is) none)
    ∙ c.loop-byte.invariant.parts

pub returns-else-may_end-clause-parts : goal.returns-else-may_end-clause-parts
returns-else-may_end-clause-parts g c =
    let form = part_form_of c.loop-byte.form in
    let byte = c.in-Ok-Some.byte in
    let none = sym c.after.ensures ∙ ap (option_map part_form_of) c.in-None.is in
    let ends = sym c.may_end.ensures ∙ c.if-may_end.false in
    c.if-may_end.false ∙ ap (λ b. b && closing byte) (sym ends)
    ∙ sym (parts_stop _ g.T.EncodingType.letter g.met.T.EncodingType.faithful form c.loop-byte.cursor.rest byte (c.in-Ok-Some.ensures.letter ∙ ap Ok c.in-Ok-Some.field-0-is) none)
    ∙ c.loop-byte.invariant.parts

pub loop-byte-smaller : goal.loop-byte-smaller
loop-byte-smaller g c =
    let off = ap (λ (t : List ℕ). length t) (c.advance.ensures.rest ∙ ap (λ t. drop 1 t) c.look.ensures.rest) in
    omega (arith, stepped _ g.T.EncodingType.letter _ _ (c.in-Ok-Some.ensures.letter ∙ ap Ok c.in-Ok-Some.field-0-is), off)

pub loop-byte-preserved : goal.loop-byte-preserved
loop-byte-preserved g c =
    let moved = c.advance.ensures.rest ∙ ap (λ t. drop 1 t) c.look.ensures.rest in
    let off = ap (λ (t : List ℕ). length t) moved in
    let joined = stepped _ g.T.EncodingType.letter _ _ (c.in-Ok-Some.ensures.letter ∙ ap Ok c.in-Ok-Some.field-0-is) in
    let some = sym c.after.ensures ∙ ap (option_map part_form_of) c.in-Some.is in
    let counts = c.loop-byte.invariant in
    record {
      parts = sym (parts_go _ g.T.EncodingType.letter g.met.T.EncodingType.faithful (part_form_of c.loop-byte.form) c.loop-byte.cursor.rest c.in-Ok-Some.byte (c.in-Ok-Some.ensures.letter ∙ ap Ok c.in-Ok-Some.field-0-is) _ _ some moved)
          ∙ counts.parts;
      looks = omega (arith, counts.looks, c.look.ensures.looks, c.advance.ensures.looks, joined, off);
      counted = omega (arith, counts.counted, c.look.ensures.looks, c.advance.ensures.looks);
    }
