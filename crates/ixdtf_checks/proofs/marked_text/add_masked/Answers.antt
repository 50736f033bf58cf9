-- One iteration of the loop adds one run of bytes, and the byte 0xC2 after it or a `.`.
use Rattle.ixdtf_checks.proofs.marked_text.add_masked.Goals as goal
use Rattle.std.proofs.Common.{◌≡◌, ℕ, ◌+◌, ◌-◌, ◌≤◌, List, [], ◌∷◌, ◌++◌, length, map, take, drop, get_or, refl, sym, ap, ◌∙◌, arith, append_assoc, length-drop}
use Rattle.std.proofs.lemmas.{Bool.eqb-true, List.{length-take-le, take_all, Quantifiers.position-Some}}
use Rattle.ixdtf_buffers.specs.{Adding.Adds, Lines.is_byte}
use Rattle.ixdtf_buffers.proofs.{AddingLemmas.adds_then, LinesLemmas.position-None}
use Rattle.ixdtf_checks.specs.Pointed.{mask, masked}
use Rattle.ixdtf_checks.proofs.{MaskedLemmas.{masked_all, masked_lead, masked_pair}, PointedLemmas.adds_same}

-- A run was added, and one byte for the n bytes from the next 0xC2 on.
goes_on : (old new : List ℕ) (at last n : ℕ) (bs rest part run : List ℕ) (byte : ℕ) → masked rest ≡ run ++ byte ∷ masked (drop n rest)
    → last + (length rest - n) ≤ at + length bs → part ++ masked rest ≡ masked bs → Adds old new at last ((part ++ run) ++ byte ∷ [])
    → (last + length (take (length rest - n) (drop n rest)) ≤ at + length bs)
    × ((p : List ℕ) × (p ++ masked (take (length rest - n) (drop n rest)) ≡ masked bs) × Adds old new at last p)
goes_on old new at last n bs rest part run byte shown few whole added =
    let long = length-drop n rest in
    let all : take (length rest - n) (drop n rest) ≡ drop n rest = take_all (length rest - n) (drop n rest) (omega (arith, long)) in
    let next = masked (drop n rest) in (
      omega (arith, few, ap length all, long),
      (
        (part ++ run) ++ byte ∷ [],
        ap (λ t. ((part ++ run) ++ byte ∷ []) ++ masked t) all ∙ append_assoc (part ++ run) (byte ∷ []) next
            ∙ append_assoc part run (byte ∷ next) ∙ ap (λ t. part ++ t) (sym shown) ∙ whole,
        added,
      ),
    )

pub leads-preserved-then-begins_control : goal.leads-preserved-then-begins_control
leads-preserved-then-begins_control c =
    let (few, (part, whole, added)) = c.leads.invariant in
    let rest = c.leads.rest.now in
    let place = c.in-Some.place in
    let (inside, there, none) = position-Some (is_byte 194) rest place 0 (sym c.in-Some.ensures.place) in
    let (more, small) = c.if-begins_control.ensures.on refl in
    let front = length-take-le place rest (omega (arith, inside)) in
    goes_on _ _ _ _ (place + 2) _ rest part (map mask (take place rest)) 46
    (masked_pair rest place inside (eqb-true (get_or rest place 0) 194 there) none more small)
    (omega (arith, few, front, c.add_byte-end.ensures.place, more)) whole
    (adds_then (adds_then added (rw front at c.add_run.ensures.text)) c.add_byte-end.ensures.text)

pub leads-preserved : goal.leads-preserved
leads-preserved c =
    let (few, (part, whole, added)) = c.leads.invariant in
    let rest = c.leads.rest.now in
    let place = c.in-Some.place in
    let (inside, there, none) = position-Some (is_byte 194) rest place 0 (sym c.in-Some.ensures.place) in
    let front = length-take-le place rest (omega (arith, inside)) in
    goes_on _ _ _ _ (place + 1) _ rest part (map mask (take place rest)) 194
    (masked_lead rest place inside (eqb-true (get_or rest place 0) 194 there) none (c.if-begins_control.ensures.off refl))
    (omega (arith, few, front, c.add_byte-end-else-begins_control.ensures.place, inside)) whole
    (adds_then (adds_then added (rw front at c.add_run.ensures.text)) c.add_byte-end-else-begins_control.ensures.text)

pub returns-clause-text : goal.returns-clause-text
returns-clause-text c =
    let (few, (part, whole, added)) = c.leads.invariant in
    let rest = c.leads.rest.now in
    let all = masked_all rest (position-None (is_byte 194) rest c.in_default.ensures.place) in
    adds_same (ap (λ t. part ++ t) (sym all) ∙ whole) (adds_then added c.add_run-2.ensures.text)
