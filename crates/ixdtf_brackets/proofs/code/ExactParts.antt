-- The test of the parts of a name, code unit by code unit.
use Rattle.ixdtf_grammar.specs.declared.reason.Reason.{Reason}
use Rattle.std.proofs.Common.{◌≡◌, ℕ, Bool, true, false, ◌&&◌, List, [], ◌∷◌, map, drop, Option, Some, None, Ok, Err, refl, sym, ap, ◌∙◌, subst}
use Rattle.ixdtf_grammar.specs.language.Letters.{Letter, Text, closing, Letter.{Plain, Bad}}
use Rattle.ixdtf_reading.specs.{reading.{Looks.{Placed, look_at, seen}, Runs.on_letter, ExactZones.{PartForm, form_after, may_end, has_parts}}}
use Rattle.ixdtf_reading.proofs.code.LetterLoops.{first_is}

module _ (stop : Reason) (letter : ℕ → Letter) (faithful : (unit n : ℕ) → letter unit ≡ Plain n → n ≡ unit) (form : PartForm) (rest : List ℕ) (c : ℕ)
    (e : seen stop (map letter rest) ≡ Ok (Some c)) where
  -- The code unit continues the name.
  pub parts_go : (next : PartForm) (left : List ℕ) → form_after form c ≡ Some next → left ≡ drop 1 rest
      → has_parts form (map letter rest) ≡ has_parts next (map letter left)
  unfolding has_parts
  parts_go next left is moved =
      let here = first_is stop letter faithful rest c e in
      let same : here.0 ≡ left = sym (moved ∙ ap (λ t. drop 1 t) here.1) in
      ap (has_parts form) here.2 ∙ ap (λ n. on_letter n (λ f. has_parts f (map letter here.0)) (may_end form && closing c)) is
      ∙ ap (λ t. has_parts next (map letter t)) same

  -- The code unit does not continue the name.
  pub parts_stop : form_after form c ≡ None → has_parts form (map letter rest) ≡ (may_end form && closing c)
  unfolding has_parts
  parts_stop is =
      let here = first_is stop letter faithful rest c e in
      ap (has_parts form) here.2 ∙ ap (λ n. on_letter n (λ f. has_parts f (map letter here.0)) (may_end form && closing c)) is

-- The text ends.
pub parts_end : (stop : Reason) (form : PartForm) (text : Text) → seen stop text ≡ Ok None → has_parts form text ≡ false
unfolding has_parts look_at
parts_end stop form [] e = refl
parts_end stop form (Bad ∷ rest) e = absurd cc
parts_end stop form (Plain c ∷ rest) e = absurd cc

pub parts_bad : (stop : Reason) (form : PartForm) (text : Text) (fault : Placed) → seen stop text ≡ Err fault → has_parts form text ≡ false
unfolding has_parts look_at
parts_bad stop form [] fault e = refl
parts_bad stop form (Bad ∷ rest) fault e = refl
parts_bad stop form (Plain c ∷ rest) fault e = absurd cc
