-- The content of a bracket after `[` and the optional `!`. Its first code unit decides how it is read.
use Rattle.std.proofs.{Common.{◌≡◌, ℕ, Bool, true, false, IsTrue, IsFalse, [], ◌∷◌, ◌++◌, Err, refl, ap, ◌∙◌, append_assoc, if◌then◌else◌}, lemmas.Bool.eqb-true}
use Rattle.ixdtf_grammar.specs.language.{Letters.{Text, Class, opening, exclamation, Letter.Plain}, Shapes.{one, ◌then◌}, Brackets.Opens}
use Rattle.ixdtf_grammar.specs.table.{Faults.Fault, LineNames.LineName, Lines.line_of, Rows.{Row, Place, Stops}}
use Rattle.ixdtf_reading.specs.reading.Looks.{Read, ◌>>=◌, row_of, letter_at}
use Rattle.ixdtf_reading.proofs.parts.Looks.{Looks, Goes, goes, stops}

-- The text is `[` and more. Reading after the `[` returns this result at the rest.
abbrev pub Returned : {E A : Type 0} → (Text → Read E A) → Text → Text → Read E A → Type 0
Returned read text rest given = (inner : Text) × (text ≡ Plain 91 ∷ inner) × (read (inner ++ rest) ≡ given)

module _ {E A : Type 0} (fault : Row → E) (start critical_start : LineName) (first : Class)
    (looks : Looks (line_of true start)) (critical_looks : Looks (line_of true critical_start))
    (may_start : (c : ℕ) → IsTrue (first c) → Goes (line_of true start) c × Goes (line_of true critical_start) c × IsFalse (exclamation c))
    (may_be_critical : Goes (line_of true start) 33) (inside : Bool → ℕ → Text → Read E A) where
  abbrev critical_at : Text → Read E A
  critical_at text = letter_at fault critical_start text >>= λ lead. inside true lead.0 text

  -- Reads a bracket after its `[`.
  abbrev opened_at : Text → Read E A
  opened_at text = letter_at fault start text >>= λ lead. if exclamation lead.0 then critical_at lead.1 else inside false lead.0 text

  at_exclamation : (c : ℕ) (text : Text) → IsTrue (exclamation c) → opened_at (Plain c ∷ text) ≡ critical_at text
  at_exclamation c text h = rw (eqb-true c 33 h, goes fault start 33 text looks may_be_critical) refl

  -- The result of reading the content is the result of reading the bracket.
  pub opened : (front : Text) (critical : Bool) → Opens front critical → (body rest : Text) (given : Read E A)
      → ((c : ℕ) × (more : Text) × (body ++ rest ≡ Plain c ∷ more) × IsTrue (first c) × (inside critical c (body ++ rest) ≡ given))
      → Returned opened_at (front ++ body) rest given
  opened front true h body rest given z = (
    h.1 ++ body,
    rw (h.2, h.3.1, eqb-true h.3.0 91 h.3.2) refl,
    rw (append_assoc, h.4.1) (at_exclamation h.4.0 (body ++ rest) h.4.2
        ∙ rw (ap (letter_at fault critical_start) z.2 ∙ goes fault critical_start z.0 z.1 critical_looks (may_start z.0 z.3).1) z.4),
  )
  opened front false h body rest given z = (
    body,
    rw (h.1, eqb-true h.0 91 h.2) refl,
    rw (ap (letter_at fault start) z.2 ∙ goes fault start z.0 z.1 looks (may_start z.0 z.3).0, (may_start z.0 z.3).2) z.4,
  )

  -- The row after `[`. The next lemma is for the row after `!`.
  pub start_row : (place : Place) (e : Fault) (front rest : Text) → one opening front → Stops (line_of true start) place e rest
      → Returned opened_at front rest (Err (fault (row_of start place e)))
  start_row place e front rest f at = ([], rw (f.1, eqb-true f.0 91 f.2) refl, rw (stops fault start place e rest looks at) refl)

  pub critical_row : (place : Place) (e : Fault) (front rest : Text) → (one opening then one exclamation) front
      → Stops (line_of true critical_start) place e rest → Returned opened_at front rest (Err (fault (row_of critical_start place e)))
  critical_row place e front rest f at = (
    f.1,
    rw (f.2, f.3.1, eqb-true f.3.0 91 f.3.2) refl,
    rw f.4.1 (at_exclamation f.4.0 rest f.4.2 ∙ rw (stops fault critical_start place e rest critical_looks at) refl),
  )
