-- The name of a zone is read, if the next code unit does not continue it. Each row of the table lines of a name is returned.
use Rattle.std.proofs.Common.{◌≡◌, ℕ, true, false, IsTrue, IsFalse, ◌⊎◌, List, [], ◌∷◌, ◌++◌, map, Ok, Err, refl, inl, inr, append_assoc, Bool, if◌then◌else◌}
use Rattle.std.proofs.lemmas.Bool.{or_parts, and_right, eqb-true}
use Rattle.ixdtf_grammar.specs.language.{Letters.{Text, zone_lead, zone_char, slash, closing, none, Letter.{Plain, Bad}}, Shapes.nothing, ZoneNames.NameItem}
use Rattle.ixdtf_grammar.specs.{language.ZoneNames.ZoneName, table.{Faults.{Fault, Fault.NonAsciiCodePoint}, LineNames.LineName.of_zone}}
use Rattle.ixdtf_grammar.specs.table.{LineNames.ZoneLine.{in_zone_name, after_zone_slash}, Lines.{Line, line_of, zone_letters, zone_end, zone_other, Line.line}}
use Rattle.ixdtf_grammar.specs.table.Rows.{Row, Place, Stops, Place.{end, other, bad, anywhere}}
use Rattle.ixdtf_reading.specs.reading.{Looks.row_of, Zones.name_run}
use Rattle.ixdtf_reading.proofs.parts.{Looks.{RowsRead, NotNext, row_here}, Steps.{IsOver, over_one, over_both, over_many, over_ok, over_err}}

-- A name ends here: the next code unit does not continue it, and is not `Bad`.
abbrev pub NameEnds : Text → Type 0
NameEnds rest = NotNext zone_char rest × NotNext slash rest

-- A table line after a complete name. It accepts only what can follow the name.
abbrev pub behind_name : Bool → Line
behind_name brackets = line nothing (if brackets then closing else none) (zone_end brackets) (zone_other brackets)

-- A code unit with which a name can begin can also continue it.
pub lead_char : (c : ℕ) → IsTrue (zone_lead c) → IsTrue (zone_char c)
lead_char c h = rw h

-- A code unit that the table line of a name does not accept cannot continue the name, and cannot follow it.
no_letter : (brackets : Bool) (c : ℕ) → IsFalse (zone_letters brackets c)
    → (IsFalse (zone_char c) × IsFalse (slash c)) × IsFalse ((if brackets then closing else none) c)
no_letter true c h = let both = or_parts _ _ h in (or_parts _ _ both.0, both.1)
no_letter false c h = (or_parts _ _ h, refl)

module _ {E : Type 0} (fault : Row → E) where
  over_char : (may_end : Bool) (c : ℕ) → IsTrue (zone_char c) → IsOver (name_run fault may_end) (name_run fault true) (Plain c ∷ [])
  unfolding name_run
  over_char may_end c h = over_one c (λ rest. rw h)

  over_slash : (c : ℕ) → IsTrue (slash c) → IsOver (name_run fault true) (name_run fault false) (Plain c ∷ [])
  unfolding name_run
  over_slash c h = over_one c (λ rest. rw (eqb-true c 47 h) refl)

  over_item : (part : Text) → NameItem part → IsOver (name_run fault true) (name_run fault true) part
  over_item part (inl h) = rw h.1 (over_char true h.0 h.2)
  over_item part (inr h) = rw (h.2, h.3.1, h.4.1) (over_both (name_run fault false) (over_slash h.3.0 h.3.2) (over_char false h.4.0 h.4.2))

  over_name : (text : Text) → ZoneName text → IsOver (name_run fault true) (name_run fault true) text
  over_name text h =
      rw (h.2, h.3.1) (over_both (name_run fault true) (over_char true h.3.0 (lead_char h.3.0 h.3.2)) (over_many over_item h.4.0 h.1 h.4.1))

  ends_here : (rest : Text) → NameEnds rest → name_run fault true rest ≡ Ok ([], rest)
  unfolding name_run
  ends_here [] h = refl
  ends_here (Bad ∷ rest) h = absurd h.0
  ends_here (Plain c ∷ rest) h = rw h.0 (rw h.1)

  -- A name is read, if the next code unit does not continue it.
  pub name_takes : (text : Text) (name : List ℕ) (rest : Text) → ZoneName text → text ≡ map Plain name → NameEnds rest
      → name_run fault true (text ++ rest) ≡ Ok (name, rest)
  name_takes text name rest h is closed = over_ok name rest rest (over_name text h) is (ends_here rest closed)

  bad_here : (rest : Text) → name_run fault true (Bad ∷ rest) ≡ Err (fault (row_of (of_zone in_zone_name) (bad (Bad ∷ rest)) NonAsciiCodePoint))
  unfolding name_run
  bad_here rest = refl

  module _ (brackets : Bool) where
    -- The row after a name is returned while the name is read, or the next code unit is read after the name.
    abbrev pub InNameOrBehind : Place → Fault → Text → Text → Type 0
    InNameOrBehind place e front rest =
        (name_run fault true (front ++ rest) ≡ Err (fault (row_of (of_zone in_zone_name) place e)))
        ⊎ ((name : List ℕ) × (name_run fault true (front ++ rest) ≡ Ok (name, rest)) × Stops (behind_name brackets) place e rest)

    pub name_row : (place : Place) (e : Fault) (front rest : Text) → ZoneName front → Stops (line_of brackets (of_zone in_zone_name)) place e rest
        → InNameOrBehind place e front rest
    name_row (end left) e front rest h at =
        let over = over_name front h in inr (over.letters, name_takes front over.letters rest h over.is (rw at.0 (tt, tt)), at)
    name_row (other left) e front rest h at =
        let over = over_name front h in
        let out = no_letter brackets at.0 at.3 in
        inr (over.letters, name_takes front over.letters rest h over.is (rw at.2 out.0), (at.0, at.1, at.2, out.1, at.4, at.5))
    name_row (bad left) e front rest h at = inl (rw (at.3, at.1, at.2) (over_err (Bad ∷ at.0) _ (over_name front h) (bad_here at.0)))
    name_row (anywhere left) e front rest h at = absurd at

    after_slash : (place : Place) (e : Fault) (rest : Text) → Stops (line_of brackets (of_zone after_zone_slash)) place e rest
        → name_run fault false rest ≡ Err (fault (row_of (of_zone after_zone_slash) place e))
    unfolding name_run
    after_slash =
        row_here fault (of_zone after_zone_slash) (name_run fault false) (line_of brackets (of_zone after_zone_slash))
        (refl, (λ rest. refl), λ c rest out. rw (out, and_right (slash c) false refl) refl)

    pub slash_row : RowsRead fault brackets (name_run fault true) (of_zone after_zone_slash)
    slash_row place e front rest f at =
        rw (f.2, f.4.1, append_assoc) (over_err (Plain f.4.0 ∷ rest) _ (over_name f.0 f.3)
        (over_err rest _ (over_slash f.4.0 f.4.2) (after_slash place e rest at)))
