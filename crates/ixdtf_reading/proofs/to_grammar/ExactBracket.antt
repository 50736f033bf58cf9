-- Reading a first bracket whose zone can have to be exact returns a zone or an annotation, or the fault of a row that fits.
use Rattle.std.proofs.Common.{◌≡◌, ◌⊎◌, ℕ, List, Bool, true, false, IsTrue, IsFalse, Ok, Err, [], ◌∷◌, ◌++◌, refl, sym, ap, ◌∙◌, inl, inr, if◌then◌else◌}
use Rattle.std.proofs.{Common.append_assoc, lemmas.Bool.both_ways}
use Rattle.ixdtf_grammar.specs.table.{Faults.Fault.IanaChar, Rows.Place.anywhere}
use Rattle.ixdtf_grammar.specs.{language.{Letters.{Text, Letter.Plain}, ZoneNames.{Zone, Zone.{Name, Offset}, has_dots}, Brackets.{ZoneNote, IsZoneBracket, IsExactBracket}}}
use Rattle.ixdtf_grammar.specs.table.{LineNames.{LineName, LineName.of_bracket, BracketLine.{first_dots_form, first_name_form, first_offset_form}}, Rows.{Row, FitsHere}}
use Rattle.ixdtf_reading.specs.reading.{Looks.{Read, ◌>>=◌, row_of}, Brackets.{Bracket, zoned, paired, bracket_at}}
use Rattle.ixdtf_reading.specs.reading.ExactZones.{is_exact, behind_flag, name_line, form_row, checked, bracket_by}
use Rattle.ixdtf_reading.proofs.{parts.{Looks.{OnRead, then_read, read_if, read_weaker}, ExactZones.{exact_holds, exact_is}}, to_reading.ExactBracket.IsBracketBy}
use Rattle.ixdtf_reading.proofs.{to_reading.FirstBracket.bracket_takes, to_grammar.FirstBracket.{FitsAfterCore, IsBracket, bracket_read}}

-- What is true if reading a first bracket returned this result.
abbrev pub BracketFront : Bool → Text → Bracket → Text → Type 0
BracketFront exact body bracket rest = (front : Text) × (body ≡ front ++ rest) × IsBracketBy exact front bracket

-- The table lines of a zone that is not exact.
abbrev pub IsForm : LineName → Type 0
IsForm (of_bracket first_dots_form) = Unit {0}
IsForm (of_bracket first_name_form) = Unit {0}
IsForm (of_bracket first_offset_form) = Unit {0}
IsForm name = ⊥

-- The row fits the text after a core.
abbrev pub FitsBracket : Bool → Row → Text → Type 0
FitsBracket exact row body = FitsAfterCore row body ⊎ (IsTrue exact × IsForm row.name × FitsHere true row body)

unruled : (front : Text) (bracket : Bracket) → IsBracket front bracket → IsBracketBy false front bracket
unruled front (zoned note) h = (h, tt)
unruled front (paired pair) h = h

module _ {E : Type 0} (fault : Row → E) where
  abbrev OnBracket : Bool → Text → Read E Bracket → Type 0
  OnBracket exact inner read = OnRead fault read (BracketFront exact (Plain 91 ∷ inner)) (λ row. FitsBracket exact row (Plain 91 ∷ inner))

  -- The row of a name that is not exact.
  refused_name : (inner front rest : Text) (critical : Bool) (name : List ℕ) (dots : Bool) → has_dots name ≡ dots → Plain 91 ∷ inner ≡ front ++ rest
      → IsZoneBracket front (record { critical = critical; zone = Name name })
      → ¬ (IsExactBracket front (record { critical = critical; zone = Name name }))
      → OnBracket true inner (Err (fault (row_of (of_bracket (name_line dots)) (anywhere rest) IanaChar)))
  refused_name inner front rest critical name true has is b none =
      (row_of (of_bracket first_dots_form) (anywhere rest) IanaChar, refl, inr (refl, tt, (front, rest, is, (critical, name, (b, none), has), (refl, refl))))
  refused_name inner front rest critical name false has is b none =
      (row_of (of_bracket first_name_form) (anywhere rest) IanaChar, refl, inr (refl, tt, (front, rest, is, (critical, name, (b, none), has), (refl, refl))))

  -- The row of a zone that is not exact.
  refused : (inner front rest : Text) (critical : Bool) (zone : Zone) → Plain 91 ∷ inner ≡ front ++ rest
      → IsZoneBracket front (record { critical = critical; zone = zone }) → ¬ (IsExactBracket front (record { critical = critical; zone = zone }))
      → OnBracket true inner (Err (fault (form_row zone rest)))
  refused inner front rest critical (Name name) is b none = refused_name inner front rest critical name (has_dots name) refl is b none
  refused inner front rest critical (Offset offset) is b none =
      (form_row (Offset offset) rest, refl, inr (refl, tt, (front, rest, is, (critical, offset, (b, none)), (refl, refl))))

  checked_read : (inner front rest : Text) (bracket : Bracket) → Plain 91 ∷ inner ≡ front ++ rest → IsBracket front bracket
      → OnBracket true inner (checked fault inner bracket rest)
  checked_read inner front rest (paired pair) is b = (front, is, b)
  checked_read inner front rest (zoned note) is b =
      let taken = bracket_takes fault front [] (zoned note) b in
      let cells : Plain 91 ∷ inner ≡ Plain 91 ∷ (taken.0 ++ rest) = is ∙ ap (λ t. t ++ rest) taken.1 in
      let split : inner ≡ taken.0 ++ rest = cc in
      read_if fault (is_exact note.zone (behind_flag note.critical inner)) _ _ _ _
      (λ holds. (front, is, (b, exact_is front taken.0 rest note taken.1 b (rw split at holds))))
      (λ fails. refused inner front rest note.critical note.zone is b
      (λ exact. both_ways _ fails (rw split (exact_holds front taken.0 rest note taken.1 exact))))

  pub bracket_by_read : (exact : Bool) (inner : Text) → OnBracket exact inner (bracket_by fault exact inner)
  bracket_by_read false inner = read_weaker fault (bracket_at fault inner) _ _ _ _ (bracket_read fault (Plain 91 ∷ inner) inner refl)
      (λ bracket rest h. (h.0, h.1, unruled h.0 bracket h.2))
      (λ row f. inl f)
  bracket_by_read true inner = then_read fault (bracket_at fault inner) _ _ _ _ _ (bracket_read fault (Plain 91 ∷ inner) inner refl)
      (λ bracket rest h. checked_read inner h.0 rest bracket h.1 h.2)
      (λ row f. inl f)
