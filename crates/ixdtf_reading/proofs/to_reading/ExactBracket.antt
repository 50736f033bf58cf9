-- A first bracket whose zone can have to be exact is read. Each row of its table lines is returned.
use Rattle.std.proofs.Common.{◌≡◌, ◌⊎◌, ℕ, List, Bool, true, false, IsTrue, IsFalse, Ok, Err, [], ◌∷◌, ◌++◌, refl, sym, ap, ◌∙◌, if◌then◌else◌}
use Rattle.std.proofs.lemmas.Bool.{both_ways, false_from_ne_true}
use Rattle.ixdtf_grammar.specs.{language.{Letters.{Text, Letter.Plain}, ZoneNames.{Zone, Zone.{Name, Offset}, has_dots}, Brackets.{ZoneNote, IsZoneBracket, IsExactBracket, MayStand}}}
use Rattle.ixdtf_grammar.specs.table.{Faults.{Fault, Fault.IanaChar}, LineNames.{LineName, LineName.of_bracket, BracketLine.{first_dots_form, first_name_form, first_offset_form}}, Lines.line_of}
use Rattle.ixdtf_grammar.specs.table.Rows.{Row, Place, Stops, front_of, Place.anywhere}
use Rattle.ixdtf_reading.specs.reading.{Looks.{Read, ◌>>=◌, row_of}, Brackets.{Bracket, zoned, paired, bracket_at}}
use Rattle.ixdtf_reading.specs.reading.ExactZones.{is_exact, behind_flag, name_line, form_row, checked, bracket_by}
use Rattle.ixdtf_reading.proofs.{parts.{ExactZones.{exact_holds, exact_is}, Openings.Returned}, to_reading.FirstBracket.{bracket_takes, bracket_rows}}
use Rattle.ixdtf_reading.proofs.to_grammar.FirstBracket.{InBracket, IsBracket}

-- A first bracket. The first argument says whether its zone must be exact.
abbrev pub IsBracketBy : Bool → Text → Bracket → Type 0
IsBracketBy exact text (zoned note) = IsZoneBracket text note × MayStand exact text note
IsBracketBy exact text (paired pair) = IsBracket text (paired pair)

module _ {E : Type 0} (fault : Row → E) where
  pub bracket_by_takes : (exact : Bool) (front rest : Text) (bracket : Bracket) → IsBracketBy exact front bracket
      → Returned (bracket_by fault exact) front rest (Ok (bracket, rest))
  bracket_by_takes false front rest (zoned note) h = bracket_takes fault front rest (zoned note) h.0
  bracket_by_takes false front rest (paired pair) h = bracket_takes fault front rest (paired pair) h
  bracket_by_takes true front rest (zoned note) h =
      let read = bracket_takes fault front rest (zoned note) h.0 in
      (read.0, read.1, rw (read.2, exact_holds front read.0 rest note read.1 h.1) refl)
  bracket_by_takes true front rest (paired pair) h =
      let read = bracket_takes fault front rest (paired pair) h in (read.0, read.1, rw read.2 refl)

  pub bracket_by_rows : (exact : Bool) (name : LineName) (place : Place) (e : Fault) (before front rest : Text) → InBracket name before (front ++ rest)
      → front_of (line_of true name) front → Stops (line_of true name) place e rest
      → Returned (bracket_by fault exact) (before ++ front) rest (Err (fault (row_of name place e)))
  bracket_by_rows false name place e before front rest b f at = bracket_rows fault name place e before front rest b f at
  bracket_by_rows true name place e before front rest b f at =
      let row = bracket_rows fault name place e before front rest b f at in (row.0, row.1, rw row.2 refl)

  -- A zone that is not exact.
  inexact : (front rest : Text) (note : ZoneNote) → IsZoneBracket front note → ¬ (IsExactBracket front note)
      → Returned (bracket_by fault true) front rest (Err (fault (form_row note.zone rest)))
  inexact front rest note is none =
      let read = bracket_takes fault front rest (zoned note) is in
      let fails : IsFalse (is_exact note.zone (behind_flag note.critical (read.0 ++ rest))) =
      false_from_ne_true _ (λ test. none (exact_is front read.0 rest note read.1 is test)) in
      (read.0, read.1, rw (read.2, fails) refl)

  -- A name that is not exact. `dots` says whether one of its parts is `.` or `..`.
  inexact_name : (front rest : Text) (critical : Bool) (name : List ℕ) (dots : Bool) → has_dots name ≡ dots
      → IsZoneBracket front (record { critical = critical; zone = Name name })
      → ¬ (IsExactBracket front (record { critical = critical; zone = Name name }))
      → Returned (bracket_by fault true) front rest (Err (fault (row_of (of_bracket (name_line dots)) (anywhere rest) IanaChar)))
  inexact_name front rest critical name dots has is none =
      let returned : Returned (bracket_by fault true) front rest (Err (fault (row_of (of_bracket (name_line (has_dots name))) (anywhere rest) IanaChar))) =
      inexact front rest (record { critical = critical; zone = Name name }) is none in
      rw has at returned

  pub dots_form : (exact : Bool) → IsTrue exact → (place : Place) (e : Fault) (front rest : Text) → front_of (line_of true (of_bracket first_dots_form)) front
      → Stops (line_of true (of_bracket first_dots_form)) place e rest
      → Returned (bracket_by fault exact) front rest (Err (fault (row_of (of_bracket first_dots_form) place e)))
  dots_form false is place e front rest f at = absurd (both_ways false refl is)
  dots_form true is (anywhere left) e front rest f at =
      rw (at.0, at.1) (inexact_name front rest f.0 f.1 _ f.3 f.2.0 f.2.1)
  dots_form true is place e front rest f at = absurd at

  pub name_form : (exact : Bool) → IsTrue exact → (place : Place) (e : Fault) (front rest : Text) → front_of (line_of true (of_bracket first_name_form)) front
      → Stops (line_of true (of_bracket first_name_form)) place e rest
      → Returned (bracket_by fault exact) front rest (Err (fault (row_of (of_bracket first_name_form) place e)))
  name_form false is place e front rest f at = absurd (both_ways false refl is)
  name_form true is (anywhere left) e front rest f at =
      rw (at.0, at.1) (inexact_name front rest f.0 f.1 _ f.3 f.2.0 f.2.1)
  name_form true is place e front rest f at = absurd at

  pub offset_form : (exact : Bool) → IsTrue exact → (place : Place) (e : Fault) (front rest : Text) → front_of (line_of true (of_bracket first_offset_form)) front
      → Stops (line_of true (of_bracket first_offset_form)) place e rest
      → Returned (bracket_by fault exact) front rest (Err (fault (row_of (of_bracket first_offset_form) place e)))
  offset_form false is place e front rest f at = absurd (both_ways false refl is)
  offset_form true is (anywhere left) e front rest f at =
      rw (at.0, at.1) (inexact front rest (record { critical = f.0; zone = Offset f.1 }) f.2.0 f.2.1)
  offset_form true is place e front rest f at = absurd at
