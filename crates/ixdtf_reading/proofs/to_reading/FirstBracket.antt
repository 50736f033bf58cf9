-- A first bracket is read. Each row of the table lines of a first bracket is returned.
use Rattle.std.proofs.{lemmas.Bool.{or_left, or_right, Decides.nat_tests}, Common.{◌≡◌, ℕ, Bool, true, IsTrue, IsFalse, [], ◌∷◌, ◌++◌, Ok, Err, refl, ap, ◌∙◌}}
use Rattle.std.proofs.Common.{inl, inr, arith, append_assoc}
use Rattle.ixdtf_grammar.specs.{declared.records.TimeRecord.TimeRecord, language.{Times.{Clock, TimeShape, TimeShape.{seconds, fractions}}, Letters.Text}}
use Rattle.ixdtf_grammar.specs.language.{Letters.{◌or◌, sign, closing, exclamation, zone_lead, key_lead, Letter.Plain}, Shapes.nothing, Offsets.minutes_of}
use Rattle.ixdtf_grammar.specs.language.{ZoneNames.{Zone, IsZone, Zone.Offset}, Brackets.{Opens, zone_only_lead, ReadsAsName, ReadsAsPair}}
use Rattle.ixdtf_grammar.specs.table.{Faults.{Fault, Fault.AnnotationClose}, LineNames.{ClockLine, LineName, LineName.{of_clock, of_zone, of_bracket, of_pair}}}
use Rattle.ixdtf_grammar.specs.table.LineNames.{ZoneLine.{in_zone_name, after_zone_slash}, BracketLine.{first_bracket_start, first_critical_start}}
use Rattle.ixdtf_grammar.specs.table.{LineNames.{BracketLine.first_bracket_scan, PairLine.{key_start, critical_key_start}}, Lines.{line_of, always, zone_other}}
use Rattle.ixdtf_grammar.specs.table.Rows.{Row, Place, Stops, front_of}
use Rattle.ixdtf_reading.specs.reading.{Looks.{Read, ◌>>=◌, row_of, look_at, next_by}, Times.{OpenTime, line_after, clock_at}, Pairs.pair_at, Zones.follow_look}
use Rattle.ixdtf_reading.specs.reading.{Zones.as_zone, Brackets.{Bracket, zoned, paired, sight_at, name_in_bracket_at, name_or_pair_at, offset_in_bracket_at}}
use Rattle.ixdtf_reading.specs.reading.Brackets.{noted, as_pair, inside_at, critical_bracket_at, bracket_at}
use Rattle.ixdtf_reading.proofs.parts.{Looks.{RowsRead, letter_stops}, Openings.{Returned, opened, start_row, critical_row}, LookAhead.over_scanned}
use Rattle.ixdtf_reading.proofs.{parts.LookAhead.{sight_stops, sight_pair, sight_name, name_reads, key_reads}, to_reading.Times.{Closed, stops_behind}}
use Rattle.ixdtf_reading.proofs.to_reading.{ClockRows.{over_clock, clock_rows}, ZoneNames.{InNameOrBehind, name_takes, name_row, slash_row}, Pair.pair_text}
use Rattle.ixdtf_reading.proofs.{to_reading.Pair.{pair_takes, pair_rows}, to_grammar.FirstBracket.{InBracket, IsBracket}}

-- ---- code units

name_no_sign : (c : ℕ) → IsTrue (zone_lead c) → IsFalse (sign c)
name_no_sign c h = grind (arith, nat_tests)

key_no_sign : (c : ℕ) → IsTrue (key_lead c) → IsFalse (sign c)
key_no_sign c h = grind (arith, nat_tests)

key_starts : (c : ℕ) → IsTrue (key_lead c) → IsTrue ((zone_lead or sign) c)
key_starts c h = grind (arith, nat_tests)

-- A code unit with which a name can begin, but not a key.
only_lead : (c : ℕ) → IsTrue (zone_only_lead c) → IsTrue (zone_lead c) × IsFalse (key_lead c)
only_lead c h = (grind (arith, nat_tests), grind (arith, nat_tests))

-- A time of each shape ends before `]`.
closing_closes : (shape : TimeShape) (rest : Text) → Closed Clock.MinuteOffset shape (Plain 93 ∷ rest)
closing_closes seconds rest = refl
closing_closes fractions rest = refl
closing_closes minutes rest = (refl, refl)

module _ {E : Type 0} (fault : Row → E) where
  -- ---- names

  -- The result of reading the content of a bracket by its first code unit.
  abbrev ReadsInside : Bool → Text → Read E Bracket → Type 0
  ReadsInside critical text given =
      (c : ℕ) × (more : Text) × (text ≡ Plain c ∷ more) × IsTrue ((zone_lead or sign) c) × (inside_at fault critical c text ≡ given)

  -- If the bracket reads as a name, it is read as a name.
  as_name : (critical : Bool) (text : Text) (given : Read E Bracket) → ReadsAsName text
      → noted critical (as_zone (name_in_bracket_at fault text)) ≡ given → ReadsInside critical text given
  unfolding inside_at name_or_pair_at
  as_name critical text given (inl h) is =
      let lead = only_lead h.3.0 h.3.2 in
      (h.3.0, h.1, h.2 ∙ rw h.3.1, or_left _ _ lead.0, rw (name_no_sign h.3.0 lead.0, lead.1) is)
  as_name critical text given (inr h) is =
      (h.3.0, h.1, h.2 ∙ rw h.3.1, key_starts h.3.0 h.3.2, rw (key_no_sign h.3.0 h.3.2, h.3.2, sight_name fault text h) is)

  -- If the bracket reads as an annotation, it is read as an annotation.
  as_key : (critical : Bool) (text : Text) (given : Read E Bracket) → ReadsAsPair text → as_pair (pair_at fault critical text) ≡ given
      → ReadsInside critical text given
  unfolding inside_at name_or_pair_at
  as_key critical text given h is =
      (h.3.0, h.1, h.2 ∙ rw h.3.1, key_starts h.3.0 h.3.2, rw (key_no_sign h.3.0 h.3.2, h.3.2, sight_pair fault text h) is)

  -- The row of the table line of a name.
  in_name_row : RowsRead fault true (name_in_bracket_at fault) (of_zone in_zone_name)
  unfolding name_in_bracket_at
  in_name_row place e front rest f at = by_row (name_row fault true place e front rest f at)
    where
      by_row : InNameOrBehind fault true place e front rest → name_in_bracket_at fault (front ++ rest) ≡ Err (fault (row_of (of_zone in_zone_name) place e))
      by_row (inl h) = rw h
      by_row (inr h) = rw (h.1, letter_stops fault (of_zone in_zone_name) nothing closing AnnotationClose (zone_other true) place e rest h.2)

  -- ---- offsets

  -- Reads what follows a time.
  abbrev after_offset : ℕ → OpenTime × Text → Read E Zone
  after_offset c time = next_by (follow_look fault true Clock.MinuteOffset time.0) time.1 >>= λ next. Ok (Offset (minutes_of c time.0.1), next.1)

  -- The offset is read like a time.
  offset_lead : (c : ℕ) (body : Text) → offset_in_bracket_at fault c ([] ++ body) ≡ (clock_at fault Clock.MinuteOffset body >>= after_offset c)
  unfolding offset_in_bracket_at
  offset_lead c body = refl

  offset_closed : (c : ℕ) (shape : TimeShape) (time : TimeRecord) (rest : Text)
      → after_offset c ((shape, time), Plain 93 ∷ rest) ≡ Ok (Offset (minutes_of c time), rest)
  unfolding next_by look_at
  offset_closed c shape time rest = refl

  -- Every row of an offset, after its sign.
  offset_row : (c : ℕ) (l : ClockLine) → RowsRead fault true (offset_in_bracket_at fault c) (of_clock Clock.MinuteOffset l)
  offset_row c =
      clock_rows fault true Clock.MinuteOffset (offset_in_bracket_at fault c) (after_offset c) [] (offset_lead c)
      (λ shape t place e rest after. rw (letter_stops fault (line_after Clock.MinuteOffset shape) nothing closing AnnotationClose (always AnnotationClose)
      place e rest (stops_behind _ place e rest after)))

  -- After a sign, an offset is read.
  at_sign : (critical : Bool) (c : ℕ) (more : Text) → IsTrue (sign c)
      → inside_at fault critical c (Plain c ∷ more) ≡ noted critical (offset_in_bracket_at fault c more)
  unfolding inside_at
  at_sign critical c more h = rw h

  -- ---- zones

  -- A zone and `]`, from the first code unit of the zone on.
  zone_takes : (critical : Bool) (inside : Text) (zone : Zone) (rest : Text) → IsZone inside zone
      → ReadsInside critical (inside ++ (Plain 93 ∷ rest)) (Ok (zoned (record { critical = critical; zone = zone }), rest))
  unfolding name_in_bracket_at next_by look_at
  zone_takes critical inside zone rest (inl h) =
      as_name critical (inside ++ (Plain 93 ∷ rest)) _ (name_reads inside rest h.1.0)
      (rw (name_takes fault inside h.0 (Plain 93 ∷ rest) h.1.0 h.1.1 (refl, refl), h.2) refl)
  zone_takes critical inside zone rest (inr h) =
      let o = h.1 in (
        o.c,
        o.body ++ (Plain 93 ∷ rest),
        rw o.is,
        or_right _ _ o.sign,
        rw (o.is, h.2, o.value) (at_sign critical o.c (o.body ++ (Plain 93 ∷ rest)) o.sign
            ∙ ap (noted critical) (over_clock fault true Clock.MinuteOffset (offset_in_bracket_at fault o.c) (after_offset o.c) []
            (offset_lead o.c) o.shape o.body o.time (Plain 93 ∷ rest) o.clock (closing_closes o.shape rest)
            ∙ offset_closed o.c o.shape o.time rest)),
      )

  -- ---- complete brackets

  may_start : (c : ℕ) → IsTrue ((zone_lead or sign) c)
      → IsTrue ((zone_lead or sign or exclamation) c) × IsTrue ((zone_lead or sign) c) × IsFalse (exclamation c)
  may_start c h = (grind (arith, nat_tests), h, grind (arith, nat_tests))

  -- The result of reading the content is the result of reading the bracket.
  is_opened : (start : Text) (critical : Bool) → Opens start critical → (body rest : Text) (given : Read E Bracket)
      → ReadsInside critical (body ++ rest) given → Returned (bracket_at fault) (start ++ body) rest given
  unfolding bracket_at critical_bracket_at
  is_opened = opened fault (of_bracket first_bracket_start) (of_bracket first_critical_start) (zone_lead or sign) tt tt may_start refl (inside_at fault)

  -- A complete bracket is read.
  pub bracket_takes : (front rest : Text) (bracket : Bracket) → IsBracket front bracket → Returned (bracket_at fault) front rest (Ok (bracket, rest))
  bracket_takes front rest (zoned note) h =
      rw h.is (is_opened h.start note.critical h.opens (h.inside ++ (Plain 93 ∷ [])) rest _
      (rw append_assoc (zone_takes note.critical h.inside note.zone rest h.zone)))
  bracket_takes front rest (paired pair) h =
      rw h.is (is_opened h.start pair.critical h.opens _ rest _
      (as_key pair.critical _ _ (rw append_assoc (key_reads h.keys ((h.values ++ (Plain 93 ∷ [])) ++ rest) h.is_key))
      (ap as_pair (pair_takes fault _ rest pair (pair_text h)))))

  -- ---- each row is returned

  -- A fault of looking ahead is returned, if a key can begin here.
  scan_stops : (critical : Bool) (c : ℕ) (text : Text) (e : E) → IsTrue (key_lead c) → sight_at fault text ≡ Err e → inside_at fault critical c text ≡ Err e
  unfolding inside_at name_or_pair_at
  scan_stops critical c text e h is = rw (key_no_sign c h, h, is)

  -- Each row inside a first bracket is returned.
  pub bracket_rows : (name : LineName) (place : Place) (e : Fault) (before front rest : Text) → InBracket name before (front ++ rest)
      → front_of (line_of true name) front → Stops (line_of true name) place e rest
      → Returned (bracket_at fault) (before ++ front) rest (Err (fault (row_of name place e)))
  unfolding bracket_at critical_bracket_at name_in_bracket_at
  bracket_rows (of_clock Clock.MinuteOffset l) place e start front rest b f at =
      let c = b.4.0 in
      rw (b.2, b.4.1, append_assoc) (is_opened b.0 b.3.0 b.3.1 (Plain c ∷ front) rest _
      (c, front ++ rest, refl, or_right _ _ b.4.2, at_sign b.3.0 c (front ++ rest) b.4.2 ∙ ap (noted b.3.0) (offset_row c l place e front rest f at)))
  bracket_rows (of_zone in_zone_name) place e start front rest b f at =
      is_opened start b.0.0 b.0.1 front rest _ (as_name b.0.0 (front ++ rest) _ b.1 (rw (in_name_row place e front rest f at) refl))
  bracket_rows (of_zone after_zone_slash) place e start front rest b f at =
      is_opened start b.0.0 b.0.1 front rest _ (as_name b.0.0 (front ++ rest) _ b.1 (rw (slash_row fault true place e front rest f at) refl))
  bracket_rows (of_bracket first_bracket_start) place e start front rest b f at =
      rw b (start_row fault (of_bracket first_bracket_start) (of_bracket first_critical_start) (zone_lead or sign) tt tt may_start refl (inside_at fault)
      place e front rest f at)
  bracket_rows (of_bracket first_critical_start) place e start front rest b f at =
      rw b (critical_row fault (of_bracket first_bracket_start) (of_bracket first_critical_start) (zone_lead or sign) tt tt may_start refl (inside_at fault)
      place e front rest f at)
  bracket_rows (of_bracket first_bracket_scan) place e start front rest b f at =
      let stopped = scan_stops b.0 f.3.0 (front ++ rest) _ f.3.2 (over_scanned fault front rest f ∙ sight_stops fault place e rest at) in
      is_opened start b.0 b.1 front rest _ (f.3.0, f.1 ++ rest, rw (f.2, f.3.1), key_starts f.3.0 f.3.2, stopped)
  bracket_rows (of_pair key_start) place e start front rest b f at = absurd b
  bracket_rows (of_pair critical_key_start) place e start front rest b f at = absurd b
  bracket_rows (of_pair l) place e start front rest b f at =
      is_opened start b.0.0 b.0.1 front rest _ (as_key b.0.0 (front ++ rest) _ b.1 (rw (pair_rows fault b.0.0 l place e front rest tt f at) refl))
  bracket_rows name place e start front rest b f at = absurd b
