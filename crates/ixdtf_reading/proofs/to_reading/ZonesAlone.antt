-- The readers of an offset, of a zone and of the name of a zone.
-- They read what the grammar derives, and return each row that fits.
use Rattle.std.proofs.Common.{◌≡◌, ℕ, IsTrue, IsFalse, List, [], ◌∷◌, ◌++◌, Ok, Err, refl, sym, ap, ◌∙◌, inl, inr, arith, append_assoc, append-nil, false}
use Rattle.std.proofs.lemmas.Bool.{or_left, or_right}
use Rattle.std.proofs.lemmas.Bool.Decides.{nat_tests}
use Rattle.ixdtf_grammar.specs.language.Times.{Clock as clocks, Clock, TimeShape, writes_seconds}
use Rattle.ixdtf_grammar.specs.language.Letters.{Text, none, sign, zone_lead}
use Rattle.ixdtf_grammar.specs.language.Letters.Letter.{Plain}
use Rattle.ixdtf_grammar.specs.language.Offsets.{IsSigned, IsOffset, IsMinuteOffset, offset_of, minutes_of}
use Rattle.ixdtf_grammar.specs.language.ZoneNames.{Zone, ZoneName, IsZone, IsZoneName}
use Rattle.ixdtf_grammar.specs.language.ZoneNames.Zone.{Offset}
use Rattle.ixdtf_grammar.specs.language.Readers.Reader.{parse_offset, parse_identifier, parse_iana_identifier}
use Rattle.ixdtf_grammar.specs.language.Shapes.{nothing}
use Rattle.ixdtf_grammar.specs.declared.records.TimeRecord.{TimeRecord}
use Rattle.ixdtf_grammar.specs.declared.records.MinutePrecisionOffset.{MinutePrecisionOffset}
use Rattle.ixdtf_grammar.specs.declared.records.UtcOffsetRecord.{UtcOffsetRecord}
use Rattle.ixdtf_grammar.specs.table.Faults.Fault.{InvalidEnd}
use Rattle.ixdtf_grammar.specs.table.LineNames.LineName.{of_clock, of_offset, of_zone}
use Rattle.ixdtf_grammar.specs.table.LineNames.OffsetLine.{offset_start}
use Rattle.ixdtf_grammar.specs.table.LineNames.ZoneLine.{identifier_start, zone_name_start, in_zone_name, after_zone_slash}
use Rattle.ixdtf_grammar.specs.table.Lines.{always, zone_other}
use Rattle.ixdtf_grammar.specs.table.Rows.{Row}
use Rattle.ixdtf_grammar.proofs.parts.Texts.{signed_text}
use Rattle.ixdtf_reading.specs.reading.Looks.{Read, ◌>>=◌, row_of, peek_by}
use Rattle.ixdtf_reading.specs.reading.Times.{OpenTime, line_after, clock_at}
use Rattle.ixdtf_reading.specs.reading.Zones.{follow_look, name_alone_at, iana_identifier_at, signed_alone_at, offset_at, as_zone, identifier_at}
use Rattle.ixdtf_reading.proofs.parts.Looks.{RowsRead, goes, stops, peek_end, peek_stops, ReadsAllRows}
use Rattle.ixdtf_reading.proofs.to_reading.ZoneNames.{InNameOrBehind, name_takes, name_row, slash_row}
use Rattle.ixdtf_reading.proofs.to_reading.Times.{closed_at_end, stops_behind}
use Rattle.ixdtf_reading.proofs.to_reading.ClockRows.{Refuses, over_clock, clock_rows}

-- A code unit with which a name can begin is not a sign.
pub lead_no_sign : (c : ℕ) → IsTrue (zone_lead c) → IsFalse (sign c)
lead_no_sign c h = grind (arith, h, nat_tests)

-- The first code unit of a name is one with which a name can begin.
pub first_letter : (text : Text) → ZoneName text → (c : ℕ) × (more : Text) × (text ≡ Plain c ∷ more) × IsTrue (zone_lead c)
first_letter text h = (h.3.0, h.1, rw (h.2, h.3.1) refl, h.3.2)

-- The record of an offset.
abbrev pub offset_record : ℕ → TimeShape → TimeRecord → UtcOffsetRecord
offset_record c shape time = offset_of c (writes_seconds shape) time

-- The zone of an offset without seconds.
abbrev pub zone_record : ℕ → TimeShape → TimeRecord → Zone
zone_record c shape time = Offset (minutes_of c time)

module _ {E : Type 0} (fault : Row → E) where
  -- ---- a sign and a time

  module _ {O : Type 0} (clock : Clock) (record_of : ℕ → TimeShape → TimeRecord → O) where
    -- Reads what follows the time.
    abbrev signed_after : ℕ → OpenTime × Text → Read E O
    signed_after c time = peek_by (follow_look fault false clock time.0) time.1 >>= λ next. Ok (record_of c time.0.0 time.0.1, next.1)

    -- A reading function that reads a time after a sign.
    abbrev StartsWithSign : (Text → Read E O) → Type 0
    StartsWithSign read = (c : ℕ) → IsTrue (sign c) → (body : Text) → read (Plain c ∷ body) ≡ (clock_at fault clock body >>= signed_after c)

    signed_takes : (read : Text → Read E O) → StartsWithSign read → (text : Text) (found : O) → IsSigned clock record_of text found → read text ≡ Ok (found, [])
    signed_takes read lead text found h =
        rw (h.is, h.value) (ap (λ t. read (Plain h.c ∷ t)) (sym (append-nil h.body))
        ∙ over_clock fault false clock read (signed_after h.c) (Plain h.c ∷ []) (lead h.c h.sign) h.shape h.body h.time [] h.clock (closed_at_end clock h.shape)
        ∙ rw (peek_end (follow_look fault false clock (h.shape, h.time))) refl)

    -- The row after a complete time.
    signed_refuses : (c : ℕ) → Refuses fault false clock (signed_after c)
    signed_refuses c shape t place e rest at =
        rw (peek_stops fault (line_after clock shape) nothing none (always InvalidEnd) place e rest (stops_behind _ place e rest at)) refl

  -- ---- offsets

  -- After a sign, a time is read.
  offset_lead : StartsWithSign clocks.Offset offset_record (offset_at fault)
  unfolding offset_at signed_alone_at
  offset_lead c h body = rw (goes fault _ c body tt h) refl

  pub offset_takes : (text : Text) (offset : UtcOffsetRecord) → IsOffset text offset → offset_at fault text ≡ Ok (offset, [])
  offset_takes = signed_takes clocks.Offset offset_record _ offset_lead

  pub offset_rows : ReadsAllRows fault parse_offset (offset_at fault)
  unfolding offset_at
  offset_rows (of_offset offset_start) pairs place e prior front rest b f at = rw (b.0, f, stops fault (of_offset offset_start) place e rest tt at) refl
  offset_rows (of_clock clocks.Offset l) pairs place e prior front rest b f at =
      rw b.0.1 (clock_rows fault false clocks.Offset (offset_at fault) (signed_after clocks.Offset offset_record b.0.0) (Plain b.0.0 ∷ [])
      (offset_lead b.0.0 b.0.2) (signed_refuses clocks.Offset offset_record b.0.0) l place e front rest f at)
  offset_rows name pairs place e prior front rest b f at = absurd b.0

  -- ---- names

  alone_takes : (text : Text) (name : List ℕ) → IsZoneName text name → name_alone_at fault text ≡ Ok (name, [])
  unfolding name_alone_at
  alone_takes text name h = rw (← append-nil text, name_takes fault text name [] h.0 h.1 (tt, tt), peek_end _) refl

  -- The row after a name. The next lemma is for the row after a slash.
  alone_row : RowsRead fault false (name_alone_at fault) (of_zone in_zone_name)
  unfolding name_alone_at
  alone_row place e front rest f at = by_row (name_row fault false place e front rest f at)
    where
      by_row : InNameOrBehind fault false place e front rest → name_alone_at fault (front ++ rest) ≡ Err (fault (row_of (of_zone in_zone_name) place e))
      by_row (inl h) = rw h refl
      by_row (inr h) = rw (h.1, peek_stops fault (of_zone in_zone_name) nothing none (zone_other false) place e rest h.2) refl

  alone_slash_row : RowsRead fault false (name_alone_at fault) (of_zone after_zone_slash)
  unfolding name_alone_at
  alone_slash_row place e front rest f at = rw (slash_row fault false place e front rest f at) refl

  -- A name is read from its first code unit on.
  iana_lead : (text rest : Text) → ZoneName text → iana_identifier_at fault (text ++ rest) ≡ name_alone_at fault (text ++ rest)
  unfolding iana_identifier_at
  iana_lead text rest h = let first = first_letter text h in rw first.2 (rw (goes fault _ first.0 _ tt first.3) refl)

  pub iana_identifier_takes : (text : Text) (name : List ℕ) → IsZoneName text name → iana_identifier_at fault text ≡ Ok (name, [])
  iana_identifier_takes text name h =
      ap (iana_identifier_at fault) (sym (append-nil text)) ∙ iana_lead text [] h.0 ∙ ap (name_alone_at fault) (append-nil text) ∙ alone_takes text name h

  pub iana_identifier_rows : ReadsAllRows fault parse_iana_identifier (iana_identifier_at fault)
  unfolding iana_identifier_at
  iana_identifier_rows (of_zone zone_name_start) pairs place e prior front rest b f at =
      rw (b.0, f, stops fault (of_zone zone_name_start) place e rest tt at) refl
  iana_identifier_rows (of_zone in_zone_name) pairs place e prior front rest b f at = rw b.0 (iana_lead front rest f ∙ alone_row place e front rest f at)
  iana_identifier_rows (of_zone after_zone_slash) pairs place e prior front rest b f at =
      let name : iana_identifier_at fault (front ++ rest) ≡ name_alone_at fault (front ++ rest) = rw (f.2, append_assoc) (iana_lead f.0 (f.1 ++ rest) f.3) in
      rw b.0 (name ∙ alone_slash_row place e front rest f at)
  iana_identifier_rows name pairs place e prior front rest b f at = absurd b.0

  -- ---- zones

  -- After a sign, a time is read. If the first code unit is one with which a name can begin, a name is read.
  zone_sign_lead : StartsWithSign clocks.MinuteOffset zone_record (identifier_at fault)
  unfolding identifier_at signed_alone_at
  zone_sign_lead c h body = rw (goes fault _ c body tt (or_right _ _ h), h) refl

  zone_name_lead : (text rest : Text) → ZoneName text → identifier_at fault (text ++ rest) ≡ as_zone (name_alone_at fault (text ++ rest))
  unfolding identifier_at
  zone_name_lead text rest h = let first = first_letter text h in
      rw first.2 (rw (goes fault _ first.0 _ tt (or_left _ _ first.3), lead_no_sign first.0 first.3) refl)

  -- The zone of an offset.
  zone_of_offset : (text : Text) (zone : Zone) (offset : MinutePrecisionOffset) → IsMinuteOffset text offset → zone ≡ Offset offset
      → IsSigned clocks.MinuteOffset zone_record text zone
  zone_of_offset text zone offset h is = rw (is, h.value) (signed_text h.c h.body h.shape h.time h.is h.sign h.clock)

  pub identifier_takes : (text : Text) (zone : Zone) → IsZone text zone → identifier_at fault text ≡ Ok (zone, [])
  identifier_takes text zone (inl h) = rw h.2
      (ap (identifier_at fault) (sym (append-nil text)) ∙ zone_name_lead text [] h.1.0 ∙ ap (λ t. as_zone (name_alone_at fault t)) (append-nil text)
      ∙ rw (alone_takes text h.0 h.1) refl)
  identifier_takes text zone (inr (offset, h, is)) =
      signed_takes clocks.MinuteOffset zone_record (identifier_at fault) zone_sign_lead text zone (zone_of_offset text zone offset h is)

  pub identifier_rows : ReadsAllRows fault parse_identifier (identifier_at fault)
  unfolding identifier_at
  identifier_rows (of_zone identifier_start) pairs place e prior front rest b f at = rw (b.0, f, stops fault (of_zone identifier_start) place e rest tt at) refl
  identifier_rows (of_zone in_zone_name) pairs place e prior front rest b f at =
      rw b.0 (zone_name_lead front rest f ∙ rw (alone_row place e front rest f at) refl)
  identifier_rows (of_zone after_zone_slash) pairs place e prior front rest b f at =
      let name : identifier_at fault (front ++ rest) ≡ as_zone (name_alone_at fault (front ++ rest)) =
      rw (f.2, append_assoc) (zone_name_lead f.0 (f.1 ++ rest) f.3) in
      rw b.0 (name ∙ rw (alone_slash_row place e front rest f at) refl)
  identifier_rows (of_clock clocks.MinuteOffset l) pairs place e prior front rest b f at =
      rw b.0.1 (clock_rows fault false clocks.MinuteOffset (identifier_at fault) (signed_after clocks.MinuteOffset zone_record b.0.0) (Plain b.0.0 ∷ [])
      (zone_sign_lead b.0.0 b.0.2) (signed_refuses clocks.MinuteOffset zone_record b.0.0) l place e front rest f at)
  identifier_rows name pairs place e prior front rest b f at = absurd b.0
