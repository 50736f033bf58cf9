-- The readers of an offset, of a zone and of the name of a zone.
-- The grammar derives what they read, and each fault is that of a row that fits.
use Rattle.std.proofs.Common.{◌≡◌, ℕ, IsTrue, List, [], ◌∷◌, Option, Some, None, Ok, Err, refl, sym, ◌∙◌, inl, inr, arith, append-nil, false, true, Bool}
use Rattle.std.proofs.lemmas.Bool.{or_from, true≢false}
use Rattle.std.proofs.lemmas.Bool.Decides.{nat_tests}
use Rattle.ixdtf_grammar.specs.language.Times.{Clock as clocks, Clock, TimeShape}
use Rattle.ixdtf_grammar.specs.language.Letters.{Text, none, sign, slash, zone_lead, zone_char}
use Rattle.ixdtf_grammar.specs.language.Letters.Letter.{Plain}
use Rattle.ixdtf_grammar.specs.language.Offsets.{IsSigned, IsOffset, minutes_of}
use Rattle.ixdtf_grammar.specs.language.ZoneNames.{Zone, IsZone, IsZoneName}
use Rattle.ixdtf_grammar.specs.language.Readers.{Reader, has_brackets}
use Rattle.ixdtf_grammar.specs.language.Readers.Reader.{parse_offset, parse_identifier, parse_iana_identifier}
use Rattle.ixdtf_grammar.specs.declared.records.TimeRecord.{TimeRecord}
use Rattle.ixdtf_grammar.specs.table.LineNames.{LineName}
use Rattle.ixdtf_grammar.specs.table.LineNames.LineName.{of_clock, of_offset, of_zone}
use Rattle.ixdtf_grammar.specs.table.LineNames.OffsetLine.{offset_start}
use Rattle.ixdtf_grammar.specs.table.LineNames.ZoneLine.{identifier_start, zone_name_start, in_zone_name, after_zone_slash}
use Rattle.ixdtf_grammar.specs.table.Lines.{table}
use Rattle.ixdtf_grammar.specs.table.Before.{Before}
use Rattle.ixdtf_grammar.specs.table.Rows.{Row, Stops, Fits, front_of}
use Rattle.ixdtf_grammar.specs.table.Rows.Place.{other}
use Rattle.ixdtf_grammar.proofs.parts.Texts.{signed_text}
use Rattle.ixdtf_reading.specs.reading.Looks.{Read, row_of, letter_at}
use Rattle.ixdtf_reading.specs.reading.Times.{OpenTime}
use Rattle.ixdtf_reading.specs.reading.Zones.{name_alone_at, iana_identifier_at, signed_alone_at, offset_alone_at, offset_at, minute_offset_alone_at, as_zone}
use Rattle.ixdtf_reading.specs.reading.Zones.{identifier_at, name_line}
use Rattle.ixdtf_reading.proofs.parts.Looks.{lift, OnRead, then_read, read_weaker, read_if, FitsIn, read_letter, Peeked, peek_read, NotNext}
use Rattle.ixdtf_reading.proofs.to_grammar.ZoneNames.{NameFront, name_read, name_stops_here}
use Rattle.ixdtf_reading.proofs.to_grammar.Times.{TimeFront, clock_read, clock_peek_read}
use Rattle.ixdtf_reading.proofs.to_reading.ZonesAlone.{offset_record, zone_record}

-- As above, for the row after a name.
lift_name : (reader : Reader) (row : Row) (text : Text) → Before reader (of_zone in_zone_name) [] [] text → Before reader (of_zone after_zone_slash) [] [] text
    → FitsIn name_line (has_brackets reader) row text → Fits reader row [] text
lift_name reader row text inside slashed f = ([], text, refl, rw f.1 (at f.0), f.2)
  where
    at : (may_end : Bool) → Before reader (name_line may_end) [] [] text
    at true = inside
    at false = slashed

-- The row for the first code unit.
lift_start : (reader : Reader) (name : LineName) (row : Row) (text : Text) → row.name ≡ name → Before reader name [] [] text → front_of (table reader name) []
    → Stops (table reader name) row.place row.error text → Fits reader row [] text
lift_start reader name row text is stands shape at = ([], text, refl, rw is stands, ([], text, refl, rw is shape, rw is at))

module _ {E : Type 0} (fault : Row → E) where
  -- ---- a sign and a time

  module _ {O : Type 0} (clock : Clock) (record_of : ℕ → TimeShape → TimeRecord → O) where
    signed_alone_read : (c : ℕ) (body : Text) → IsTrue (sign c)
        → OnRead fault (signed_alone_at fault clock record_of c body) (λ found rest. (rest ≡ []) × IsSigned clock record_of (Plain c ∷ body) found)
        (λ row. FitsIn (of_clock clock) false row body)
    unfolding signed_alone_at
    signed_alone_read c body signed = then_read fault _ _ _ _ _ _ (clock_read fault false clock body)
        (λ x left g. then_read fault _ _ _ _ _ _ (clock_peek_read fault false clock body x left g refl)
        (λ next last k. at_next x left g next last k)
        (λ r k. k))
        (λ r g. g)
      where
        at_next : (x : OpenTime) (left : Text) → TimeFront clock body x left → (next : Option ℕ) (last : Text) → Peeked none left next last
            → (last ≡ []) × IsSigned clock record_of (Plain c ∷ body) (record_of c x.0 x.1)
        at_next x left g None last k = (k.1, signed_text c body x.0 x.1 refl signed (rw (g.1, k.0, append-nil) g.2))
        at_next x left g (Some d) last k = absurd (true≢false (sym k.1))

  -- ---- offsets

  pub offset_read : (text : Text) → OnRead fault (offset_at fault text) (λ offset rest. (rest ≡ []) × IsOffset text offset)
      (λ row. Fits parse_offset row [] text)
  unfolding offset_at
  offset_read text = then_read fault (letter_at fault (of_offset offset_start) text) _ _ _ _ _ (read_letter fault (of_offset offset_start) text tt)
      (λ c body h. rw h.0 (read_weaker fault (offset_alone_at fault c body) _ _ _ _ (signed_alone_read clocks.Offset offset_record c body h.1)
      (λ offset rest g. g)
      (λ r g. lift (of_clock clocks.Offset) parse_offset r (Plain c ∷ body) (Plain c ∷ []) body refl (λ l. ((c, refl, h.1), refl)) g)))
      (λ r h. lift_start parse_offset (of_offset offset_start) r text h.0 (refl, refl) refl h.1)

  -- ---- names

  -- Reading from the first code unit on.
  alone_read : (c : ℕ) (text more : Text) → text ≡ Plain c ∷ more → IsTrue (zone_lead c)
      → OnRead fault (name_alone_at fault text) (λ name rest. (rest ≡ []) × IsZoneName text name) (λ row. FitsIn name_line false row text)
  unfolding name_alone_at
  alone_read c text more is lead = then_read fault _ _ _ _ _ _ (name_read fault false c text more is lead)
      (λ name rest h. then_read fault _ _ _ _ _ _
      (peek_read _ fault rest (λ row. FitsIn name_line false row text)
      (λ d left next out. let apart : NotNext zone_char (Plain d ∷ left) × NotNext slash (Plain d ∷ left) = rw next at h.4 in
      (row_of _ (other rest) _, refl, name_stops_here fault false (other rest) _ text h.0 rest h.1 h.2 (d, left, next, or_from _ _ apart.0 apart.1, refl, refl)))
      (λ left next. absurd ((rw next at h.4).0)))
      (λ next left g. at_next name rest h next left g)
      (λ r g. g))
      (λ r h. h)
    where
      at_next : (name : List ℕ) (rest : Text) → NameFront text name rest → (next : Option ℕ) (left : Text) → Peeked none rest next left
          → (left ≡ []) × IsZoneName text name
      at_next name rest h None left g = let whole : text ≡ h.0 = h.1 ∙ rw g.0 (append-nil h.0) in (g.1, rw whole (h.2, h.3))
      at_next name rest h (Some d) left g = absurd (true≢false (sym g.1))

  pub iana_identifier_read : (text : Text)
      → OnRead fault (iana_identifier_at fault text) (λ name rest. (rest ≡ []) × IsZoneName text name) (λ row. Fits parse_iana_identifier row [] text)
  unfolding iana_identifier_at
  iana_identifier_read text = then_read fault (letter_at fault (of_zone zone_name_start) text) _ _ _ _ _ (read_letter fault (of_zone zone_name_start) text tt)
      (λ c more h. read_weaker fault (name_alone_at fault text) _ _ _ _ (alone_read c text more h.0 h.1)
      (λ name rest g. g)
      (λ r g. lift_name parse_iana_identifier r text (refl, refl) (refl, refl) g))
      (λ r h. lift_start parse_iana_identifier (of_zone zone_name_start) r text h.0 (refl, refl) refl h.1)

  -- ---- zones

  -- An offset that was read is a zone.
  offset_is_zone : (text : Text) (zone : Zone) → IsSigned clocks.MinuteOffset zone_record text zone → IsZone text zone
  offset_is_zone text zone h = inr (minutes_of h.c h.time, signed_text h.c h.body h.shape h.time h.is h.sign h.clock, h.value)

  -- A name that was read is a zone.
  zone_of_name : (text : Text) (stopped : Row → Type 0) (r : Read E (List ℕ)) → OnRead fault r (λ name rest. (rest ≡ []) × IsZoneName text name) stopped
      → OnRead fault (as_zone r) (λ zone rest. (rest ≡ []) × IsZone text zone) stopped
  zone_of_name text stopped (Ok x) h = (h.0, inl (x.0, h.1, refl))
  zone_of_name text stopped (Err e) h = h

  pub identifier_read : (text : Text) → OnRead fault (identifier_at fault text) (λ zone rest. (rest ≡ []) × IsZone text zone)
      (λ row. Fits parse_identifier row [] text)
  unfolding identifier_at
  identifier_read text = then_read fault (letter_at fault (of_zone identifier_start) text) _ _ _ _ _ (read_letter fault (of_zone identifier_start) text tt)
      (λ c more h. read_if fault (sign c) _ _ _ _
      (λ signed. rw h.0 (read_weaker fault (minute_offset_alone_at fault c more) _ _ _ _ (signed_alone_read clocks.MinuteOffset zone_record c more signed)
      (λ zone rest g. (g.0, offset_is_zone (Plain c ∷ more) zone g.1))
      (λ r g. lift (of_clock clocks.MinuteOffset) parse_identifier r (Plain c ∷ more) (Plain c ∷ []) more refl (λ l. ((c, refl, signed), refl)) g)))
      (λ no_sign. let lead : IsTrue (zone_lead c) = grind (arith, nat_tests, h.1, no_sign) in
      zone_of_name text _ (name_alone_at fault text) (read_weaker fault (name_alone_at fault text) _ _ _ _ (alone_read c text more h.0 lead)
      (λ name rest g. g)
      (λ r g. lift_name parse_identifier r text (refl, refl) (refl, refl) g))))
      (λ r h. lift_start parse_identifier (of_zone identifier_start) r text h.0 (refl, refl) refl h.1)
