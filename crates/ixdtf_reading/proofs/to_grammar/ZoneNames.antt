-- Reading the name of a zone returns a name that the next code unit does not continue, or the fault of a row that fits.
use Rattle.std.proofs.Common.{◌≡◌, ℕ, Bool, true, false, IsTrue, IsFalse, List, [], ◌∷◌, ◌++◌, map, Ok, Err, refl, sym, ◌∙◌, inl, inr}
use Rattle.std.proofs.{Common.{append_assoc, append-nil, ◌&&◌}, lemmas.Bool.{and_parts, true≢false}}
use Rattle.ixdtf_grammar.specs.language.Letters.{Text, zone_lead, zone_char, slash, Letter.{Plain, Bad}}
use Rattle.ixdtf_grammar.specs.{language.{Shapes.{Shape, one, ◌then◌, Joined, many}, ZoneNames.{NameItem, ZoneName}}, table.Faults.Fault}
use Rattle.ixdtf_grammar.specs.table.{Faults.Fault.{NonAsciiCodePoint, IanaCharPostSeparator}, LineNames.{LineName.of_zone}}
use Rattle.ixdtf_grammar.specs.table.{LineNames.ZoneLine.{in_zone_name, after_zone_slash}, Lines.{line_of}}
use Rattle.ixdtf_grammar.specs.table.{Rows.{Row, Place, Stops, Place.{end, other, bad}}}
use Rattle.ixdtf_reading.specs.reading.{Looks.{Read, row_of}, Zones.{with_letter, name_stops, name_run}}
use Rattle.ixdtf_reading.proofs.{parts.Looks.{OnRead, FitsIn, read_if, onto}, to_reading.ZoneNames.{NameEnds, lead_char}}
use Rattle.std.proofs.Common.{arith}
use Rattle.ixdtf_reading.specs.reading.Zones.{name_line}

-- What is true if reading a name returned this result.
abbrev pub NameFront : Text → List ℕ → Text → Type 0
NameFront text name rest = (front : Text) × (text ≡ front ++ rest) × ZoneName front × (front ≡ map Plain name) × NameEnds rest

-- ---- names that grow

joined_more : (parts : List Text) (text part : Text) → Joined NameItem parts text → NameItem part → many NameItem (text ++ part)
joined_more [] text part h item = (part ∷ [], ([], rw (h, append-nil), item, refl))
joined_more (first ∷ parts) text part h item =
    let more = joined_more parts h.0 part h.3 item in (first ∷ more.0, (h.0 ++ part, rw (h.1, append_assoc), h.2, more.1))

longer : (front part : Text) → ZoneName front → NameItem part → ZoneName (front ++ part)
longer front part h item = (h.0, h.1 ++ part, rw (h.2, append_assoc), h.3, joined_more h.4.0 h.1 part h.4.1 item)

-- If `b && true` is false, `b` is false.
by_slash : (b : Bool) → IsFalse (b && true) → IsFalse b
by_slash b h = grind (arith, h)

-- A name if it can end here, and otherwise a name and a slash.
abbrev Begun : Bool → Shape
Begun true = ZoneName
Begun false = ZoneName then one slash

with_char : (may_end : Bool) (front : Text) (c : ℕ) → Begun may_end front → IsTrue (zone_char c) → ZoneName (front ++ (Plain c ∷ []))
with_char true front c h is = longer front (Plain c ∷ []) h (inl (c, refl, is))
with_char false front c h is = rw (h.2, append_assoc) (longer h.0 (h.1 ++ (Plain c ∷ [])) h.3 (inr (h.1, Plain c ∷ [], refl, h.4, (c, refl, is))))

-- What is true if reading the rest of a name after a prefix returned this result.
abbrev More : Text → Text → List ℕ → Text → Type 0
More front text name rest = (part : Text) × (text ≡ part ++ rest) × ZoneName (front ++ part) × (part ≡ map Plain name) × NameEnds rest

module _ {E : Type 0} (fault : Row → E) where
  letter_read : (c : ℕ) (r : Read E (List ℕ)) (front text : Text) (stopped : Row → Type 0) → OnRead fault r (More (front ++ (Plain c ∷ [])) text) stopped
      → OnRead fault (with_letter c r) (More front (Plain c ∷ text)) stopped
  letter_read c (Ok x) front text stopped h = (Plain c ∷ h.0, onto c h.1, rw append_assoc at h.2, onto c h.3, h.4)
  letter_read c (Err e) front text stopped h = h

  module _ (brackets : Bool) where
    -- The row after a name.
    pub name_stops_here : (place : Place) (e : Fault) (text front rest : Text) → text ≡ front ++ rest → ZoneName front
        → Stops (line_of brackets (of_zone in_zone_name)) place e rest → FitsIn name_line brackets (row_of (of_zone in_zone_name) place e) text
    name_stops_here place e text front rest is name at = (true, refl, (front, rest, is, name, at))

    -- What is true for the result of reading the rest of a name after a prefix.
    abbrev ReadsMore : Text → Text → Text → Read E (List ℕ) → Type 0
    ReadsMore whole front text r = OnRead fault r (More front text) (λ row. FitsIn name_line brackets row whole)

    end_read : (may_end : Bool) (whole front : Text) → whole ≡ front ++ [] → Begun may_end front → ReadsMore whole front [] (name_run fault may_end [])
    unfolding name_run
    end_read true whole front is h = ([], refl, rw append-nil h, refl, (tt, tt))
    end_read false whole front is h =
        (row_of (of_zone after_zone_slash) (end []) IanaCharPostSeparator, refl, (false, refl, (front, [], is, h, (refl, refl, refl))))

    bad_read : (may_end : Bool) (whole front rest : Text) → whole ≡ front ++ (Bad ∷ rest) → Begun may_end front
        → ReadsMore whole front (Bad ∷ rest) (name_run fault may_end (Bad ∷ rest))
    unfolding name_run
    bad_read true whole front rest is h =
        (row_of (of_zone in_zone_name) (bad (Bad ∷ rest)) NonAsciiCodePoint, refl, (true, refl, (front, Bad ∷ rest, is, h, (rest, refl, refl, refl))))
    bad_read false whole front rest is h =
        (row_of (of_zone after_zone_slash) (bad (Bad ∷ rest)) NonAsciiCodePoint, refl, (false, refl, (front, Bad ∷ rest, is, h, (rest, refl, refl, refl))))

    -- If the name cannot end here, a slash is like any other code unit.
    out_read : (may_end : Bool) (c : ℕ) (whole front rest : Text) → whole ≡ front ++ (Plain c ∷ rest) → Begun may_end front → IsFalse (zone_char c)
        → IsFalse (slash c && may_end) → ReadsMore whole front (Plain c ∷ rest)
        (name_stops (fault (row_of (of_zone after_zone_slash) (other (Plain c ∷ rest)) IanaCharPostSeparator)) may_end (Plain c ∷ rest))
    out_read true c whole front rest is h no_char no_slash = ([], refl, rw append-nil h, refl, (no_char, by_slash (slash c) no_slash))
    out_read false c whole front rest is h no_char no_slash = (
      row_of (of_zone after_zone_slash) (other (Plain c ∷ rest)) IanaCharPostSeparator,
      refl,
      (false, refl, (front, Plain c ∷ rest, is, h, (c, rest, refl, no_char, refl, refl))),
    )

    slash_may : (may_end : Bool) (front : Text) (c : ℕ) → Begun may_end front → IsTrue (slash c && may_end) → Begun false (front ++ (Plain c ∷ []))
    slash_may true front c h is = (front, Plain c ∷ [], refl, h, (c, refl, (and_parts _ _ is).0))
    slash_may false front c h is = absurd (true≢false (sym (and_parts _ _ is).1))

    run_read : (text : Text) (may_end : Bool) (whole front : Text) → whole ≡ front ++ text → Begun may_end front
        → ReadsMore whole front text (name_run fault may_end text)
    unfolding name_run
    run_read [] may_end whole front is h = end_read may_end whole front is h
    run_read (Bad ∷ rest) may_end whole front is h = bad_read may_end whole front rest is h
    run_read (Plain c ∷ rest) may_end whole front is h =
        let next : whole ≡ (front ++ (Plain c ∷ [])) ++ rest = is ∙ simp append_assoc in
        read_if fault (zone_char c) _ _ _ _
        (λ char. letter_read c (name_run fault true rest) front rest _
        (run_read rest true whole (front ++ (Plain c ∷ [])) next (with_char may_end front c h char)))
        (λ no_char. read_if fault (slash c && may_end) _ _ _ _
        (λ slashed. letter_read c (name_run fault false rest) front rest _
        (run_read rest false whole (front ++ (Plain c ∷ [])) next (slash_may may_end front c h slashed)))
        (out_read may_end c whole front rest is h no_char))

    -- Reading from the first code unit on.
    pub name_read : (c : ℕ) (text more : Text) → text ≡ Plain c ∷ more → IsTrue (zone_lead c)
        → OnRead fault (name_run fault true text) (NameFront text) (λ row. FitsIn name_line brackets row text)
    unfolding name_run
    name_read c text more is h =
        rw is (rw (lead_char c h) (letter_done (name_run fault true more)
        (run_read more true (Plain c ∷ more) (Plain c ∷ []) refl (Plain c ∷ [], [], refl, (c, refl, h), ([], refl)))))
      where
        letter_done : (r : Read E (List ℕ)) → ReadsMore (Plain c ∷ more) (Plain c ∷ []) more r
            → OnRead fault (with_letter c r) (NameFront (Plain c ∷ more)) (λ row. FitsIn name_line brackets row (Plain c ∷ more))
        letter_done (Ok x) g = (Plain c ∷ g.0, onto c g.1, g.2, onto c g.3, g.4)
        letter_done (Err e) g = g
