-- An offset and a zone that the grammar derives from the same text are equal.
use Rattle.std.proofs.{Common.{◌≡◌, ℕ, IsTrue, List, [], ◌∷◌, inl, inr, refl, sym, ◌∙◌, true≢false}, lemmas.Bool.both_ways}
use Rattle.ixdtf_grammar.specs.{declared.records.{TimeRecord.TimeRecord, UtcOffsetRecord.{UtcOffsetRecord, TheVariants.MinutePrecision}}, Laws.OffsetsAgree}
use Rattle.ixdtf_grammar.specs.language.{Languages.{Derives.{as_shifted, as_identified}, Found.shifted}, Letters.{Text, sign, Letter.Plain}}
use Rattle.ixdtf_grammar.specs.language.{Offsets.{IsOffset, minutes_of}, Readers.Reader.parse_offset, Times.{TimeShape, ClockOf, SecondText, Clock as clocks}}
use Rattle.ixdtf_grammar.specs.{language.{Times.TimeShape.{seconds, fractions}, ZoneNames.IsZoneName}, table.Outcomes.Outcome.derived}
use Rattle.ixdtf_reading.proofs.{to_reading.ZonesAlone.{lead_no_sign, first_letter}, theorems.OneOutcome.same_outcome}
use Rattle.ixdtf_grammar.proofs.parts.Texts.{signed_text}

-- A name does not begin with a sign. So no text is an offset and a name.
no_name : (text : Text) (offset : UtcOffsetRecord) (name : List ℕ) → IsOffset text offset → ¬ (IsZoneName text name)
no_name text offset name h g =
    let lead = first_letter text g.0 in
    let same : Plain h.c ∷ h.body ≡ Plain lead.0 ∷ lead.1 = sym h.is ∙ lead.2 in
    let letters : lead.0 ≡ h.c = cc in
    both_ways _ (rw (← letters) (lead_no_sign lead.0 lead.3)) h.sign

-- An offset without seconds has no text of a second.
no_second : (text : Text) (time : TimeRecord) → ¬ (SecondText clocks.MinuteOffset text time)
no_second text time (inl h) = true≢false (sym h.may)
no_second text time (inr h) = true≢false (sym h.may)

-- So an offset without seconds is an offset.
minutes_alone : (c : ℕ) (shape : TimeShape) (body : Text) (time : TimeRecord) → IsTrue (sign c) → ClockOf clocks.MinuteOffset shape body time
    → IsOffset (Plain c ∷ body) (MinutePrecision (minutes_of c time))
minutes_alone c seconds body time signed clock = absurd (no_second body time clock)
minutes_alone c fractions body time signed clock = absurd (no_second clock.whole _ clock.second)
minutes_alone c shape body time signed clock = signed_text c body shape time refl signed clock

pub offsets_agree : OffsetsAgree
offsets_agree text offset zone (as_shifted d) (as_identified (inl (name, is_name, is))) = absurd (no_name text offset name d is_name)
offsets_agree text offset zone (as_shifted d) (as_identified (inr (minutes, h, is))) =
    let whole : IsOffset text (MinutePrecision minutes) = rw (h.is, h.value) (minutes_alone h.c h.shape h.body h.time h.sign h.clock) in
    let same : derived (shifted offset) [] ≡ derived (shifted (MinutePrecision minutes)) [] =
    same_outcome parse_offset text (derived (shifted offset) []) (derived (shifted (MinutePrecision minutes)) []) (as_shifted d) (as_shifted whole) in
    let found : shifted offset ≡ shifted (MinutePrecision minutes) = cc in
    (minutes, cc, is)
