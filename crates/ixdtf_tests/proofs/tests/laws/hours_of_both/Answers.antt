use Rattle.std.proofs.Common.{◌≡◌, ℕ, List, [], refl, sym, ◌∙◌, ap, map}
use Rattle.ixdtf_grammar.specs.declared.records.MinutePrecisionOffset.{MinutePrecisionOffset}
use Rattle.ixdtf_grammar.specs.declared.records.UtcOffsetRecord.{UtcOffsetRecord}
use Rattle.ixdtf.specs.Laws.{OffsetsAgree}
use Rattle.ixdtf.specs.language.Languages.{Derives}
use Rattle.ixdtf.specs.language.Languages.Found.{shifted, identified}
use Rattle.ixdtf.specs.language.Letters.{Text, byte_letter}
use Rattle.ixdtf.specs.language.OffsetRecords.{minute_part_of}
use Rattle.ixdtf.specs.language.Readers.Reader.{parse_offset, parse_identifier}
use Rattle.ixdtf.specs.language.ZoneNames.Zone.{Name, Offset}
use Rattle.ixdtf_tests.proofs.tests.laws.hours_of_both.Goals as goal

-- A text that is an offset is not a name.
no_name : OffsetsAgree → (text : Text) (offset : UtcOffsetRecord) (name : List ℕ) → Derives parse_offset text (shifted offset) []
    → Derives parse_identifier text (identified (Name name)) [] → ⊥
no_name agree text offset name d e = let clash : Name name ≡ Offset _ = (agree text offset (Name name) d e).2 in absurd cc

-- The hour of the offset is that of the zone.
one_hour : OffsetsAgree → (text : Text) (offset : UtcOffsetRecord) (minutes : MinutePrecisionOffset) → Derives parse_offset text (shifted offset) []
    → Derives parse_identifier text (identified (Offset minutes)) [] → (minute_part_of offset).hour ≡ minutes.hour
one_hour agree text offset minutes d e =
    let (m, is, same) = agree text offset (Offset minutes) d e in
    let one : minutes ≡ m = cc in
    ap (λ o. (minute_part_of o).hour) is ∙ ap (λ (m : MinutePrecisionOffset). m.hour) (sym one)

pub unreachable-requires : goal.unreachable-requires
unreachable-requires c =
    let offset = (c.in-Ok.ensures.reads.ok c.in-Ok.offset).0 refl in
    let zone = (c.in-Ok-parse_identifier.ensures.reads.ok (Name (map (λ unit. unit) c.in-Name.field-0.now))).0 (rw c.in-Name.is refl) in
    no_name c.offsets_agree.ensures (map byte_letter c.args.bytes.now) c.in-Ok.offset (map (λ unit. unit) c.in-Name.field-0.now)
    (rw (← c.from_utf8.ensures.rest) offset) (rw (← c.from_utf8-in-Ok.ensures.rest) zone)

pub returns-in-Offset : goal.returns-in-Offset
returns-in-Offset c =
    let offset = (c.in-Ok.ensures.reads.ok c.in-Ok.offset).0 refl in
    let zone = (c.in-Ok-parse_identifier.ensures.reads.ok (Offset c.in-Offset.minutes)).0 (rw c.in-Offset.is refl) in
    c.hour.ensures
    ∙ one_hour c.offsets_agree.ensures (map byte_letter c.args.bytes.now) c.in-Ok.offset c.in-Offset.minutes
    (rw (← c.from_utf8.ensures.rest) offset) (rw (← c.from_utf8-in-Ok.ensures.rest) zone)
