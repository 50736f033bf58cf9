-- The end of a canonical text, which can have names.
use Rattle.std.specs.Prelude.{[]}
use Rattle.ixdtf.specs.language.Letters.{Text}
use Rattle.ixdtf_print.specs.declared.text.Tail.{Tail, TheVariants.{Nothing, Zone, Brackets}}
use Rattle.ixdtf_print.specs.{Canonical.{zone_text, brackets_text}, Printable.record_of, Zones.zone_in}

-- The text is empty, a zone without brackets, or the brackets of a record.
abbrev pub tail_text : Tail → Text
tail_text Nothing = []
tail_text (Zone zone) = zone_text (zone_in zone.now)
tail_text (Brackets parsed) = brackets_text (record_of parsed.now)
