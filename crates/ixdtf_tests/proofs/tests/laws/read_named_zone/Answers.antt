use Rattle.std.proofs.Common.{refl, map}
use Rattle.ixdtf.specs.language.Letters.{byte_letter}
use Rattle.ixdtf.specs.language.ZoneNames.Zone.{Name}
use Rattle.ixdtf_tests.proofs.tests.laws.read_named_zone.Goals as goal

pub unreachable-requires : goal.unreachable-requires
unreachable-requires c =
    let name = map (λ unit. unit) c.in-Ok._name.now in
    let named = (c.in-Ok.ensures.reads.ok name).0 refl in
    let (whole, derived) = c.every_name_is_an_identifier.ensures (map byte_letter c.args.bytes.now) name (rw (← c.from_utf8.ensures.rest) named) in
    let same = (c.in-Err-parse_identifier.ensures.reads.ok (Name name)).1 (rw c.from_utf8-in-Ok.ensures.rest derived) in
    cc
