use Rattle.ixdtf_print.proofs.wide_names.put_zone_offset.Goals as goal
use Rattle.std.proofs.Common.{ℕ, map, ap, ◌∙◌, sym}
use Rattle.ixdtf.specs.language.Letters.{Letter, Letter.Plain}
use Rattle.ixdtf_print.proofs.code.{WideUnits.counted_spelled, CanonicalLengths.minute_offset_long}

pub put_wide-requires : goal.put_wide-requires
put_wide-requires c =
    let spell : ℕ → Letter = λ n. Plain n in
    rw (ap (map spell) c.front_of.ensures ∙ counted_spelled _ _ _ _ _ c.put_minute_offset.ensures (sym (minute_offset_long c.args.offset))) c.requires

pub returns : goal.returns
returns c =
    let spell : ℕ → Letter = λ n. Plain n in
    rw (ap (map spell) c.front_of.ensures ∙ counted_spelled _ _ _ _ _ c.put_minute_offset.ensures (sym (minute_offset_long c.args.offset))) at c.put_wide.ensures
