use Rattle.ixdtf_print.proofs.text.put_core_utf16.Goals as goal
use Rattle.std.proofs.Common.{ℕ, map, ap, ◌∙◌}
use Rattle.ixdtf.specs.language.Letters.{Letter, Letter.Plain}
use Rattle.ixdtf_print.proofs.code.WideUnits.{counted_spelled}

pub put_wide-requires : goal.put_wide-requires
put_wide-requires g c =
    let spell : ℕ → Letter = λ n. Plain n in
    let counted = c.from-count.ensures ∙ c.core_length.ensures.length in
    rw (ap (map spell) c.front_of.ensures ∙ counted_spelled _ _ _ _ _ c.put_core.ensures counted) c.requires

pub returns : goal.returns
returns g c =
    let spell : ℕ → Letter = λ n. Plain n in
    let counted = c.from-count.ensures ∙ c.core_length.ensures.length in
    rw (ap (map spell) c.front_of.ensures ∙ counted_spelled _ _ _ _ _ c.put_core.ensures counted) at c.put_wide.ensures
