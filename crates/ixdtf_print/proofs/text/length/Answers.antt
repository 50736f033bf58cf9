use Rattle.ixdtf_print.proofs.text.length.Goals as goal
use Rattle.std.proofs.{Common.arith, lemmas.List.length-append}
use Rattle.ixdtf.specs.language.Letters.{Letter}

pub returns : goal.returns
returns g c =
    rw c.tail.ensures (omega (arith, length-append {A = Letter}, c.core_length.ensures.length, c.length_of_parts.ensures))
