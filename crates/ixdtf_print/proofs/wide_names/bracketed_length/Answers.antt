use Rattle.ixdtf_print.proofs.wide_names.bracketed_length.Goals as goal
use Rattle.std.proofs.{Common.arith, lemmas.List.length-append}
use Rattle.ixdtf.specs.language.Letters.{Letter}

pub returns : goal.returns
returns g c =
    omega (arith, length-append {A = Letter}, c.from.ensures, c.core_length.ensures.length, c.brackets_length.ensures.length)
