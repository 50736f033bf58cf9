use Rattle.ixdtf_reading.proofs.classes.is_tz_char.Goals as goal
use Rattle.std.proofs.Common.{refl, arith}
use Rattle.ixdtf_grammar.specs.language.Letters.{zone_char}
use Rattle.ixdtf_reading.proofs.code.Tables.{agree_below, bits, listed_from, in_class}

pub returns : goal.returns
unfolding agree_below bits listed_from
returns c = in_class 2 zone_char refl c.args.byte (omega arith)
