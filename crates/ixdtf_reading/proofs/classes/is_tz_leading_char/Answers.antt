use Rattle.ixdtf_reading.proofs.classes.is_tz_leading_char.Goals as goal
use Rattle.std.proofs.Common.{refl, arith}
use Rattle.ixdtf_grammar.specs.language.Letters.{zone_lead}
use Rattle.ixdtf_reading.proofs.code.Tables.{agree_below, bits, listed_from, in_class}

pub returns : goal.returns
unfolding agree_below bits listed_from
returns c = in_class 16 zone_lead refl c.args.byte (omega arith)
