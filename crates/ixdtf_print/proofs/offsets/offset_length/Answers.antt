use Rattle.ixdtf_print.proofs.offsets.offset_length.Goals as goal
use Rattle.ixdtf_grammar.specs.declared.records.UtcOffsetRecordOrZ.TheVariants as stands
use Rattle.std.proofs.Common.{arith}
use Rattle.ixdtf_print.proofs.{code.CanonicalLengths.always_counted, theorems.ShortCores.shift_short, theorems.PrintableOffsets.printable_offset}

pub returns-clause-none : goal.returns-clause-none
returns-clause-none c =
    always_counted c.printed_length.ensures.none
    (λ is. omega (arith, shift_short (stands.Offset c.args.offset.now) ((printable_offset c.args.offset.now).0 is)))
