use Rattle.ixdtf_c.proofs.narrow_printers.ixdtf_print.Goals as goal
use Rattle.std.proofs.Common.{◌≡◌, ◌≤◌, ◌<◌, ◌^◌, ◌-◌, length, map, min, take}
use Rattle.ixdtf.specs.language.Letters.{byte_letter}
use Rattle.ixdtf_c.specs.{Narrow.contents, Standing.record_by}
use Rattle.ixdtf_c.proofs.Printed.{told_some, text_some}
use Rattle.ixdtf_print.specs.{Canonical.canonical_text, Printable.IsPrintable}

pub returns-clause-printed : goal.returns-clause-printed
returns-clause-printed c = told_some canonical_text (λ text. length text ≤ length c.args.out.now) IsPrintable (record_by (contents c.args.given.now))
    c.print_into.ensures.prints.printed

pub returns-clause-too_short : goal.returns-clause-too_short
returns-clause-too_short c = told_some canonical_text (λ text. length c.args.out.now < length text) IsPrintable (record_by (contents c.args.given.now))
    c.print_into.ensures.prints.too_short

pub returns-clause-count : goal.returns-clause-count
returns-clause-count c = λ zero. text_some canonical_text (λ text. c.print_into.new.count ≡ length text) IsPrintable (record_by (contents c.args.given.now))
    (c.print_into.ensures.prints.printed.0 zero).0 (c.print_into.ensures.prints.count zero)

pub returns-clause-text : goal.returns-clause-text
returns-clause-text c = λ zero. text_some canonical_text (λ text. map byte_letter (take c.print_into.new.count c.print_into.new.out) ≡ text) IsPrintable
    (record_by (contents c.args.given.now)) (c.print_into.ensures.prints.printed.0 zero).0 (c.print_into.ensures.prints.text zero)

pub returns-clause-needed : goal.returns-clause-needed
returns-clause-needed c = λ told. text_some canonical_text (λ text. c.print_into.new.count ≡ min (length text) (2 ^ 64 - 1)) IsPrintable
    (record_by (contents c.args.given.now)) (c.print_into.ensures.prints.too_short.0 told).0 (c.print_into.ensures.prints.needed told)
