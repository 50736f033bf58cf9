use Rattle.std.proofs.Common.{◌≡◌, refl, sym, ◌∙◌, ap, map, Err, subst}
use Rattle.ixdtf.specs.language.Letters.{Text, byte_letter}
use Rattle.ixdtf.specs.language.Languages.{Parsed}
use Rattle.ixdtf.specs.language.Readers.{parse}
use Rattle.ixdtf.specs.Handlers.{UnhandledRecord}
use Rattle.ixdtf_print.specs.Canonical.{canonical_text}
use Rattle.ixdtf_print.specs.Printable.{IsPrintable, record_of}
use Rattle.ixdtf_tests.proofs.tests.printing.is_read_back.Goals as goal

-- The printed text gives the record.
given : (found : Parsed) (printed rest : Text) → rest ≡ printed
    → printed ≡ canonical_text found → UnhandledRecord parse (canonical_text found) found → UnhandledRecord parse rest found
given found printed rest is spelled same = subst (λ text. UnhandledRecord parse text found) (sym (is ∙ spelled)) same

pub unreachable-requires : goal.unreachable-requires
unreachable-requires c =
    let found = record_of c.in-Ok.parsed in
    let rest = ap (map byte_letter) c.from_utf8-in-Ok-print.ensures.rest in
    let again = (c.in-Err.ensures.reads.ok found).1 (given found _ _ rest c.in-Ok-print.ensures.text c.in-Ok-print.ensures.read_back.same) in
    absurd cc

pub unreachable-requires-in-Err-NotPrintable : goal.unreachable-requires-in-Err-NotPrintable
unreachable-requires-in-Err-NotPrintable c =
    let found = record_of c.in-Ok.parsed in
    let printable : IsPrintable found = (map byte_letter c.from_utf8.result.rest, (c.in-Ok.ensures.reads.ok found).0 refl) in
    c.in-Err-NotPrintable.ensures.not_printable.0 (ap Err c.in-Err-NotPrintable.field-0-is) printable

pub returns-in-Ok-parse : goal.returns-in-Ok-parse
returns-in-Ok-parse c =
    let found = record_of c.in-Ok.parsed in
    let rest = ap (map byte_letter) c.from_utf8-in-Ok-print.ensures.rest in
    let again = (c.in-Ok-parse.ensures.reads.ok found).1 (given found _ _ rest c.in-Ok-print.ensures.text c.in-Ok-print.ensures.read_back.same) in
    let same : record_of c.in-Ok-parse.again ≡ found = cc in
    c.eq.ensures ∙ (c.equality_is_of_what_is_seen.ensures.record.exact c.in-Ok-parse.again c.in-Ok.parsed).1 same
