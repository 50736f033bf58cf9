-- Proves the case of an accepted text, and the case of a refused text.
use Rattle.ixdtf_answers.proofs.canonical_answers.canonical_year_month.Goals as goal
use Rattle.std.proofs.Common.{refl, arith}
use Rattle.ixdtf_print.{specs.YearMonths.year_month_text, proofs.theorems.PrintableYearMonths.year_month_fits}
use Rattle.ixdtf_answers.specs.declared.word.Word.TheVariants.{CanonicalYearMonth}
use Rattle.ixdtf_answers.proofs.{PartsLemmas.record_returned, PrintedLemmas.record_printed}

pub returns-in-Ok : goal.returns-in-Ok
returns-in-Ok c =
    record_printed CanonicalYearMonth c.args.text.now year_month_text 4 refl c.from_utf8.ensures.rest (rw c.in-Ok.is at c.parse_year_month-read.ensures.reads) year_month_fits (omega arith) refl
    c.requires (omega (arith, c.told-room)) c.print_year_month.ensures.prints c.count_of.ensures

pub returns-in-Err : goal.returns-in-Err
returns-in-Err c = record { ok = tt; err = (record_returned CanonicalYearMonth _ c.args.text.now _ refl c.from_utf8.ensures.rest (rw c.in-Err.is at c.parse_year_month-read.ensures.reads)).err }
