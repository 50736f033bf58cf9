-- Proves the case of an accepted text, and the case of a refused text.
use Rattle.ixdtf_answers.proofs.canonical_answers.canonical_month_day.Goals as goal
use Rattle.std.proofs.Common.{refl, arith}
use Rattle.ixdtf_grammar.specs.declared.profile.Profile.TheVariants.{Crate}
use Rattle.ixdtf_print.{specs.MonthDays.month_day_text, proofs.theorems.PrintableMonthDays.month_day_fits}
use Rattle.ixdtf_answers.specs.declared.word.Word.TheVariants.{CanonicalMonthDay}
use Rattle.ixdtf_answers.proofs.{PartsLemmas.record_returned, PrintedLemmas.record_printed}

pub returns-in-Ok : goal.returns-in-Ok
returns-in-Ok c =
    record_printed CanonicalMonthDay c.args.text.now month_day_text 4 refl c.from_utf8.ensures.rest (rw (c.from_utf8.ensures.profile, c.in-Ok.is) at c.parse_month_day-read.ensures.reads) (month_day_fits Crate) (omega arith) refl
    c.requires (omega (arith, c.told-room)) c.print_month_day.ensures.prints c.count_of.ensures

pub returns-in-Err : goal.returns-in-Err
returns-in-Err c = record { ok = tt; err = (record_returned CanonicalMonthDay _ c.args.text.now _ refl c.from_utf8.ensures.rest (rw (c.from_utf8.ensures.profile, c.in-Err.is) at c.parse_month_day-read.ensures.reads)).err }
