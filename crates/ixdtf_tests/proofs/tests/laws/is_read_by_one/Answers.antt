use Rattle.std.proofs.Common.{refl, map}
use Rattle.ixdtf_grammar.specs.declared.profile.Profile.TheVariants.{Crate}
use Rattle.ixdtf.specs.language.Letters.{Text, byte_letter}
use Rattle.ixdtf.specs.language.Languages.Found.{parsed}
use Rattle.ixdtf.specs.language.Readers.{parse, parse_year_month}
use Rattle.ixdtf.specs.Laws.{InLanguage}
use Rattle.ixdtf.specs.Views.{parsed_of}
use Rattle.ixdtf_tests.proofs.tests.laws.is_read_by_one.Goals as goal

pub unreachable-requires : goal.unreachable-requires
unreachable-requires c =
    let text : Text = map byte_letter c.args.bytes.now in
    let (pairs, date) = (c.in-Ok.ensures.reads.ok (parsed_of (λ unit. unit) c.in-Ok._date)).0 refl in
    let (marks, month) = (c.in-Ok-parse_year_month.ensures.reads.ok (parsed_of (λ unit. unit) c.in-Ok-parse_year_month._month)).0 refl in
    let is_date : InLanguage parse text = (parsed date.read, pairs, rw (← c.from_utf8.ensures.rest) date.whole) in
    let is_month : InLanguage parse_year_month text = (parsed month.read, marks, rw (← c.from_utf8-in-Ok.ensures.rest) month.whole) in
    let same = c.languages_disjoint.ensures Crate text parse parse_year_month tt tt is_date is_month in
    absurd cc
