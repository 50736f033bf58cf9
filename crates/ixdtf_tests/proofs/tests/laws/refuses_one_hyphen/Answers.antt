use Rattle.std.proofs.Common.{◌∷◌, ◌++◌, Err, sym, ◌∙◌, ap, map}
use Rattle.ixdtf.specs.Views.{returned, parsed_of}
use Rattle.ixdtf.specs.language.Letters.{Text, byte_letter}
use Rattle.ixdtf.specs.language.Letters.Letter.{Plain}
use Rattle.ixdtf.specs.language.Readers.{parse}
use Rattle.ixdtf.specs.table.Faults.Fault.{DateSeparator}
use Rattle.ixdtf_tests.proofs.UnhandledResults.{has_result, same_result}
use Rattle.ixdtf_tests.proofs.tests.laws.refuses_one_hyphen.Goals as goal

pub returns : goal.returns
returns c years months days rest parts hyphened =
    let text : Text = years ++ (Plain 45 ∷ (months ++ (days ++ rest))) in
    let view = parsed_of (λ unit. unit) in
    let found = has_result view _ text c.parse.result (ap (map byte_letter) c.from_utf8.ensures.rest ∙ hyphened) c.parse.ensures.reads.ok c.parse.ensures.reads.err in
    let refused = (c.hyphens_say_nothing.ensures.one years months days rest parts).0 in
    let only = c.widths_agree.ensures.one parse text in
    same_result (returned view c.parse.result) (Err DateSeparator) (only.2 _ found ∙ sym (only.2 _ refused))
