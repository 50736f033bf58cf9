use Rattle.std.proofs.Common.{◌∷◌, ◌++◌, sym, ◌∙◌, ap, map}
use Rattle.ixdtf.specs.Views.{returned, parsed_of}
use Rattle.ixdtf.specs.language.Letters.{Text, byte_letter}
use Rattle.ixdtf.specs.language.Letters.Letter.{Plain}
use Rattle.ixdtf.specs.language.Readers.{parse}
use Rattle.ixdtf_tests.proofs.UnhandledResults.{outcome_of, has_result, same_result}
use Rattle.ixdtf_tests.proofs.tests.laws.read_both_forms.Goals as goal

pub returns : goal.returns
returns c years months days rest parts plain hyphened =
    let one : Text = years ++ (months ++ (days ++ rest)) in
    let other : Text = years ++ (Plain 45 ∷ (months ++ (Plain 45 ∷ (days ++ rest)))) in
    let view = parsed_of (λ unit. unit) in
    let is_one = ap (map byte_letter) c.from_utf8.ensures.rest ∙ plain in
    let is_other = ap (map byte_letter) c.from_utf8-2.ensures.rest ∙ hyphened in
    let found = has_result view _ one c.parse-found.result is_one c.parse-found.ensures.reads.ok c.parse-found.ensures.reads.err in
    let same = has_result view _ other c.parse-same.result is_other c.parse-same.ensures.reads.ok c.parse-same.ensures.reads.err in
    let alike = (c.hyphens_say_nothing.ensures.same years months days rest parts (outcome_of (returned view c.parse-found.result))).0 found in
    let only = c.widths_agree.ensures.one parse other in
    same_result (returned view c.parse-found.result) (returned view c.parse-same.result) (only.2 _ alike ∙ sym (only.2 _ same))
