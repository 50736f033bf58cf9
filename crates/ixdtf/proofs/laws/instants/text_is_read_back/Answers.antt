use Rattle.std.proofs.Common.{[], refl}
use Rattle.ixdtf_grammar.specs.InstantLaws.{in_utc}
use Rattle.ixdtf_grammar.proofs.theorems.InstantTexts.{text_is_derived}
use Rattle.ixdtf_reading.proofs.theorems.Replies.{NoneRefused-nothing}
use Rattle.ixdtf.proofs.laws.instants.text_is_read_back.Goals as goal

pub returns : goal.returns
returns c instant range =
    let (date, time, whole, same) = text_is_derived instant range in
    (date, time, ([], record { read = in_utc date time; whole = whole; accepted = NoneRefused-nothing; has = refl }), same)
