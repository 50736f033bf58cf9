use Rattle.ixdtf_grammar.specs.declared.profile.Profile.TheVariants as profiles
use Rattle.ixdtf_c.proofs.exports.ixdtf_parse.Goals as goal
use Rattle.std.proofs.lemmas.List.{length-map}
use Rattle.ixdtf.specs.language.Letters.{byte_letter}
use Rattle.ixdtf_c.specs.Narrow.{contents}
use Rattle.ixdtf_c.proofs.Printed.{read_is_printable, read_fits}

pub returns-clause-printable : goal.returns-clause-printable
returns-clause-printable c = λ zero. read_is_printable profiles.Crate _ _ (contents c.args.out.now) _ c.read_into.ensures.read zero

pub returns-clause-fits : goal.returns-clause-fits
returns-clause-fits c = λ zero. rw (← (length-map c.args.text.now byte_letter)) (read_fits profiles.Crate _ _ (contents c.args.out.now) _
    c.read_into.ensures.read zero)
