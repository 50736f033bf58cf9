use Rattle.ixdtf_print.proofs.text.write_core.Goals as goal
use Rattle.std.proofs.{Common.{ap, ◌∙◌}, Output.has_written_styled_of_eq}
use Rattle.std.specs.Str.{encode_utf8_all}
use Rattle.ixdtf_print.proofs.code.DisplayedBytes.{counted_bytes}

pub returns : goal.returns
returns g c = λ flush ok.
    let counted = c.from-count.ensures ∙ c.core_length.ensures.length in
    has_written_styled_of_eq _ _ _ _ _ (ap encode_utf8_all c.front_of.ensures ∙ counted_bytes _ _ _ _ _ c.put_core.ensures counted)
    (c.write_bytes.ensures flush ok)
