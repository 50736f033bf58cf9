use Rattle.ixdtf_print.proofs.written.write_byte.Goals as goal
use Rattle.std.proofs.{Common.{ap, ◌∙◌}, Output.has_written_styled_of_eq}
use Rattle.std.specs.Char.{encode_utf8}

pub returns : goal.returns
returns g c = λ flush ok.
    has_written_styled_of_eq _ _ _ _ _ (c.encode_utf8.ensures.value ∙ ap encode_utf8 c.from.ensures) (c.write_str.ensures.styled flush ok)
