use Rattle.ixdtf_c.proofs.value_texts.AsTimeHasText.print.Goals as goal
use Rattle.ixdtf_grammar.specs.declared.profile.Profile.TheVariants.{Crate}
use Rattle.ixdtf.specs.Views.{parsed_of}
use Rattle.ixdtf_print.specs.Times.{lone_time_text}
use Rattle.ixdtf_c.specs.Standing.{record_by}
use Rattle.ixdtf_c.proofs.Printed.{refused, not_some, no_time, on_ok}

pub returns-in-None-clause-prints : goal.returns-in-None-clause-prints
returns-in-None-clause-prints g c = refused (not_some (record_by (g.R.RecordOf.contents c.args.self.now.record.now)) no_time c.in-None.ensures.digits)

pub returns-in-Some-clause-printable : goal.returns-in-Some-clause-printable
returns-in-Some-clause-printable g c =
    rw c.in-Some.ensures.found (on_ok c.print_time.result (λ back. (lone_time_text (parsed_of g.T.EncodingType.number c.in-Some.found), (back Crate).same)) c.print_time.ensures.read_back)

pub returns-in-Some-clause-prints : goal.returns-in-Some-clause-prints
returns-in-Some-clause-prints g c = rw c.in-Some.ensures.found c.print_time.ensures.prints
