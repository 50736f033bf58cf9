use Rattle.ixdtf_print.proofs.written.write_zone.Goals as goal
use Rattle.std.proofs.{Common.sym, Output.has_written_styled_of_eq, lemmas.List.map-id}
use Rattle.ixdtf_print.proofs.code.DisplayedBytes.{bytes-plain}

pub returns-in-Name : goal.returns-in-Name
returns-in-Name g c = λ flush ok.
    rw (c.in-Name.is, map-id) (has_written_styled_of_eq _ _ _ _ _ (sym (bytes-plain c.in-Name.name.now)) (c.write_bytes.ensures flush ok))
