-- The handler returns each annotation.
use Rattle.ixdtf_c.proofs.readers.read_as.Goals as goal
use Rattle.std.proofs.{Common.rules, lemmas.Simd.map-map}
use Rattle.ixdtf_c.proofs.Read.{reads}

pub returns : goal.returns
returns g c =
    let handles = c.read_lending_handler.ensures.handles in
    rw (← (map-map g.T.EncodingType.letter g.T.EncodingType.number c.args.text.now), ← c.new.ensures.rest, ← c.with_profile-parser.ensures.rest, ← c.with_profile-parser.ensures.profile)
    (reads _ _ _ _ _ _ _ (λ state annotation reply next stepped. search rules) _ _ _ _ handles.handled handles.no_row handles.no_other_reader)
