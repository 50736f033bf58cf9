use Rattle.ixdtf.proofs.parsers.cores.check_front.Goals as goal
use Rattle.std.proofs.Common.{◌≡◌, map, true}
use Rattle.ixdtf_grammar.specs.language.Letters.{colon}
use Rattle.ixdtf_reading.specs.reading.{Looks.error_of, FixedPlaces.byte_place}
use Rattle.ixdtf_reading.proofs.parts.Fronts.{unfronted_goes, no_front_at_colon}

pub returns-then-is_time_separator-clause-front : goal.returns-then-is_time_separator-clause-front
returns-then-is_time_separator-clause-front g c =
    let text = map g.T.EncodingType.letter (map g.T.EncodingType.number c.args.start.now) in
    let third : colon (byte_place 2 text) ≡ true = cc (c.byte_at.ensures.there, c.fork_at-front.ensures.there, c.is_time_separator.ensures, c.if-is_time_separator.true) in
    λ core rest. unfronted_goes c.args.profile text error_of _ (no_front_at_colon c.args.profile text third)
