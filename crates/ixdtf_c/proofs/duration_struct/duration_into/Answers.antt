use Rattle.ixdtf_c.proofs.duration_struct.duration_into.Goals as goal
use Rattle.std.proofs.Common.{◌∙◌, ap}
use Rattle.ixdtf_c.specs.Lasting.{contents}
use Rattle.ixdtf_c.proofs.Crossed.{lasts_ok, lasts_err}

pub returns-in-Ok-clause-read : goal.returns-in-Ok-clause-read
returns-in-Ok-clause-read g c =
    lasts_ok g.T.EncodingType.number c.args.text.now (contents c.args.out.now) c.parse_located.ensures.reads c.parse_located.ensures.no_other_reader
    (c.with_profile-parser.ensures.rest ∙ c.new.ensures.rest) c.with_profile-parser.ensures.profile c.in-Ok.is c.fill.ensures

pub returns-in-Err-clause-read : goal.returns-in-Err-clause-read
returns-in-Err-clause-read g c =
    lasts_err g.T.EncodingType.number c.args.text.now (contents c.args.out.now) c.parse_located.ensures.reads c.parse_located.ensures.no_other_reader
    (c.with_profile-parser.ensures.rest ∙ c.new.ensures.rest) c.with_profile-parser.ensures.profile c.in-Err.is c.number_and_location-number.ensures.number
    (λ i. record (contents c.args.out.now) { location = (ap (λ it. it.now) c.to_c-out.ensures ∙ c.number_and_location-number.ensures.location) i; place = c.in-Err.located.at })
