-- The handler drops each annotation.
use Rattle.ixdtf_c.proofs.reader_errors.dropping.Goals as goal
use Rattle.std.proofs.Common.{rules, ◌∙◌}
use Rattle.ixdtf_c.proofs.Refused.{of_units, dropped_ok, dropped_err}

pub returns-in-Ok : goal.returns-in-Ok
returns-in-Ok g c = rw (← c.with_profile-parser.ensures.profile) (of_units _ _ _ (c.with_profile-parser.ensures.rest ∙ c.new.ensures.rest) (dropped_ok c.read_lending_handler.ensures.handles.handled c.in-Ok.is))

pub returns-in-Err : goal.returns-in-Err
returns-in-Err g c = rw (← c.with_profile-parser.ensures.profile) (of_units _ _ _ (c.with_profile-parser.ensures.rest ∙ c.new.ensures.rest) (dropped_err c.read_lending_handler.ensures.handles.handled (λ state annotation reply next stepped. search rules) c.in-Err.is))
