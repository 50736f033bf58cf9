use Rattle.ixdtf.proofs.laws.parse_unanswered_as.Goals as goal
use Rattle.ixdtf_grammar.specs.Views.{parsed_of}
use Rattle.ixdtf_reading.proofs.{code.ReadersWithoutPairs.each_err, theorems.Handled.{no_calendar, ignored_err}}

pub returns-clause-calendar : goal.returns-clause-calendar
returns-clause-calendar g c = no_calendar g.E.FromStop.fault g.T.EncodingType.number _ _ _ _ c.read_as.result c.requires.unanswered c.read_as.ensures.handles.handled

pub returns-clause-unrecognized : goal.returns-clause-unrecognized
returns-clause-unrecognized g c = each_err g.E.FromStop.fault (parsed_of g.T.EncodingType.number) _ c.read_as.result
    (λ fault is. (ignored_err g.T.EncodingType.number _ _ _ _ _ c.requires.unanswered c.read_as.ensures.handles.handled fault is).0)

pub returns-clause-duplicate : goal.returns-clause-duplicate
returns-clause-duplicate g c = each_err g.E.FromStop.fault (parsed_of g.T.EncodingType.number) _ c.read_as.result
    (λ fault is. (ignored_err g.T.EncodingType.number _ _ _ _ _ c.requires.unanswered c.read_as.ensures.handles.handled fault is).1)
