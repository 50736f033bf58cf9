use Rattle.ixdtf.proofs.parsers.texts.parse_front.Goals as goal
use Rattle.std.proofs.Common.{◌∙◌, false, Ok, ap}
use Rattle.ixdtf_reading.specs.reading.Clauses.{core_in}
use Rattle.ixdtf.proofs.code.Tail.{core_ends_text, core_opens, opened_looks}

-- The text ends after its core.
pub returns-in-Ok-End-clause-front : goal.returns-in-Ok-End-clause-front
returns-in-Ok-End-clause-front g c =
    let read = rw c.in-Ok-End.field-0-is at c.in-Ok-End.ensures.core in
    let ends = core_ends_text (g.C.CoreReader.kind c.args.profile) _ _ _ read in
    let kept = c.in-Ok-End.ensures.kept in
    (read ∙ ap (λ t. Ok ((core_in c.parse_core.new.found, false), t)) ends, (kept.0 ∙ c.requires.empty.tz, kept.1 ∙ c.requires.empty.calendar))

pub returns-in-Ok-Bracket-clause-looks : goal.returns-in-Ok-Bracket-clause-looks
returns-in-Ok-Bracket-clause-looks g c =
    let kind = g.C.CoreReader.kind c.args.profile in
    let read = rw c.in-Ok-Bracket.field-0-is at c.in-Ok-Bracket.ensures.core in
    let shorter = core_opens kind g.T.EncodingType.letter _ _ _ read in
    opened_looks g.T.EncodingType.letter g.T.EncodingType.number kind c.has_exact_zones.result (c.has_exact_zones.ensures c.args.profile) _ c.args.start c.parse_core.new.cursor
    c.parse_open_bracket.new.text.here _ _ c.in-Ok-Bracket.ensures.looks shorter c.parse_open_bracket.result c.parse_open_bracket.ensures.bracket c.parse_open_bracket.ensures.looks
