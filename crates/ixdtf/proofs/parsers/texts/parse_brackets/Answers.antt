use Rattle.ixdtf.proofs.parsers.texts.parse_brackets.Goals as goal
use Rattle.std.proofs.{Common.{ap, ◌∙◌, option_map, arith}, lemmas.Result.err_from_is_err_and}
use Rattle.ixdtf_grammar.specs.{language.Languages.Parsed, Handlers.{with_calendar, calendar_value, pair_of}}
use Rattle.ixdtf.proofs.code.{Tail.{bracket_shortens, first_refused}, Placed.{placed, placed_fault}}

pub returns-in_err-bracket-clause-replied : goal.returns-in_err-bracket-clause-replied
returns-in_err-bracket-clause-replied g c =
    let p = err_from_is_err_and c.from_residual.result c.from_residual.ensures.1 in
    let looks = c.in_err-bracket.ensures.looks in
    rw (p.1, p.2, ← c.fork-here.ensures.same) (
      0,
      first_refused _ _ _ _ _ _ _ c.in_err-bracket.ensures.bracket,
      (omega (arith, looks), omega (arith, looks)),
    )

pub returns-in_err-calendar-clause-replied : goal.returns-in_err-calendar-clause-replied
returns-in_err-calendar-clause-replied g c =
    let p = err_from_is_err_and c.from_residual-in_err-calendar.result c.from_residual-in_err-calendar.ensures.1 in
    let pairs = rw c.fork-here-2.ensures.same at c.in_err-calendar.ensures.pairs in
    let shorter = bracket_shortens _ g.T.EncodingType.letter _ _ _ c.in_ok-bracket.ensures.bracket in
    let looks = c.in_ok-bracket.ensures.looks in
    rw (p.1, p.2, ← c.fork-here.ensures.same) (
      pairs.0,
      placed_fault _ _ _ c.in_ok-bracket.ensures.bracket c.place_bracket-first.ensures.pair pairs.1,
      (omega (arith, shorter, looks, pairs.2), omega (arith, looks, pairs.2)),
    )

pub returns-clause-replied : goal.returns-clause-replied
returns-clause-replied g c =
    let pairs = rw c.fork-here-2.ensures.same at c.in_ok-calendar.ensures.pairs in
    let calendar = calendar_value (option_map (pair_of g.T.EncodingType.number) c.in_ok-calendar.field-0) in
    let found = c.place_calendar.ensures ∙ ap (λ (p : Parsed). with_calendar p calendar) c.place_bracket-first.ensures.zone in
    let shorter = bracket_shortens _ g.T.EncodingType.letter _ _ _ c.in_ok-bracket.ensures.bracket in
    let looks = c.in_ok-bracket.ensures.looks in
    rw (← c.fork-here.ensures.same) (
      pairs.0,
      placed _ _ _ c.in_ok-bracket.ensures.bracket c.place_bracket-first.ensures.pair pairs.1 found,
      (omega (arith, shorter, looks, pairs.2), omega (arith, looks, pairs.2)),
    )
