use Rattle.ixdtf_durations.proofs.duration.parse_times.Goals as goal
use Rattle.ixdtf_grammar.specs.declared.reason.Reason.TheVariants as reasons
use Rattle.std.proofs.{Common.{◌≡◌, [], map, Some, None, Ok, false, rules, ◌∙◌}, lemmas.Result.err_from_is_err_and}
use Rattle.ixdtf_grammar.specs.{language.Letters.digit, table.DurationFronts.Context.in_times}
use Rattle.ixdtf_reading.{specs.reading.Looks.seen, proofs.code.FractionLoop.one_taken}
use Rattle.ixdtf_durations.proofs.code.DurationSteps.{fails, to_digit, times_at_end, times_at_other}
use Rattle.ixdtf_durations.proofs.duration.parse_times.Goals.{in_default-via-in-Some+else-is_ascii_digit, in_default-via-in_default}

-- The look failed: the next code unit is bad.
pub returns-in_err-byte-clause-duration : goal.returns-in_err-byte-clause-duration
returns-in_err-byte-clause-duration g c dates is =
    let p = err_from_is_err_and c.from_residual.result c.from_residual.ensures.1 in
    rw (p.1, p.2, c.in_err-byte.ensures.rest) (fails _ _ _ _ c.in_err-byte.ensures.letter)

-- Time groups were read.
pub returns-in-Ok-clause-duration : goal.returns-in-Ok-clause-duration
returns-in-Ok-clause-duration g c dates is =
    let off = one_taken {letter = g.T.EncodingType.letter} c.in_ok-byte.ensures.letter c.in-Some.is c.in_ok-byte.ensures.rest c.advance.ensures.rest in
    to_digit _ _ _ _ _ off.found (search rules) off.left (in_times c.args.sign dates []) ∙ rw is at (c.in-Ok.ensures.times c.args.sign dates)

-- Reading the time groups failed.
pub returns-in-Err-clause-duration : goal.returns-in-Err-clause-duration
returns-in-Err-clause-duration g c dates is =
    let off = one_taken {letter = g.T.EncodingType.letter} c.in_ok-byte.ensures.letter c.in-Some.is c.in_ok-byte.ensures.rest c.advance.ensures.rest in
    to_digit _ _ _ _ _ off.found (search rules) off.left (in_times c.args.sign dates []) ∙ c.in-Err.ensures.times c.args.sign dates

-- No group begins.
pub returns-in_default-clause-duration : goal.returns-in_default-clause-duration
returns-in_default-clause-duration g c dates is = elim c.in_default.branch [
  | in_default-via-in-Some+else-is_ascii_digit w ↦
      let found : seen reasons.AfterTimeDesignator (map g.T.EncodingType.letter c.args.cursor.now.rest) ≡ Ok (Some w.in-Some.byte) =
      cc (c.in_ok-byte.ensures.letter, w.in-Some.is) in
      let miss : digit w.in-Some.byte ≡ false = search rules in
      rw c.in_ok-byte.ensures.rest (times_at_other _ _ _ _ found _ dates miss)
  | in_default-via-in_default w ↦
      let none : seen reasons.AfterTimeDesignator (map g.T.EncodingType.letter c.args.cursor.now.rest) ≡ Ok None = cc (c.in_ok-byte.ensures.letter, w.in_default.is) in
      rw c.in_ok-byte.ensures.rest (times_at_end _ _ _ none _ dates)
]
