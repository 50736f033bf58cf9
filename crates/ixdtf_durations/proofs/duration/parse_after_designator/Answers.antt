use Rattle.ixdtf_durations.proofs.duration.parse_after_designator.Goals as goal
use Rattle.ixdtf_grammar.specs.declared.reason.Reason.TheVariants as reasons
use Rattle.std.proofs.{Common.{◌≡◌, [], map, Some, None, Ok, false, rules, refl, arith}, lemmas.Result.err_from_is_err_and}
use Rattle.ixdtf_grammar.specs.{language.Letters.{digit, time_letter}, table.DurationFronts.Context.in_dates}
use Rattle.ixdtf_reading.specs.reading.Looks.{seen}
use Rattle.ixdtf_reading.proofs.code.FractionLoop.{one_taken}
use Rattle.ixdtf_durations.proofs.duration.parse_after_designator.Goals.{in_default-via-in-Some-2+else-is_ascii_digit, in_default-via-in_default}
use Rattle.ixdtf_durations.proofs.code.DurationSteps.{fails, reads_on_earlier, to_digit, to_mark, opened_at_end, dates_at_other}

-- The look failed: the next code unit is bad.
pub returns-in_err-byte-clause-duration : goal.returns-in_err-byte-clause-duration
returns-in_err-byte-clause-duration g c =
    let p = err_from_is_err_and c.from_residual.result c.from_residual.ensures.1 in
    rw (p.1, p.2, c.in_err-byte.ensures.rest) (fails _ _ _ _ c.in_err-byte.ensures.letter)

-- The next code unit is `T` or `t`.
pub returns-in-Some-clause-duration : goal.returns-in-Some-clause-duration
returns-in-Some-clause-duration g c =
    let off = one_taken {letter = g.T.EncodingType.letter} c.in_ok-byte.ensures.letter c.in-Some.is c.in_ok-byte.ensures.rest c.advance.ensures.rest in
    reads_on_earlier _ _ _ _ c.args.cursor.now c.advance.new.self _ _ _ (to_mark _ _ _ _ _ off.found (search rules) off.left c.args.sign []) (c.parse_times.ensures.duration [] refl)

-- A group begins.
pub returns-in-Some-2-clause-duration : goal.returns-in-Some-2-clause-duration
returns-in-Some-2-clause-duration g c =
    let off = one_taken {letter = g.T.EncodingType.letter} c.in_ok-byte.ensures.letter c.in-Some.is c.in_ok-byte.ensures.rest c.advance-in-Some-2.ensures.rest in
    reads_on_earlier _ _ _ _ c.args.cursor.now c.advance-in-Some-2.new.self _ _ _ (to_digit _ _ _ _ _ off.found (search rules) off.left (in_dates c.args.sign []))
    c.parse_dated.ensures.duration

pub returns-in-Some-2-clause-looks : goal.returns-in-Some-2-clause-looks
returns-in-Some-2-clause-looks g c =
    let off = one_taken {letter = g.T.EncodingType.letter} c.in_ok-byte.ensures.letter c.in-Some.is c.in_ok-byte.ensures.rest c.advance-in-Some-2.ensures.rest in
    (omega (arith, c.parse_dated.ensures.looks), omega (arith, c.parse_dated.ensures.looks))

-- Neither a group nor a `T` follows.
pub returns-in_default-clause-duration : goal.returns-in_default-clause-duration
returns-in_default-clause-duration g c = elim c.in_default.branch [
  | in_default-via-in-Some-2+else-is_ascii_digit w ↦
      let found : seen reasons.AfterDurationDesignator (map g.T.EncodingType.letter c.args.cursor.now.rest) ≡ Ok (Some w.in-Some.byte) =
      cc (c.in_ok-byte.ensures.letter, w.in-Some.is) in
      let miss : digit w.in-Some.byte ≡ false = search rules in
      let nor : time_letter w.in-Some.byte ≡ false = search rules in
      rw c.in_ok-byte.ensures.rest (dates_at_other _ _ _ _ found c.args.sign [] miss nor)
  | in_default-via-in_default w ↦
      let none : seen reasons.AfterDurationDesignator (map g.T.EncodingType.letter c.args.cursor.now.rest) ≡ Ok None = cc (c.in_ok-byte.ensures.letter, w.in_default.is) in
      rw c.in_ok-byte.ensures.rest (opened_at_end _ _ _ none _)
]
