use Rattle.ixdtf_durations.proofs.date_groups.parse_dates.Goals as goal
use Rattle.ixdtf_durations.proofs.date_groups.parse_dates.{Goals.After-least_step, Given.Over}
use Rattle.ixdtf_grammar.specs.declared.reason.Reason.TheVariants as reasons
use Rattle.std.proofs.{Common.{◌≡◌, ◌+◌, [], map, Some, None, Ok, false, refl, arith, rules}, lemmas.Result.err_from_is_err_and}
use Rattle.ixdtf_grammar.specs.language.Letters.{digit, time_letter}
use Rattle.ixdtf_reading.specs.reading.Looks.{seen}
use Rattle.ixdtf_reading.proofs.code.FractionLoop.{one_taken}
use Rattle.ixdtf_durations.proofs.code.{DurationLetters.ends_date, DurationGroups.no_dates, DurationLoops.{DatesRead, date_added_on, date_refused_on, dates_small}}
use Rattle.ixdtf_durations.proofs.code.DurationLoops.{dates_go_on, dates_stop, dates_break, dates_timed, dates_alone}

-- No group has been read.
pub loop-number-init : goal.loop-number-init
loop-number-init g c = record {
  far = record { dates = []; has = no_dates _; leads = λ s. refl };
  first = omega arith;
  is_digit = c.requires.digit;
  looks = omega arith;
  counted = omega arith;
}

-- The group may not follow.
pub returns-in_err-rank-clause-refused : goal.returns-in_err-rank-clause-refused
returns-in_err-rank-clause-refused g c =
    let p = err_from_is_err_and c.from_residual-in_err-rank.result c.from_residual-in_err-rank.ensures.1 in
    rw (p.1, p.2) (date_refused_on _ _ _ c.loop-number.invariant.far c.in_ok-number.number (map g.T.EncodingType.letter c.parse_number.new.cursor.rest) _
    (ends_date _ _ _ c.in_ok-number.number _ c.in_ok-number.ensures.number c.args.profile) c.in_err-rank.ensures.left _ c.in_err-rank.ensures.rank)

-- One more group was read.
group_read : (g : Over) (c : After-least_step g) → DatesRead c.args.profile c.args.first (map g.T.EncodingType.letter c.args.cursor.now.rest)
    (map g.T.EncodingType.letter c.take_date_unit.new.cursor.rest) c.keep_number.new.values (c.in_ok-rank.rank + c.least_step.result)
group_read g c =
    rw (← c.keep_number.ensures) at (date_added_on _ _ _ c.loop-number.invariant.far c.in_ok-number.number (map g.T.EncodingType.letter c.parse_number.new.cursor.rest)
    (map g.T.EncodingType.letter c.take_date_unit.new.cursor.rest)
    (ends_date _ _ _ c.in_ok-number.number _ c.in_ok-number.ensures.number c.args.profile) c.in_ok-rank.ensures.left
    _ _ c.in_ok-rank.ensures.rank c.least_step.ensures)

-- The look failed: the next code unit is bad.
pub returns-in_err-look-clause-refused : goal.returns-in_err-look-clause-refused
returns-in_err-look-clause-refused g c =
    let p = err_from_is_err_and c.from_residual-in_err-look.result c.from_residual-in_err-look.ensures.1 in
    let read = group_read g (goal.at.returns-in_err-look-clause-refused g c).After-least_step in
    rw (p.1, p.2, c.in_err-look.ensures.rest) (dates_break _ _ _ read _ c.in_err-look.ensures.letter)

-- The text ends.
pub returns-in-None-clause-dates : goal.returns-in-None-clause-dates
returns-in-None-clause-dates g c =
    let read = group_read g (goal.at.returns-in-None-clause-dates g c).After-least_step in
    let none : seen reasons.AfterDateGroups (map g.T.EncodingType.letter c.take_date_unit.new.cursor.rest) ≡ Ok None =
    cc (c.in_ok-look.ensures.letter, c.in-None.is) in
    dates_alone _ _ _ read g.T.EncodingType.letter _ refl _ _ c.date_record.ensures _ none (rw c.in_ok-look.ensures.rest refl)

-- One more group begins.
pub loop-number-smaller : goal.loop-number-smaller
loop-number-smaller g c =
    let off = one_taken {letter = g.T.EncodingType.letter} c.in_ok-look.ensures.letter c.in-Some.is c.in_ok-look.ensures.rest c.advance.ensures.rest in
    omega (arith, c.in_ok-number.ensures.looks, c.in_ok-rank.ensures.taken, c.in_ok-rank.ensures.looks, c.loop-number.invariant.looks)

pub loop-number-preserved : goal.loop-number-preserved
loop-number-preserved g c =
    let off = one_taken {letter = g.T.EncodingType.letter} c.in_ok-look.ensures.letter c.in-Some.is c.in_ok-look.ensures.rest c.advance.ensures.rest in
    record {
      far = dates_go_on _ _ _ (group_read g (goal.at.loop-number-preserved g c).After-least_step) _ _ _ off.found (search rules) off.left;
      first = search rules;
      is_digit = search rules;
      looks = omega (arith, c.in_ok-number.ensures.looks, c.in_ok-rank.ensures.taken, c.in_ok-rank.ensures.looks, c.loop-number.invariant.looks, c.in_ok-look.ensures.looks, c.advance.ensures.looks);
      counted = omega (arith, c.in_ok-number.ensures.looks, c.in_ok-rank.ensures.looks, c.loop-number.invariant.counted, c.in_ok-look.ensures.looks, c.advance.ensures.looks);
    }

-- A `T` follows.
pub date_record-requires-in-Some-2 : goal.date_record-requires-in-Some-2
date_record-requires-in-Some-2 g c = record { small = dates_small _ _ _ (group_read g (goal.at.date_record-requires-in-Some-2 g c).After-least_step) }

pub returns-in-Some-2-clause-dates : goal.returns-in-Some-2-clause-dates
returns-in-Some-2-clause-dates g c =
    let read = group_read g (goal.at.returns-in-Some-2-clause-dates g c).After-least_step in
    let off = one_taken {letter = g.T.EncodingType.letter} c.in_ok-look.ensures.letter c.in-Some-2.is c.in_ok-look.ensures.rest c.advance-in-Some-2.ensures.rest in
    dates_timed _ _ _ read g.T.EncodingType.letter _ refl _ _ c.date_record-in-Some-2.ensures _ _ off.found (search rules) off.left

-- Another code unit follows.
pub returns-in-Some-3-clause-refused : goal.returns-in-Some-3-clause-refused
returns-in-Some-3-clause-refused g c =
    let read = group_read g (goal.at.returns-in-Some-3-clause-refused g c).After-least_step in
    let found : seen reasons.AfterDateGroups (map g.T.EncodingType.letter c.take_date_unit.new.cursor.rest) ≡ Ok (Some c.in-Some.byte) =
    cc (c.in_ok-look.ensures.letter, c.in-Some.is) in
    let miss : digit c.in-Some.byte ≡ false = search rules in
    let nor : time_letter c.in-Some.byte ≡ false = search rules in
    rw c.in_ok-look.ensures.rest (dates_stop _ _ _ read _ _ found miss nor)
