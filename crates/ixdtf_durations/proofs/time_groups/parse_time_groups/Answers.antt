use Rattle.ixdtf_durations.proofs.time_groups.parse_time_groups.Goals as goal
use Rattle.ixdtf_durations.proofs.time_groups.parse_time_groups.{Given.Over, Goals.{In_ok-group, After-keep_number, After-least_step}}
use Rattle.ixdtf_grammar.specs.declared.reason.Reason.TheVariants as reasons
use Rattle.std.proofs.{Common.{◌≡◌, ◌+◌, List, [], ◌∷◌, refl, map, None, Some, Ok, true, false, ◌∙◌, arith, rules}, lemmas.Result.err_from_is_err_and}
use Rattle.ixdtf_grammar.specs.{declared.records.Sign.Sign, language.{Letters.{digit, decimal_mark, Letter.Plain}, Durations.{Group, least_step}}, table.DurationFronts.Context.in_times}
use Rattle.ixdtf_reading.specs.reading.{Looks.seen, Durations.State.in_number}
use Rattle.ixdtf_reading.proofs.code.FractionLoop.{one_taken}
use Rattle.ixdtf_durations.specs.{declared.{group_numbers.Number.Number, time_groups.TimeGroup.TimeGroup}, reading.DurationClauses.{run_from, after_time_group}}
use Rattle.ixdtf_durations.proofs.code.{DurationGroups.no_times, DurationLetters.{ends_time, at_decimal_mark}, DurationSteps.letters_left}
use Rattle.ixdtf_durations.proofs.code.DurationLoops.{TimesRead, fraction_digits_stop, fraction_stop_behind, time_added_on, time_refused_on, times_go_on, times_stop, times_break, times_end_with}

-- No group has been read.
pub loop-whole-init : goal.loop-whole-init
loop-whole-init g c = record {
  far = record { times = []; has = no_times _; leads = λ s dates. refl };
  first = omega arith;
  is_digit = c.requires.digit;
  looks = omega arith;
  counted = omega arith;
}

-- ---- a last group, with a fraction

-- Reading the fraction, or the code unit after it, failed.
pub returns-in_err-group-clause-times : goal.returns-in_err-group-clause-times
returns-in_err-group-clause-times g c s dates =
    let p = err_from_is_err_and c.from_residual-in_err-group.result c.from_residual-in_err-group.ensures.1 in
    let far = c.loop-whole.invariant.far in
    let number = c.in_ok-whole.ensures.number in
    let is : decimal_mark c.in_ok-whole.whole.next ≡ true = search rules in
    rw (p.1, p.2) (far.leads s dates
    ∙ at_decimal_mark _ _ _ _ _ number c.args.profile s dates far.times _ (letters_left g.T.EncodingType.letter _ _ c.advance_by.ensures.rest) is
    ∙ c.in_err-group.ensures.group c.args.profile s dates far.times number.ds number.value)

-- The number and its fraction were read.
with_fraction : (g : Over) (c : In_ok-group g) (s : Sign) (dates times : List Group)
    → run_from c.args.profile (in_number (in_times s dates times) (Plain c.loop-whole.digit ∷ [])) (map g.T.EncodingType.letter c.loop-whole.cursor.rest)
    ≡ after_time_group c.args.profile s dates times c.in_ok-group.group (map g.T.EncodingType.letter c.parse_fraction_group.new.cursor.rest)
with_fraction g c s dates times =
    let number = c.in_ok-whole.ensures.number in
    let is : decimal_mark c.in_ok-whole.whole.next ≡ true = search rules in
    at_decimal_mark _ _ _ _ _ number c.args.profile s dates times _ (letters_left g.T.EncodingType.letter _ _ c.advance_by.ensures.rest) is
    ∙ c.in_ok-group.ensures.group c.args.profile s dates times number.ds number.value

-- The letter of its unit was read too.
last_read : (g : Over) (c : After-keep_number g) → TimesRead c.args.profile c.args.first (map g.T.EncodingType.letter c.args.cursor.now.rest)
    (map g.T.EncodingType.letter c.take_time_unit.new.cursor.rest) c.keep_number.new.values (c.in_ok-rank.rank + least_step c.args.profile) c.in_ok-group.group c.in_ok-rank.rank
last_read g c =
    rw (← c.keep_number.ensures) at (time_added_on _ _ _ c.loop-whole.invariant.far c.in_ok-group.group (map g.T.EncodingType.letter c.parse_fraction_group.new.cursor.rest)
    (map g.T.EncodingType.letter c.take_time_unit.new.cursor.rest) (with_fraction g (goal.at.After-keep_number g c).In_ok-group)
    c.in_ok-rank.ensures.left _ _ (least_step c.args.profile) (fraction_digits_stop _ c.in_ok-group.ensures.fraction) c.in_ok-rank.ensures.rank refl)

-- The group may not follow.
pub returns-in_err-rank-clause-times : goal.returns-in_err-rank-clause-times
returns-in_err-rank-clause-times g c s dates =
    let p = err_from_is_err_and c.from_residual-in_err-rank.result c.from_residual-in_err-rank.ensures.1 in
    rw (p.1, p.2) (time_refused_on _ _ _ c.loop-whole.invariant.far c.in_ok-group.group (map g.T.EncodingType.letter c.parse_fraction_group.new.cursor.rest) _
    (with_fraction g (goal.at.returns-in_err-rank-clause-times g c).In_ok-group) c.in_err-rank.ensures.left _ _ (fraction_digits_stop _ c.in_ok-group.ensures.fraction) c.in_err-rank.ensures.rank s dates)

-- The look failed: the next code unit is bad.
pub returns-in_err-look-clause-times : goal.returns-in_err-look-clause-times
returns-in_err-look-clause-times g c s dates =
    let p = err_from_is_err_and c.from_residual-in_err-look.result c.from_residual-in_err-look.ensures.1 in
    let read = last_read g (goal.at.returns-in_err-look-clause-times g c).After-keep_number in
    rw (p.1, p.2, c.in_err-look.ensures.rest) (times_break _ _ _ read _ _ (fraction_stop_behind _ c.in_ok-group.ensures.fraction) c.in_err-look.ensures.letter s dates)

-- The text ends.
pub returns-in-None-clause-times : goal.returns-in-None-clause-times
returns-in-None-clause-times g c s dates =
    let read = last_read g (goal.at.returns-in-None-clause-times g c).After-keep_number in
    let none : seen reasons.AfterFractionGroup (map g.T.EncodingType.letter c.take_time_unit.new.cursor.rest) ≡ Ok None = cc (c.in_ok-look.ensures.letter, c.in-None.is) in
    rw c.in_ok-look.ensures.rest (times_end_with _ _ _ read _ _ none c.time_record.ensures s dates)

-- A code unit follows.
pub returns-in-Some-clause-times : goal.returns-in-Some-clause-times
returns-in-Some-clause-times g c s dates =
    let read = last_read g (goal.at.returns-in-Some-clause-times g c).After-keep_number in
    let found : seen reasons.AfterFractionGroup (map g.T.EncodingType.letter c.take_time_unit.new.cursor.rest) ≡ Ok (Some c.in-Some._after_fraction) =
    cc (c.in_ok-look.ensures.letter, c.in-Some.is) in
    let some = c.in_ok-group.ensures.fraction in
    let never : digit c.in-Some._after_fraction ≡ true → c.in_ok-group.group.fraction ≡ None → ⊥ = λ begins none. let bad = rw none at some in absurd cc in
    rw c.in_ok-look.ensures.rest (times_stop _ _ _ read _ _ _ (fraction_stop_behind _ c.in_ok-group.ensures.fraction) found never s dates)

-- ---- a group without one

abbrev unfractioned : Number → TimeGroup
unfractioned whole = record { value = whole.value; fraction = None; letter = whole.next }

-- The group may not follow.
pub returns-in_err-rank-2-clause-times : goal.returns-in_err-rank-2-clause-times
returns-in_err-rank-2-clause-times g c s dates =
    let p = err_from_is_err_and c.from_residual-in_err-rank-2.result c.from_residual-in_err-rank-2.ensures.1 in
    let miss : decimal_mark c.in_ok-whole.whole.next ≡ false = search rules in
    rw (p.1, p.2) (time_refused_on _ _ _ c.loop-whole.invariant.far (unfractioned c.in_ok-whole.whole) (map g.T.EncodingType.letter c.parse_number.new.cursor.rest) _
    (λ s dates times. ends_time _ _ _ _ _ c.in_ok-whole.ensures.number c.args.profile s dates times miss c.in_ok-whole.ensures.small)
    c.in_err-rank-2.ensures.left _ _ refl c.in_err-rank-2.ensures.rank s dates)

-- One more group was read.
group_read : (g : Over) (c : After-least_step g) → TimesRead c.args.profile c.args.first (map g.T.EncodingType.letter c.args.cursor.now.rest)
    (map g.T.EncodingType.letter c.take_time_unit-in-loop-whole.new.cursor.rest) c.keep_number-in-loop-whole.new.values (c.in_ok-rank-2.rank + c.least_step.result)
    (unfractioned c.in_ok-whole.whole) c.in_ok-rank-2.rank
group_read g c =
    let miss : decimal_mark c.in_ok-whole.whole.next ≡ false = search rules in
    rw (← c.keep_number-in-loop-whole.ensures) at (time_added_on _ _ _ c.loop-whole.invariant.far (unfractioned c.in_ok-whole.whole) (map g.T.EncodingType.letter c.parse_number.new.cursor.rest)
    (map g.T.EncodingType.letter c.take_time_unit-in-loop-whole.new.cursor.rest)
    (λ s dates times. ends_time _ _ _ _ _ c.in_ok-whole.ensures.number c.args.profile s dates times miss c.in_ok-whole.ensures.small)
    c.in_ok-rank-2.ensures.left _ _ _ refl c.in_ok-rank-2.ensures.rank c.least_step.ensures)

-- The look failed: the next code unit is bad.
pub returns-in_err-look-2-clause-times : goal.returns-in_err-look-2-clause-times
returns-in_err-look-2-clause-times g c s dates =
    let p = err_from_is_err_and c.from_residual-in_err-look-2.result c.from_residual-in_err-look-2.ensures.1 in
    let read = group_read g (goal.at.returns-in_err-look-2-clause-times g c).After-least_step in
    rw (p.1, p.2, c.in_err-look-2.ensures.rest) (times_break _ _ _ read _ _ refl c.in_err-look-2.ensures.letter s dates)

-- The text ends.
pub returns-in-None-2-clause-times : goal.returns-in-None-2-clause-times
returns-in-None-2-clause-times g c s dates =
    let read = group_read g (goal.at.returns-in-None-2-clause-times g c).After-least_step in
    let none : seen reasons.AfterTimeGroups (map g.T.EncodingType.letter c.take_time_unit-in-loop-whole.new.cursor.rest) ≡ Ok None =
    cc (c.in_ok-look-2.ensures.letter, c.in-None-2.is) in
    rw c.in_ok-look-2.ensures.rest (times_end_with _ _ _ read _ _ none c.time_record-in-None-2.ensures s dates)

-- One more group begins.
pub loop-whole-smaller : goal.loop-whole-smaller
loop-whole-smaller g c =
    let off = one_taken {letter = g.T.EncodingType.letter} c.in_ok-look-2.ensures.letter c.in-Some-2.is c.in_ok-look-2.ensures.rest c.advance.ensures.rest in
    omega (arith, c.in_ok-whole.ensures.looks, c.in_ok-rank-2.ensures.taken, c.in_ok-rank-2.ensures.looks)

pub loop-whole-preserved : goal.loop-whole-preserved
loop-whole-preserved g c =
    let read = group_read g (goal.at.loop-whole-preserved g c).After-least_step in
    let begins : digit c.in-Some-2.byte ≡ true = search rules in
    let off = one_taken {letter = g.T.EncodingType.letter} c.in_ok-look-2.ensures.letter c.in-Some-2.is c.in_ok-look-2.ensures.rest c.advance.ensures.rest in
    record {
      far = times_go_on _ _ _ read _ _ _ off.found begins refl off.left;
      first = search rules;
      is_digit = begins;
      looks = omega (arith, c.in_ok-whole.ensures.looks, c.in_ok-rank-2.ensures.taken, c.in_ok-rank-2.ensures.looks, c.loop-whole.invariant.looks, c.in_ok-look-2.ensures.looks, c.advance.ensures.looks);
      counted = omega (arith, c.in_ok-whole.ensures.looks, c.in_ok-rank-2.ensures.looks, c.loop-whole.invariant.counted, c.in_ok-look-2.ensures.looks, c.advance.ensures.looks);
    }

-- Another code unit follows.
pub returns-in-Some-2-2-clause-times : goal.returns-in-Some-2-2-clause-times
returns-in-Some-2-2-clause-times g c s dates =
    let read = group_read g (goal.at.returns-in-Some-2-2-clause-times g c).After-least_step in
    let found : seen reasons.AfterTimeGroups (map g.T.EncodingType.letter c.take_time_unit-in-loop-whole.new.cursor.rest) ≡ Ok (Some c.in-Some-2.byte) =
    cc (c.in_ok-look-2.ensures.letter, c.in-Some-2.is) in
    let other : digit c.in-Some-2.byte ≡ false = search rules in
    rw c.in_ok-look-2.ensures.rest (times_stop _ _ _ read _ _ _ refl found (λ begins none. absurd cc) s dates)
