use Rattle.ixdtf_times.proofs.time.parse_more_digits.Goals as goal
use Rattle.std.proofs.{Common.{◌≡◌, [], ◌∷◌, ◌∙◌, sym, map, Some, None, Ok, false, arith, rules}, lemmas.Bool.leb-true}
use Rattle.ixdtf_grammar.specs.language.Letters.{digit, Letter.Plain}
use Rattle.ixdtf_reading.specs.reading.{Looks.seen, Clauses.more_digits_at}
use Rattle.ixdtf_reading.proofs.{code.FractionLoop.{goes_on, hands_on, ends_at_other, ends_at_end, fails, one_taken}, parts.GrowingDigits.grown_by_digit}
use Rattle.ixdtf_times.proofs.{time.parse_more_digits.Goals.{in_default-via-in-Some+else-is_ascii_digit, in_default-via-in_default}}
use Rattle.ixdtf_reading.proofs.code.FixedPlaces.{reads_on}

pub loop-cursor-smaller : goal.loop-cursor-smaller
loop-cursor-smaller g c =
    let off = one_taken {letter = g.T.EncodingType.letter} c.in_ok-byte.ensures.letter c.in-Some.is c.in_ok-byte.ensures.rest c.advance.ensures.rest in
    omega arith

pub loop-cursor-preserved : goal.loop-cursor-preserved
loop-cursor-preserved g c =
    let off = one_taken {letter = g.T.EncodingType.letter} c.in_ok-byte.ensures.letter c.in-Some.is c.in_ok-byte.ensures.rest c.advance.ensures.rest in
    record {
      far = goes_on _ _ _ _ _ _ _ _ c.loop-cursor.invariant.far off.found (search rules) off.left
          (grown_by_digit _ _ _ (omega (arith, leb-true _ 17 (sym c.is_short.ensures ∙ c.loop-cursor-test.true))) c.with_digit-digits.ensures);
      looks = omega (arith, c.loop-cursor.invariant.looks);
      counted = omega (arith, c.loop-cursor.invariant.counted, c.in_ok-byte.ensures.looks, c.advance.ensures.looks);
    }

pub returns-in_err-byte-clause-fraction : goal.returns-in_err-byte-clause-fraction
returns-in_err-byte-clause-fraction g c =
    let failed = fails _ _ _ _ _ c.loop-cursor.invariant.far c.in_err-byte.ensures.letter in
    search rules

pub returns-in_default-clause-fraction : goal.returns-in_default-clause-fraction
returns-in_default-clause-fraction g c =
    let far = c.loop-cursor.invariant.far in
    elim c.in_default.branch [
      | in_default-via-in-Some+else-is_ascii_digit w ↦
          let found : seen c.args.stop (map g.T.EncodingType.letter c.loop-cursor.cursor.rest) ≡ Ok (Some w.in-Some.byte) =
          cc (c.in_ok-byte.ensures.letter, w.in-Some.is) in
          let is : digit w.in-Some.byte ≡ false = search rules in
          rw (c.fraction.ensures, c.in_ok-byte.ensures.rest) (ends_at_other _ _ _ _ _ _ far found is)
      | in_default-via-in_default w ↦
          let over : seen c.args.stop (map g.T.EncodingType.letter c.loop-cursor.cursor.rest) ≡ Ok None =
          cc (c.in_ok-byte.ensures.letter, w.in_default.is) in
          rw (c.fraction.ensures, c.in_ok-byte.ensures.rest) (ends_at_end _ _ _ _ _ far over)
    ]

pub returns-clause-fraction : goal.returns-clause-fraction
returns-clause-fraction g c =
    let far = c.loop-cursor.invariant.far in
    let front = Plain c.args.first ∷ [] in
    let more = Plain c.args.first ∷ far.ds in
    reads_on g.T.EncodingType.letter (λ fraction. fraction) c.args.cursor.now c.loop-cursor.cursor c.count_more_digits.new.cursor
    c.count_more_digits.result (more_digits_at c.args.stop front) (more_digits_at c.args.stop more) (hands_on front _ _ _ far) (c.count_more_digits.ensures.fraction more (c.fraction-2.ensures ∙ far.value))
