use Rattle.ixdtf_times.proofs.time.count_more_digits.Goals as goal
use Rattle.std.proofs.Common.{◌≡◌, map, Some, None, Ok, false, ap, arith, rules}
use Rattle.ixdtf_grammar.specs.language.Letters.{digit}
use Rattle.ixdtf_reading.specs.reading.Looks.{seen}
use Rattle.ixdtf_reading.proofs.{code.FractionLoop.{begins, goes_on, ends_at_other, ends_at_end, fails, one_taken}, parts.GrowingDigits.grown_by_count}
use Rattle.ixdtf_times.proofs.time.count_more_digits.Goals.{in-Some+then-not-is_ascii_digit, in_default}

pub loop-byte-init : goal.loop-byte-init
loop-byte-init g c = record {
  far = λ front is. begins front _ _ is;
  long = c.requires.long;
  looks = omega arith;
  counted = omega arith;
}

pub loop-byte-smaller : goal.loop-byte-smaller
loop-byte-smaller g c =
    let off = one_taken {letter = g.T.EncodingType.letter} c.in_ok-byte.ensures.letter c.in-Some.is c.in_ok-byte.ensures.rest c.advance.ensures.rest in
    omega arith

pub loop-byte-preserved : goal.loop-byte-preserved
loop-byte-preserved g c =
    let off = one_taken {letter = g.T.EncodingType.letter} c.in_ok-byte.ensures.letter c.in-Some.is c.in_ok-byte.ensures.rest c.advance.ensures.rest in
    record {
      far = λ front is. goes_on _ _ _ _ _ _ _ _ (c.loop-byte.invariant.far front is) off.found (search rules) off.left
          (grown_by_count _ _ _ c.loop-byte.invariant.long c.with_more-fraction.ensures);
      long = omega (arith, c.loop-byte.invariant.long, ap (λ f. f.count) c.with_more-fraction.ensures);
      looks = omega (arith, c.loop-byte.invariant.looks);
      counted = omega (arith, c.loop-byte.invariant.counted, c.in_ok-byte.ensures.looks, c.advance.ensures.looks);
    }

pub returns-in_err-byte-clause-fraction : goal.returns-in_err-byte-clause-fraction
returns-in_err-byte-clause-fraction g c = λ front is.
    let failed = fails _ _ _ _ _ (c.loop-byte.invariant.far front is) c.in_err-byte.ensures.letter in
    search rules

pub returns-clause-fraction : goal.returns-clause-fraction
returns-clause-fraction g c = λ front is.
    let far = c.loop-byte.invariant.far front is in
    elim c.match-branch-2.branch [
      | in-Some+then-not-is_ascii_digit w ↦
          let found : seen c.args.stop (map g.T.EncodingType.letter c.loop-byte.cursor.rest) ≡ Ok (Some w.in-Some.byte) =
          cc (c.in_ok-byte.ensures.letter, w.in-Some.is) in
          let is : digit w.in-Some.byte ≡ false = search rules in
          rw c.in_ok-byte.ensures.rest (ends_at_other _ _ _ _ _ _ far found is)
      | in_default w ↦
          let over : seen c.args.stop (map g.T.EncodingType.letter c.loop-byte.cursor.rest) ≡ Ok None =
          cc (c.in_ok-byte.ensures.letter, w.in_default.is) in
          rw c.in_ok-byte.ensures.rest (ends_at_end _ _ _ _ _ far over)
    ]
