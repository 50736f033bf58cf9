use Rattle.ixdtf_print.proofs.numbers.put_below_100.Goals as goal
use Rattle.std.proofs.Common.{ℕ, ◌≡◌, ◌+◌, ◌∷◌, [], ap, ◌∙◌, sym, arith}
use Rattle.ixdtf.specs.language.Letters.{Letter.Plain}
use Rattle.ixdtf_print.specs.Durations.{number_text}
use Rattle.ixdtf_print.proofs.code.PlainNumbers.{one_digit_is, two_digits_are}

one_is : (number ones : ℕ) → number_text number ≡ Plain (48 + number) ∷ [] → ones ≡ 48 + number → number_text number ≡ Plain ones ∷ []
one_is number ones is same = is ∙ ap (λ n. Plain n ∷ []) (sym same)

pub put_byte-requires : goal.put_byte-requires
put_byte-requires c =
    let is = one_is c.args.number c.ones_digit.result (one_digit_is c.args.number c.if-number-lt10.true) (omega (arith, c.ones_digit.ensures)) in
    rw is at c.requires.room

pub returns-then-number-lt10 : goal.returns-then-number-lt10
returns-then-number-lt10 c =
    let is = one_is c.args.number c.ones_digit.result (one_digit_is c.args.number c.if-number-lt10.true) (omega (arith, c.ones_digit.ensures)) in
    rw is c.put_byte.ensures

pub put-requires : goal.put-requires
put-requires c =
    let is = two_digits_are c.args.number _ _ c.if-number-lt10.false c.requires.small c.tens_digit.ensures c.ones_digit-2.ensures in
    rw is at c.requires.room

pub returns : goal.returns
returns c =
    let is = two_digits_are c.args.number _ _ c.if-number-lt10.false c.requires.small c.tens_digit.ensures c.ones_digit-2.ensures in
    rw is c.put.ensures
