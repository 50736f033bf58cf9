use Rattle.ixdtf_reading.proofs.cursor.Cursor.two_digits.Goals as goal
use Rattle.std.proofs.{Common.{rules, IsTrue, IsFalse, ◌∙◌, ◌<◌, List, ℕ, length, map, refl, ap, arith}, lemmas.List.{drop-map, length-map}}
use Rattle.ixdtf_grammar.specs.language.Letters.{digit}
use Rattle.ixdtf_grammar.specs.Views.{Unread}
use Rattle.ixdtf_reading.specs.reading.FixedPlaces.{byte_place}
use Rattle.ixdtf_reading.proofs.code.TwoDigits.{no_first, no_second, both, short_second, are_written, value_is}

pub returns-then-not-is_ascii_digit-clause-digits : goal.returns-then-not-is_ascii_digit-clause-digits
returns-then-not-is_ascii_digit-clause-digits g c =
    let none : IsFalse (digit c.byte_at.result) = search rules in
    no_first c.args.first c.args.second _ (rw (← c.byte_at.ensures.there) none) ∙ rw c.byte_at.ensures.rest refl

pub returns-then-self-lt2-clause-digits : goal.returns-then-self-lt2-clause-digits
returns-then-self-lt2-clause-digits g c =
    let is : IsTrue (digit c.byte_at.result) = search rules in
    let short : length (map g.T.EncodingType.letter c.args.self.now.rest) < 2 = omega (
      arith,
      length-map c.args.self.now.rest g.T.EncodingType.letter,
      ap (λ (u : Unread). length u.rest) c.self.view_is,
      length-map c.self.inside.rest.now g.T.EncodingType.number,
    ) in
    short_second c.args.first c.args.second _ short (rw (← c.byte_at.ensures.there) is) ∙ rw (c.advance.ensures.letters, c.byte_at.ensures.rest) refl

pub returns-then-number-le99-clause-digits : goal.returns-then-number-le99-clause-digits
returns-then-number-le99-clause-digits g c =
    let digits = c.two_digit_number-number.ensures.digits c.if-number-le99.true in
    let ones = rw c.byte_at-tens.ensures.rest at c.byte_at-ones.ensures.there in
    let number = are_written c.byte_at-tens.result c.byte_at-ones.result digits.0 digits.1 in
    both c.args.first c.args.second _ (rw (← c.byte_at-tens.ensures.there) digits.0) (rw (← ones) digits.1)
    ∙ rw (drop-map g.T.EncodingType.letter 2 c.args.self.now.rest, c.two_digit_number-number.ensures.value, number, ← c.byte_at-tens.ensures.there, ← ones, c.advance_by.ensures.rest, c.byte_at-ones.ensures.rest, c.byte_at-tens.ensures.rest) refl

pub returns-then-not-is_ascii_digit-2-clause-digits : goal.returns-then-not-is_ascii_digit-2-clause-digits
returns-then-not-is_ascii_digit-2-clause-digits g c =
    let none : IsFalse (digit c.byte_at-tens.result) = search rules in
    no_first c.args.first c.args.second _ (rw (← c.byte_at-tens.ensures.there) none) ∙ rw (c.byte_at-ones.ensures.rest, c.byte_at-tens.ensures.rest) refl

pub returns-clause-digits : goal.returns-clause-digits
returns-clause-digits g c =
    let tens : IsTrue (digit c.byte_at-tens.result) = search rules in
    let none : IsFalse (digit c.byte_at-ones.result) = search rules in
    let ones = rw c.byte_at-tens.ensures.rest at c.byte_at-ones.ensures.there in
    no_second c.args.first c.args.second _ (rw (← c.byte_at-tens.ensures.there) tens) (rw (← ones) none)
    ∙ rw (c.advance-2.ensures.letters, c.byte_at-ones.ensures.rest, c.byte_at-tens.ensures.rest) refl

pub returns-then-number-le99-clause-value : goal.returns-then-number-le99-clause-value
returns-then-number-le99-clause-value g c = value_is c.two_digit_number-number.result (omega (arith, c.if-number-le99.true))
