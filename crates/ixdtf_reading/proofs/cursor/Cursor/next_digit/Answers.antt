use Rattle.ixdtf_reading.proofs.cursor.Cursor.next_digit.Goals as goal
use Rattle.std.proofs.Common.{rules, IsTrue, IsFalse, ◌∙◌, refl}
use Rattle.ixdtf_grammar.specs.language.Letters.{digit}
use Rattle.ixdtf_reading.proofs.code.FirstBytes.{taken, refused}

pub returns-then-is_ascii_digit-clause-digit : goal.returns-then-is_ascii_digit-clause-digit
returns-then-is_ascii_digit-clause-digit g c =
    let is : IsTrue (digit c.byte_at-byte.result) = search rules in
    taken digit refl c.args.stop _ (rw (← c.byte_at-byte.ensures.there) is)
    ∙ rw (← c.byte_at-byte.ensures.there, c.advance.ensures.letters, c.byte_at-byte.ensures.rest) refl

pub returns-clause-digit : goal.returns-clause-digit
returns-clause-digit g c =
    let none : IsFalse (digit c.byte_at-byte.result) = search rules in
    refused digit refl c.args.stop _ (rw (← c.byte_at-byte.ensures.there) none) ∙ rw c.byte_at-byte.ensures.rest refl
