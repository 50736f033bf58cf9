use Rattle.ixdtf_explanations.proofs.hexadecimal.byte_digits.Goals as goal
use Rattle.std.proofs.Common.{◌≡◌, ◌<◌, ℕ, ◌/◌, ◌%◌, true, [], ◌∷◌, arith}
use Rattle.std.proofs.lemmas.Fmt.{hex_byte}
use Rattle.std.specs.Fmt.{digit_glyph}
use Rattle.ixdtf_explanations.specs.Messages.{hex_text}

-- The digits of a byte are those of its quotient and of its remainder.
two_digits : (n : ℕ) → n < 256 → digit_glyph true (n / 16 % 16) ∷ digit_glyph true (n % 16) ∷ [] ≡ hex_text 2 n
two_digits n small = let same : n / 16 % 16 ≡ n / 16 = omega arith in rw (same, hex_byte true n small)

pub returns : goal.returns
returns c = rw (c.last_digit.ensures, c.last_digit-2.ensures, c.from-number.ensures) (two_digits c.args.byte (omega arith))
