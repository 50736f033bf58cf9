-- Digits: the numbers that they stand for, and the digits of a number.
use Rattle.std.specs.Prelude.{◌≡◌, ℕ, zero, suc, ◌+◌, ◌-◌, ◌*◌, ◌/◌, ◌%◌, ◌^◌, ◌≤◌, [], ◌∷◌, length}
use Rattle.ixdtf_grammar.specs.language.{Letters.{Letter, Text, Letter.{Plain, Bad}}, Shapes.digits}

-- This is the value of one digit.
abbrev pub digit_value : Letter → ℕ
digit_value (Plain c) = c - 48
digit_value Bad = 0

-- This is the number that the digits stand for in decimal notation.
abbrev pub decimal : Text → ℕ
decimal [] = 0
decimal (c ∷ rest) = digit_value c * 10 ^ length rest + decimal rest

-- These are the last `count` digits of a number, with leading zeros.
abbrev pub padded_digits : ℕ → ℕ → Text
padded_digits zero number = []
padded_digits (suc count) number = Plain (48 + number / 10 ^ count % 10) ∷ padded_digits count number

-- The text has two digits, and they stand for the number.
abbrev pub TwoDigits : Text → ℕ → Type 0
TwoDigits text n = digits 2 text × (n ≡ decimal text)

-- The text has two digits, and they stand for the number, which is at most `greatest`.
abbrev pub UpTo : ℕ → Text → ℕ → Type 0
UpTo greatest text n = digits 2 text × (n ≡ decimal text) × (n ≤ greatest)
