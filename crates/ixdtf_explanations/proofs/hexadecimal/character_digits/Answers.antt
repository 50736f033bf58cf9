use Rattle.ixdtf_explanations.proofs.hexadecimal.character_digits.Goals as goal
use Rattle.std.proofs.Common.{◌≡◌, ◌<◌, ◌≤◌, ℕ, suc, ◌/◌, ◌%◌, true, cond, List, [], ◌∷◌, refl, ap, ◌∙◌, arith, ⊎_elim}
use Rattle.std.proofs.lemmas.{Bool.{ne_eqb, eq-eqb, cases_lt}, Fmt.{hex_one_digit, hex_two_digits}}
use Rattle.std.specs.Fmt.{digits, digits_onto, digit_glyph, padded_integral, char_count}
use Rattle.ixdtf_explanations.specs.Messages.{hex_text}

-- The last three digits of the number, and the last four.
abbrev last_three : ℕ → List ℕ
last_three n = digit_glyph true (n / 256 % 16) ∷ digit_glyph true (n / 16 % 16) ∷ digit_glyph true (n % 16) ∷ []

abbrev last_four : ℕ → List ℕ
last_four n = digit_glyph true (n / 4096 % 16) ∷ last_three n

-- If a number is at least 16, its last digit is written, and then the number without this digit.
last_digit : (k n : ℕ) (after : List ℕ) → 16 ≤ n → digits_onto (suc k) 16 true n after ≡ digits_onto k 16 true (n / 16) (digit_glyph true (n % 16) ∷ after)
last_digit k n after large =
    ap (λ b. cond b (digit_glyph true (n % 16) ∷ after) (digits_onto k 16 true (n / 16) (digit_glyph true (n % 16) ∷ after))) (ne_eqb (n / 16) 0 (λ e. omega arith))

-- A number below 16 has one digit.
only_digit : (k n : ℕ) (after : List ℕ) → n < 16 → digits_onto (suc k) 16 true n after ≡ digit_glyph true (n % 16) ∷ after
only_digit k n after small =
    ap (λ b. cond b (digit_glyph true (n % 16) ∷ after) (digits_onto k 16 true (n / 16) (digit_glyph true (n % 16) ∷ after))) (eq-eqb (n / 16) 0 (omega arith))

-- The last two, three or four digits are written, and then the number without them.
after_two : (n : ℕ) → 256 ≤ n → digits 16 true n ≡ digits_onto 62 16 true (n / 256) (digit_glyph true (n / 16 % 16) ∷ digit_glyph true (n % 16) ∷ [])
unfolding digits
after_two n large =
    let next : n / 16 / 16 ≡ n / 256 = omega arith in
    last_digit 63 n [] (omega arith) ∙ last_digit 62 (n / 16) _ (omega arith)
    ∙ ap (λ m. digits_onto 62 16 true m (digit_glyph true (n / 16 % 16) ∷ digit_glyph true (n % 16) ∷ [])) next

after_three : (n : ℕ) → 4096 ≤ n → digits 16 true n ≡ digits_onto 61 16 true (n / 4096) (last_three n)
after_three n large =
    let next : n / 256 / 16 ≡ n / 4096 = omega arith in
    after_two n (omega arith) ∙ last_digit 61 (n / 256) _ (omega arith) ∙ ap (λ m. digits_onto 61 16 true m (last_three n)) next

after_four : (n : ℕ) → 65536 ≤ n → digits 16 true n ≡ digits_onto 60 16 true (n / 65536) (last_four n)
after_four n large =
    let next : n / 4096 / 16 ≡ n / 65536 = omega arith in
    after_three n (omega arith) ∙ last_digit 60 (n / 4096) (last_three n) (omega arith)
    ∙ ap (λ m. digits_onto 60 16 true m (last_four n)) next

-- These are all digits of a number with three to six digits.
three_digits : (n : ℕ) → 256 ≤ n → n < 4096 → digits 16 true n ≡ last_three n
three_digits n large small = after_two n large ∙ only_digit 61 (n / 256) _ (omega arith)

four_digits : (n : ℕ) → 4096 ≤ n → n < 65536 → digits 16 true n ≡ last_four n
four_digits n large small = after_three n large ∙ only_digit 60 (n / 4096) (last_three n) (omega arith)

five_digits : (n : ℕ) → 65536 ≤ n → n < 1048576 → digits 16 true n ≡ digit_glyph true (n / 65536 % 16) ∷ last_four n
five_digits n large small = after_four n large ∙ only_digit 59 (n / 65536) _ (omega arith)

six_digits : (n : ℕ) → 1048576 ≤ n → n < 16777216 → digits 16 true n ≡ digit_glyph true (n / 1048576 % 16) ∷ digit_glyph true (n / 65536 % 16) ∷ last_four n
six_digits n large small =
    let next : n / 65536 / 16 ≡ n / 1048576 = omega arith in
    after_four n (omega arith) ∙ last_digit 59 (n / 65536) _ (omega arith) ∙ only_digit 58 (n / 65536 / 16) _ (omega arith)
    ∙ ap (λ m. digit_glyph true (m % 16) ∷ digit_glyph true (n / 65536 % 16) ∷ last_four n) next

-- Zeros are written before the digits of a number below 4,096.
text_of_four : (n : ℕ) → n < 65536 → hex_text 4 n ≡ last_four n
unfolding padded_integral char_count
text_of_four n small = ⊎_elim
    (λ one.
    let first : n / 4096 % 16 ≡ 0 = omega arith in
    let second : n / 256 % 16 ≡ 0 = omega arith in
    let third : n / 16 % 16 ≡ 0 = omega arith in
    let fourth : n % 16 ≡ n = omega arith in
    rw (hex_one_digit true n one, first, second, third, fourth))
    (λ more. ⊎_elim
    (λ two.
    let first : n / 4096 % 16 ≡ 0 = omega arith in
    let second : n / 256 % 16 ≡ 0 = omega arith in
    let third : n / 16 % 16 ≡ n / 16 = omega arith in
    rw (hex_two_digits true n more two, first, second, third))
    (λ large. ⊎_elim
    (λ three. let first : n / 4096 % 16 ≡ 0 = omega arith in rw (three_digits n large three, first))
    (λ four. rw (four_digits n four small))
    (cases_lt n 4096))
    (cases_lt n 256))
    (cases_lt n 16)

-- No zero is written before the digits of a greater number.
text_of_five : (n : ℕ) → 65536 ≤ n → n < 1048576 → hex_text 4 n ≡ digit_glyph true (n / 65536 % 16) ∷ last_four n
unfolding padded_integral char_count
text_of_five n large small = rw (five_digits n large small)

text_of_six : (n : ℕ) → 1048576 ≤ n → n < 16777216 → hex_text 4 n ≡ digit_glyph true (n / 1048576 % 16) ∷ digit_glyph true (n / 65536 % 16) ∷ last_four n
unfolding padded_integral char_count
text_of_six n large small = rw (six_digits n large small)

pub returns-in-0-to-65535-clause-digits : goal.returns-in-0-to-65535-clause-digits
returns-in-0-to-65535-clause-digits c =
    rw (
      c.last_digit-3.ensures,
      c.last_digit-4.ensures,
      c.last_digit-5.ensures,
      c.last_digit-6.ensures,
      c.from-number.ensures,
      text_of_four c.args.character (omega arith),
    ) refl

pub returns-in-65536-to-1048575-clause-digits : goal.returns-in-65536-to-1048575-clause-digits
returns-in-65536-to-1048575-clause-digits c =
    rw (
      c.last_digit-2.ensures,
      c.last_digit-3.ensures,
      c.last_digit-4.ensures,
      c.last_digit-5.ensures,
      c.last_digit-6.ensures,
      c.from-number.ensures,
      text_of_five c.args.character (omega arith) (omega arith),
    ) refl

pub returns-in_default-clause-digits : goal.returns-in_default-clause-digits
returns-in_default-clause-digits c =
    rw (
      c.last_digit.ensures,
      c.last_digit-2.ensures,
      c.last_digit-3.ensures,
      c.last_digit-4.ensures,
      c.last_digit-5.ensures,
      c.last_digit-6.ensures,
      c.from-number.ensures,
      text_of_six c.args.character (omega arith) (omega arith),
    ) refl
