-- Numbers without leading zeros.
use Rattle.std.proofs.Common.{zero, append-nil, append_assoc, ℕ, Bool, true, false, nat_le, suc, ◌+◌, ◌-◌, ◌*◌, ◌/◌, ◌%◌, ◌^◌, ◌<◌, ◌≤◌, ◌≡◌, List, [], ◌∷◌, ◌++◌, map, length, refl, sym, ◌∙◌, ap, arith, subst}
use Rattle.std.proofs.{Math.Nat.{div-one, div-div-eq-div-mul, pow-succ', pow-le-pow_right}, lemmas.{Nat.pow-add, Bool.{leb-true, Decides.nat_tests}, List.{length-append, length-map, map-append}, Fmt.{decimal_digit, decimal_step, decimal_by_steps, decimal_nonempty, length-decimal-le}}}
use Rattle.std.specs.Fmt.{decimal}
use Rattle.ixdtf.specs.language.{Letters.{Letter, Text, Letter.Plain}, Shapes.digits, Digits.{decimal as decimal_of, padded_digits}}
use Rattle.ixdtf.specs.language.{Fractions.SomeDigits, Durations.{Number, greatest_value}}
use Rattle.ixdtf_grammar.proofs.PaddedDigits.{decimal-whole, ten_pos}
use Rattle.ixdtf_print.specs.Durations.{number_text}
use Rattle.ixdtf_print.proofs.{code.DigitLoop.last_digit, parts.PaddedDigits.padded_are, parts.DerivedDates.decimal_below}

-- A number below 10 has one padded digit: the number itself.
one_padded : (n : ℕ) → n < 10 → padded_digits 1 n ≡ map Plain ((48 + n) ∷ [])
one_padded n small = let same : 48 + n / 1 % 10 ≡ 48 + n = omega arith in ap (λ c. Plain c ∷ []) same

one_more_digit : (n : ℕ) (ds : List ℕ) → 10 ≤ n → padded_digits (length ds) (n / 10) ≡ map Plain ds
    → padded_digits (length (ds ++ ((48 + n % 10) ∷ []))) n ≡ map Plain (ds ++ ((48 + n % 10) ∷ []))
one_more_digit n ds big h =
    let spell : ℕ → Letter = λ n. Plain n in
    let longer : length (ds ++ ((48 + n % 10) ∷ [])) ≡ suc (length ds) = omega (arith, length-append ds ((48 + n % 10) ∷ [])) in
    ap (λ k. padded_digits k n) longer ∙ last_digit (length ds) n ∙ ap (λ t. t ++ (Plain (48 + n % 10) ∷ [])) h
    ∙ sym (map-append spell ds ((48 + n % 10) ∷ []))

pub padded-decimal : (n : ℕ) → n < 2 ^ 64 → padded_digits (length (decimal n)) n ≡ number_text n
padded-decimal = decimal_by_steps (λ m ds. padded_digits (length ds) m ≡ map Plain ds) one_padded one_more_digit

pub number_long : (n : ℕ) → length (number_text n) ≡ length (decimal n)
number_long n = let spell : ℕ → Letter = λ n. Plain n in length-map (decimal n) spell

pub one_digit_is : (n : ℕ) → n < 10 → number_text n ≡ Plain (48 + n) ∷ []
one_digit_is n small = ap (λ (l : List ℕ). map Plain l) (decimal_digit n small)

-- ---- the number of digits

ten_times : (n : ℕ) (ds : List ℕ) → 10 ≤ n → n / 10 < 10 ^ length ds → n < 10 ^ length (ds ++ ((48 + n % 10) ∷ []))
ten_times n ds big h =
    let longer : length (ds ++ ((48 + n % 10) ∷ [])) ≡ suc (length ds) = omega (arith, length-append ds ((48 + n % 10) ∷ [])) in
    rw (longer, pow-succ' 10 (length ds)) (omega arith)

pub below_power : (n : ℕ) → n < 2 ^ 64 → n < 10 ^ length (decimal n)
below_power = decimal_by_steps (λ m ds. m < 10 ^ length ds) (λ m small. small) ten_times

-- The greatest power of ten that is not above the number gives the number of digits.
pub counted : (n k : ℕ) → 10 ^ k ≤ n → n < 10 * 10 ^ k → n < 2 ^ 64 → length (number_text n) ≡ k + 1
counted n k from to small = by_test (nat_le (length (decimal n)) k) refl
  where
    by_test : (b : Bool) → nat_le (length (decimal n)) k ≡ b → length (number_text n) ≡ k + 1
    by_test true h = absurd (omega (arith, below_power n small, pow-le-pow_right {n = 10} (omega arith) (leb-true _ _ h)))
    by_test false h =
        let more : k < length (decimal n) = grind (arith, nat_tests, h) in
        omega (arith, more, number_long n, length-decimal-le (suc k) n (omega arith) (rw (pow-succ' 10 k) (omega arith)) small)

-- A number has at most as many digits as any text of digits for this number.
pub no_longer : (k n : ℕ) (text : Text) → digits (suc k) text → n ≡ decimal_of text → n < 2 ^ 64 → length (number_text n) ≤ suc k
no_longer k n text d is small =
    omega (arith, number_long n, length-decimal-le (suc k) n (omega arith) (rw is (decimal_below (suc k) text d)) small)

-- ---- the first digits, and the last ones

pub number_split : (k n : ℕ) → 10 ^ k ≤ n → n < 2 ^ 64 → number_text n ≡ number_text (n / 10 ^ k) ++ padded_digits k n
number_split zero n from small = rw (div-one, append-nil) refl
number_split (suc k) n from small =
    let spell : ℕ → Letter = λ n. Plain n in
    let power : 10 * 10 ^ k ≤ n = rw pow-succ' at from in
    let one : 1 ≤ 10 ^ k = ten_pos k in
    let step : number_text n ≡ number_text (n / 10) ++ (Plain (48 + n % 10) ∷ [])
    = ap (map spell) (decimal_step n (omega arith) small) ∙ map-append spell (decimal (n / 10)) ((48 + n % 10) ∷ []) in
    let front : number_text (n / 10) ≡ number_text (n / 10 / 10 ^ k) ++ padded_digits k (n / 10) = number_split k (n / 10) (omega arith) (omega arith) in
    let twice : n / 10 / 10 ^ k ≡ n / 10 ^ suc k = div-div-eq-div-mul n 10 (10 ^ k) ∙ ap (λ p. n / p) (sym (pow-succ' 10 k)) in
    step ∙ ap (λ t. t ++ (Plain (48 + n % 10) ∷ [])) (front ∙ ap (λ m. number_text m ++ padded_digits k (n / 10)) twice)
    ∙ append_assoc (number_text (n / 10 ^ suc k)) (padded_digits k (n / 10)) (Plain (48 + n % 10) ∷ [])
    ∙ ap (λ t. number_text (n / 10 ^ suc k) ++ t) (sym (last_digit k n))

pub two_digits_are : (n tens ones : ℕ) → 10 ≤ n → n < 100 → tens ≡ 48 + n / 10 % 10 → ones ≡ 48 + n % 10 → number_text n ≡ Plain tens ∷ (Plain ones ∷ [])
two_digits_are n tens ones from to t o =
    let small : n < 2 ^ 64 = omega arith in
    let first : 48 + n / 10 ≡ tens = omega arith in
    let last : 48 + n / 1 % 10 ≡ ones = omega arith in
    number_split 1 n from small ∙ rw (one_digit_is (n / 10) (omega arith)) (λ i. Plain (first i) ∷ (Plain (last i) ∷ []))

-- The rest of a division gives the last two digits.
last_two : (n rest tens ones : ℕ) → 100 ≤ n → n < 2 ^ 64 → rest ≡ n % 100 → tens ≡ 48 + rest / 10 % 10 → ones ≡ 48 + rest % 10
    → number_text n ≡ number_text (n / 100) ++ (Plain tens ∷ (Plain ones ∷ []))
last_two n rest tens ones from small is t o =
    let first : 48 + n / 10 % 10 ≡ tens = omega arith in
    let last : 48 + n / 1 % 10 ≡ ones = omega arith in
    number_split 2 n from small ∙ (λ i. number_text (n / 100) ++ (Plain (first i) ∷ (Plain (last i) ∷ [])))

-- A number of three digits.
pub three_digits_are : (n rest first tens ones : ℕ) → 100 ≤ n → n < 1000 → first ≡ 48 + n / 100 % 10 → rest ≡ n % 100 → tens ≡ 48 + rest / 10 % 10
    → ones ≡ 48 + rest % 10 → number_text n ≡ (Plain first ∷ []) ++ (Plain tens ∷ (Plain ones ∷ []))
three_digits_are n rest first tens ones from to f is t o =
    let same : 48 + n / 100 ≡ first = omega arith in
    last_two n rest tens ones from (omega arith) is t o ∙ ap (λ text. text ++ (Plain tens ∷ (Plain ones ∷ []))) (one_digit_is (n / 100) (omega arith))
    ∙ (λ i. Plain (same i) ∷ (Plain tens ∷ (Plain ones ∷ [])))

-- A number of four digits has no leading zeros.
pub four_digits_are : (n : ℕ) → 1000 ≤ n → n < 10000 → number_text n ≡ padded_digits 4 n
four_digits_are n from to =
    let same : 48 + n / 1000 ≡ 48 + n / 1000 % 10 = omega arith in
    number_split 3 n from (omega arith) ∙ ap (λ text. text ++ padded_digits 3 n) (one_digit_is (n / 1000) (omega arith))
    ∙ (λ i. Plain (same i) ∷ padded_digits 3 n)

-- ---- padded digits in pieces

padded_append : (a b k n : ℕ) → k ≡ a + b → padded_digits k n ≡ padded_digits a (n / 10 ^ b) ++ padded_digits b n
padded_append zero b k n e = let same : k ≡ b = omega arith in ap (λ j. padded_digits j n) same
padded_append (suc a) b zero n e = absurd (omega arith)
padded_append (suc a) b (suc k) n e =
    let less : k ≡ b + a = omega arith in
    let front : n / 10 ^ k ≡ n / 10 ^ b / 10 ^ a = ap (λ j. n / 10 ^ j) less ∙ ap (λ p. n / p) (pow-add 10 b a) ∙ sym (div-div-eq-div-mul n (10 ^ b) (10 ^ a)) in
    let rest : padded_digits k n ≡ padded_digits a (n / 10 ^ b) ++ padded_digits b n = padded_append a b k n (omega arith) in
    λ i. Plain (48 + front i % 10) ∷ rest i

-- The last four digits are those of the rest of a division by 10,000.
four_rest : (n : ℕ) → padded_digits 4 n ≡ padded_digits 4 (n % 10000)
four_rest n =
    let first : 48 + n / 1000 % 10 ≡ 48 + n % 10000 / 1000 % 10 = omega arith in
    let second : 48 + n / 100 % 10 ≡ 48 + n % 10000 / 100 % 10 = omega arith in
    let third : 48 + n / 10 % 10 ≡ 48 + n % 10000 / 10 % 10 = omega arith in
    let last : 48 + n / 1 % 10 ≡ 48 + n % 10000 / 1 % 10 = omega arith in
    λ i. Plain (first i) ∷ (Plain (second i) ∷ (Plain (third i) ∷ (Plain (last i) ∷ [])))

pub eight_split : (n : ℕ) → padded_digits 8 n ≡ padded_digits 4 (n / 10000) ++ padded_digits 4 (n % 10000)
eight_split n = padded_append 4 4 8 n refl ∙ ap (λ t. padded_digits 4 (n / 10000) ++ t) (four_rest n)

eight_rest : (n : ℕ) → padded_digits 8 n ≡ padded_digits 8 (n % 100000000)
eight_rest n =
    let front : n / 10000 % 10000 ≡ n % 100000000 / 10000 % 10000 = omega arith in
    let rest : n % 10000 ≡ n % 100000000 % 10000 = omega arith in
    let first : padded_digits 4 (n / 10000) ≡ padded_digits 4 (n % 100000000 / 10000) =
    four_rest (n / 10000) ∙ ap (λ m. padded_digits 4 m) front ∙ sym (four_rest (n % 100000000 / 10000))
    in
    eight_split n ∙ (λ i. first i ++ padded_digits 4 (rest i)) ∙ sym (eight_split (n % 100000000))

-- The digits of the first two of four digits, and of the last two.
pub four_written : (n hundreds ones a b c d : ℕ) → hundreds ≡ n / 100 → ones ≡ n % 100 → a ≡ 48 + hundreds / 10 % 10 → b ≡ 48 + hundreds % 10
    → c ≡ 48 + ones / 10 % 10 → d ≡ 48 + ones % 10 → padded_digits 4 n ≡ Plain a ∷ (Plain b ∷ (Plain c ∷ (Plain d ∷ [])))
four_written n hundreds ones a b c d h o ia ib ic id =
    let first : 48 + n / 1000 % 10 ≡ a = omega arith in
    let second : 48 + n / 100 % 10 ≡ b = omega arith in
    let third : 48 + n / 10 % 10 ≡ c = omega arith in
    let last : 48 + n / 1 % 10 ≡ d = omega arith in
    λ i. Plain (first i) ∷ (Plain (second i) ∷ (Plain (third i) ∷ (Plain (last i) ∷ [])))

-- The four pairs of eight digits.
pub eight_written : (n first second third fourth a b c d e f g h : ℕ) → first ≡ n / 1000000 → second ≡ n % 1000000 / 10000
    → third ≡ n % 1000000 % 10000 / 100 → fourth ≡ n % 1000000 % 10000 % 100 → a ≡ 48 + first / 10 % 10 → b ≡ 48 + first % 10 → c ≡ 48 + second / 10 % 10
    → d ≡ 48 + second % 10 → e ≡ 48 + third / 10 % 10 → f ≡ 48 + third % 10 → g ≡ 48 + fourth / 10 % 10 → h ≡ 48 + fourth % 10
    → padded_digits 8 n ≡ Plain a ∷ (Plain b ∷ (Plain c ∷ (Plain d ∷ (Plain e ∷ (Plain f ∷ (Plain g ∷ (Plain h ∷ [])))))))
eight_written n first second third fourth a b c d e f g h one two three four ia ib ic id ie if_ ig ih =
    let front = four_written (n / 10000) first second a b c d (omega arith) (omega arith) ia ib ic id in
    let rest = four_written (n % 10000) third fourth e f g h (omega arith) (omega arith) ie if_ ig ih in
    eight_split n ∙ (λ i. front i ++ rest i)

-- The last sixteen digits are twice eight digits.
pub last_sixteen : (n : ℕ) → 10000000000000000 ≤ n → n < 2 ^ 64 → number_text n ≡ number_text (n / 10000000000000000)
    ++ (padded_digits 8 (n % 10000000000000000 / 100000000) ++ padded_digits 8 (n % 10000000000000000 % 100000000))
last_sixteen n from small =
    let front : n / 100000000 % 100000000 ≡ n % 10000000000000000 / 100000000 = omega arith in
    let rest : n % 100000000 ≡ n % 10000000000000000 % 100000000 = omega arith in
    let first : padded_digits 8 (n / 100000000) ≡ padded_digits 8 (n % 10000000000000000 / 100000000) =
    eight_rest (n / 100000000) ∙ ap (λ m. padded_digits 8 m) front
    in
    let last : padded_digits 8 n ≡ padded_digits 8 (n % 10000000000000000 % 100000000) = eight_rest n ∙ ap (λ m. padded_digits 8 m) rest in
    number_split 16 n from small ∙ ap (λ t. number_text (n / 10000000000000000) ++ t) (padded_append 8 8 16 n refl)
    ∙ (λ i. number_text (n / 10000000000000000) ++ (first i ++ last i))

pub last_four : (n : ℕ) → 10000 ≤ n → n < 2 ^ 64 → number_text n ≡ number_text (n / 10000) ++ padded_digits 4 (n % 10000)
last_four n from small = number_split 4 n from small ∙ ap (λ t. number_text (n / 10000) ++ t) (four_rest n)

pub last_eight : (n : ℕ) → 100000000 ≤ n → n < 2 ^ 64 → number_text n ≡ number_text (n / 100000000) ++ padded_digits 8 (n % 100000000)
last_eight n from small = number_split 8 n from small ∙ ap (λ t. number_text (n / 100000000) ++ t) (eight_rest n)

-- ---- what they stand for

number_is : (n : ℕ) → n < 2 ^ 64 → n ≡ decimal_of (number_text n)
number_is n small = sym (ap decimal_of (sym (padded-decimal n small)) ∙ decimal-whole (length (decimal n)) n (below_power n small))

some_digits : (n : ℕ) → n < 2 ^ 64 → SomeDigits (number_text n)
some_digits n small =
    let more : length (decimal n) ≡ suc (length (decimal n) - 1) = omega (arith, decimal_nonempty n small) in (
      length (decimal n) - 1,
      subst (λ t. digits (suc (length (decimal n) - 1)) t) (padded-decimal n small)
          (subst (λ k. digits k (padded_digits (length (decimal n)) n)) more (padded_are (length (decimal n)) n)),
    )

pub is_number : (n : ℕ) → n < 2 ^ 64 → Number (number_text n) n
unfolding greatest_value
is_number n small = (some_digits n small, number_is n small, omega arith)
