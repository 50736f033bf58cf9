-- The digits of a number are its first digits and its last digit.
use Rattle.std.proofs.Common.{◌≡◌, ℕ, ◌+◌, ◌<◌, ◌/◌, ◌%◌, ◌^◌, ◌==◌, ◌∷◌, [], ◌++◌, ap, ◌∙◌, false, ⊎_elim, arith}
use Rattle.std.proofs.lemmas.{Bool.{ne_eqb, cases_lt}, Fmt.{decimal_digit, decimal_step}}
use Rattle.std.specs.Fmt.{decimal}
use Rattle.ixdtf_checks.specs.Numbers.{first_digits}

pub last_digit : (least last : ℕ) → least % 10 ≡ 0 → last < 10 → least + last < 2 ^ 64
    → decimal (least + last) ≡ first_digits (least / 10) ++ (48 + last) ∷ []
last_digit least last tens small fits = ⊎_elim
    (λ one.
    let none : least / 10 ≡ 0 = omega arith in
    let same : least + last ≡ last = omega arith in
    rw (same, none) (decimal_digit last small))
    (λ more.
    let some : (least / 10 == 0) ≡ false = ne_eqb (least / 10) 0 (λ e. omega arith) in
    let front : (least + last) / 10 ≡ least / 10 = omega arith in
    let ones : (least + last) % 10 ≡ last = omega arith in
    rw some
    (decimal_step (least + last) (omega arith) fits
    ∙ ap (λ (m : ℕ). decimal m ++ (48 + (least + last) % 10) ∷ []) front ∙ ap (λ (d : ℕ). decimal (least / 10) ++ (48 + d) ∷ []) ones))
    (cases_lt least 10)
