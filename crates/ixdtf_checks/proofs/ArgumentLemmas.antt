-- Proves what the words after the name of the program mean.
use Rattle.std.proofs.Common.{◌≡◌, ◌≢◌, ℕ, zero, suc, ◌+◌, ◌<◌, ◌==◌, Bool, true, false, List, [], ◌∷◌, length, get_or, Option, Some, None, Result, Ok, Err, Bor, refl, sym, ap, subst, ◌∙◌, arith, ne_eqb, eqb-true}
use Rattle.std.proofs.lemmas.Str.Pattern.{IsSplitOnceResult, split_after}
use Rattle.std.specs.{Str.Parse.{AllDigits, ParsesUnsigned}, Char.digit_value, Option.MatchOption, Result.MatchResult}
use Rattle.ixdtf_checks.specs.{Arguments.{IsFieldsSetting, IsNoNumber, IsNumber}, Csv.IsWithout, declared.option_value.Setting.Setting}

pub is_without : (wanted : ℕ) (bytes : List ℕ) → ((i : ℕ) → i < length bytes → get_or bytes i 0 ≢ wanted) → IsWithout wanted bytes
is_without wanted bytes none = λ k below. ne_eqb (get_or bytes k 0) wanted (none k below)

digits_free : (bytes : List ℕ) → AllDigits 10 bytes → (i : ℕ) → i < length bytes → get_or bytes i 0 ≢ 45
digits_free [] digits i below = absurd (omega (arith, below))
digits_free (byte ∷ bytes) digits zero below = λ is. absurd (omega (arith, ap digit_value is, digits.0))
digits_free (byte ∷ bytes) digits (suc i) below = digits_free bytes digits.1 i (omega (arith, below))

-- A number has no `-`.
pub number_free : (bytes : List ℕ) (number : ℕ) → IsNumber bytes number → (i : ℕ) → i < length bytes → get_or bytes i 0 ≢ 45
number_free [] number is i below = absurd (omega (arith, below))
number_free (byte ∷ bytes) number is i below = go (byte == 43) refl i below
  where
    go : (plus : Bool) → (byte == 43) ≡ plus → (i : ℕ) → i < suc (length bytes) → get_or (byte ∷ bytes) i 0 ≢ 45
    go false other i below = digits_free (byte ∷ bytes) (rw other at is.0.1) i below
    go true plus zero below = λ dash. let same : byte ≡ 43 = eqb-true byte 43 plus in absurd (omega (arith, same, dash))
    go true plus (suc i) below = digits_free bytes (rw plus at is.0.1) i (omega (arith, below))

-- What is parsed is a number, or is none.
pub parsed : {E : Type 0} (bytes : List ℕ) (result : Result ℕ E) → ParsesUnsigned 64 10 bytes result
    → MatchResult result (λ number. IsNumber bytes number) (λ error. IsNoNumber bytes)
parsed bytes (Ok number) ((is, below), same) = (is, sym same, omega (arith, same, below))
parsed bytes (Err error) none = λ number (is, same, below). none (is, omega (arith, same, below))

pub one_number : (bytes : List ℕ) (m n : ℕ) → IsNumber bytes m → IsNumber bytes n → m ≡ n
one_number bytes m n first second = sym first.1 ∙ second.1

-- The parts before and after the first `-` are the numbers.
pub same_parts : (value : List ℕ) (result : Option (Bor (List ℕ) × Bor (List ℕ))) → IsSplitOnceResult 45 value result → (setting : Setting)
    → IsFieldsSetting value setting
    → MatchOption result ⊥ (λ parts. (before : ℕ) × (more : ℕ) × IsNumber parts.0.now (before + 1) × IsNumber parts.1.now (before + 1 + more))
same_parts value result is setting (before, more, first, last, whole, one, two, same) =
    go result (split_after 45 value first last result is (omega arith) whole (number_free first (before + 1) one))
  where
    go : (result : Option (Bor (List ℕ) × Bor (List ℕ))) → MatchOption result ⊥ (λ parts. (parts.0.now ≡ first) × (parts.1.now ≡ last))
        → MatchOption result ⊥ (λ parts. (before : ℕ) × (more : ℕ) × IsNumber parts.0.now (before + 1) × IsNumber parts.1.now (before + 1 + more))
    go None none = none
    go (Some parts) (front, back) = (
      before,
      more,
      subst (λ t. IsNumber t (before + 1)) (sym front) one,
      subst (λ t. IsNumber t (before + 1 + more)) (sym back) two,
    )
