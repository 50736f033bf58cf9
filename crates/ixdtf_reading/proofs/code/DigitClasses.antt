-- Classes of code units that exclude each other.
use Rattle.std.proofs.{Common.{◌≡◌, ℕ, IsTrue, false, arith}, lemmas.Bool.Decides.nat_tests}
use Rattle.ixdtf_grammar.specs.language.Letters.{digit, sign, hyphen}

-- A digit is not a sign.
pub digit_no_sign : (c : ℕ) → IsTrue (digit c) → sign c ≡ false
digit_no_sign c is = grind (arith, nat_tests)

pub digit_no_hyphen : (c : ℕ) → IsTrue (digit c) → hyphen c ≡ false
digit_no_hyphen c is = grind (arith, nat_tests)
