-- The tables of the code. A computation compares each entry with the definition.
use Rattle.std.proofs.Common.{◌≡◌, ℕ, zero, suc, ◌+◌, ◌<◌, ◌≤◌, Bool, true, false, ◌&&◌, nat_eq, List, [], ◌∷◌, slice_index_or, bit_and, IsTrue, arith}
use Rattle.std.proofs.{Common.{inl, inr}, lemmas.Bool.{cases_eq, Decides.nat_tests}}
use Rattle.std.specs.{Prelude.{not, IsFalse}, Bool.beq}
use Rattle.ixdtf_grammar.specs.language.Letters.{digit, zone_char, key_char, value_char, key_lead, zone_lead}
use Rattle.ixdtf_grammar.specs.language.Letters.{Class}
use Rattle.ixdtf_reading.specs.reading.FixedPlaces.{tens_value, ones_value}

-- The two tests agree for all numbers below n.
unfoldable pub agree_below : (ℕ → Bool) → (ℕ → Bool) → ℕ → Bool
agree_below f g zero = true
agree_below f g (suc n) = beq (f n) (g n) && agree_below f g n

both_of : (x y rest : Bool) → (beq x y && rest) ≡ true → (x ≡ y) × (rest ≡ true)
both_of x y rest h = grind (arith, h)

pub agree_at : (f g : ℕ → Bool) (n : ℕ) → agree_below f g n ≡ true → (b : ℕ) → b < n → f b ≡ g b
unfolding agree_below
agree_at f g zero h b lt = absurd (omega arith)
agree_at f g (suc n) h b lt =
    let both = both_of (f n) (g n) (agree_below f g n) h in
    elim (cases_eq b n) [ inl same ↦ rw same both.0 | inr other ↦ agree_at f g n both.1 b (omega arith) ]

-- The entries of a table of these values: as many as the second number says, from the first number on.
unfoldable pub listed_from : (ℕ → ℕ) → ℕ → ℕ → List ℕ
listed_from value zero c = []
listed_from value (suc n) c = value c ∷ listed_from value n (c + 1)

abbrev listed_at : (ℕ → ℕ) → ℕ → ℕ
listed_at value b = slice_index_or (listed_from value 256 0) b 0

-- ---- the table of classes

abbrev bit : Bool → ℕ → ℕ
bit true n = n
bit false n = 0

-- The classes of a byte. Each class has one bit.
unfoldable pub bits : ℕ → ℕ
bits c = bit (key_char c) 1 + bit (zone_char c) 2 + bit (value_char c) 4 + bit (key_lead c) 8 + bit (zone_lead c) 16

abbrev pub has_bit : ℕ → ℕ → Bool
has_bit b bit = not (nat_eq (bit_and (listed_at bits b) bit) 0)

pub in_class : (bit : ℕ) (class : Class) → agree_below (λ c. has_bit c bit) class 256 ≡ true → (b : ℕ) → b < 256 → has_bit b bit ≡ class b
in_class bit class agrees b lt = agree_at (λ c. has_bit c bit) class 256 agrees b lt

-- ---- the tables of digits

same_number : (a b : ℕ) → nat_eq a b ≡ true → a ≡ b
same_number a b h = grind (arith, nat_tests)

pub in_table : (value : ℕ → ℕ) → agree_below (λ c. nat_eq (listed_at value c) (value c)) (λ c. true) 256 ≡ true → (b : ℕ) → b < 256
    → listed_at value b ≡ value b
in_table value agrees b lt = same_number (listed_at value b) (value b) (agree_at (λ c. nat_eq (listed_at value c) (value c)) (λ c. true) 256 agrees b lt)

pub tens_small : (c : ℕ) → tens_value c ≤ 100
tens_small c = grind (arith, nat_tests)

pub ones_small : (c : ℕ) → ones_value c ≤ 100
ones_small c = grind (arith, nat_tests)

-- If the sum of the table entries is below 100, both code units are digits. The next lemma is about any other sum.
pub are_digits : (tens ones : ℕ) → tens_value tens + ones_value ones ≤ 99 → IsTrue (digit tens) × IsTrue (digit ones)
are_digits tens ones small = grind (arith, nat_tests)

pub ones_is_none : (tens ones : ℕ) → 99 < tens_value tens + ones_value ones → IsTrue (digit tens) → IsFalse (digit ones)
ones_is_none tens ones great is = grind (arith, nat_tests)
