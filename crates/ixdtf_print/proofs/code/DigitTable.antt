-- The table of the digits. A computation compares each entry with the definition.
use Rattle.std.proofs.Common.{◌≡◌, ℕ, zero, suc, ◌+◌, ◌/◌, ◌%◌, ◌<◌, true, nat_eq, List, [], ◌∷◌, slice_index_or, arith}
use Rattle.std.proofs.lemmas.Bool.{Decides.nat_tests}
use Rattle.ixdtf_reading.proofs.code.Tables.{agree_below, agree_at}

same_number : (a b : ℕ) → nat_eq a b ≡ true → a ≡ b
same_number a b h = grind (arith, nat_tests)

-- The rows of the table: as many as the first number says, from the second number on.
unfoldable pub rows_from : ℕ → ℕ → List (List ℕ)
rows_from zero c = []
rows_from (suc n) c = ((48 + c / 10 % 10) ∷ ((48 + c % 10) ∷ [])) ∷ rows_from n (c + 1)

abbrev row_at : ℕ → ℕ → ℕ
row_at place b = slice_index_or (slice_index_or (rows_from 256 0) b []) place 0

pub in_rows : (place : ℕ) (value : ℕ → ℕ) → agree_below (λ c. nat_eq (row_at place c) (value c)) (λ c. true) 256 ≡ true → (b : ℕ) → b < 256
    → row_at place b ≡ value b
in_rows place value agrees b lt =
    same_number (row_at place b) (value b) (agree_at (λ c. nat_eq (row_at place c) (value c)) (λ c. true) 256 agrees b lt)
