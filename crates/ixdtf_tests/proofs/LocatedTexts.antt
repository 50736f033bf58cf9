-- Computes the texts of errors with their positions.
use Rattle.std.proofs.Common.{◌≡◌, ℕ, List, [], ◌∷◌, ◌++◌, replicate, codes, refl}
use Rattle.std.specs.Str.{chars}
use Rattle.std.specs.Fmt.{digits}
use Rattle.ixdtf_grammar.specs.table.Faults.Fault.{InvalidMonthRange, AbruptEnd}
use Rattle.ixdtf_explanations.specs.LocatedTexts.{located_text, pointed_text}

-- ---- the error and its position

month_at_five : located_text InvalidMonthRange 5 ≡ codes "Parsed month value not in a valid range. at 5"
unfolding digits
month_at_five = refl

end_at_ten : located_text (AbruptEnd (codes "digit")) 10 ≡ codes "Parsing ended abruptly while parsing digit at 10"
unfolding digits
end_at_ten = refl

-- ---- the text with marks under a part

short : pointed_text (codes "2020-x1") 5 6 ≡ codes "2020-x1\n     ^"
unfolding lib.Utf8.encode chars
short = refl

two_marks : pointed_text (codes "2020-13-01") 5 7 ≡ codes "2020-13-01\n     ^^"
unfolding lib.Utf8.encode chars
two_marks = refl

-- There are at most 24 marks.
many_marks : pointed_text (replicate 30 49) 2 30 ≡ replicate 26 49 ++ (codes "..\n  " ++ replicate 24 94)
unfolding lib.Utf8.encode chars
many_marks = refl

empty : pointed_text [] 0 0 ≡ codes "\n^"
unfolding lib.Utf8.encode chars
empty = refl

-- A position after the end counts as the end.
past_the_end : pointed_text (codes "2020-") 9 9 ≡ codes "2020-\n     ^"
unfolding lib.Utf8.encode chars
past_the_end = refl

-- U+00E9 has two bytes and U+1F600 has four, and each of them has one column. A position inside a character counts as the position
-- of the character.
wide : List ℕ
wide = 195 ∷ 169 ∷ 240 ∷ 159 ∷ 152 ∷ 128 ∷ codes "x"

behind_wide : pointed_text wide 6 7 ≡ wide ++ codes "\n  ^"
unfolding lib.Utf8.encode chars wide
behind_wide = refl

inside_wide : pointed_text wide 5 6 ≡ wide ++ codes "\n ^"
unfolding lib.Utf8.encode chars wide
inside_wide = refl

-- A newline and U+0085 are shown as `.`.
controls : pointed_text (codes "2020\n-" ++ (194 ∷ 133 ∷ codes "x")) 8 9 ≡ codes "2020.-.x\n       ^"
unfolding lib.Utf8.encode chars
controls = refl

-- The first text has one character too many on each side. The second has exactly the greatest number.
cut : pointed_text (replicate 49 49 ++ (codes "x" ++ replicate 24 50)) 49 50 ≡ codes ".." ++ (replicate 48 49 ++ (codes "x" ++ (replicate 23 50 ++ (codes "..\n" ++ (replicate 50 32 ++ codes "^")))))
unfolding lib.Utf8.encode chars
cut = refl

full : pointed_text (replicate 48 49 ++ (codes "x" ++ replicate 23 50)) 48 49 ≡ replicate 48 49 ++ (codes "x" ++ (replicate 23 50 ++ (codes "\n" ++ (replicate 48 32 ++ codes "^"))))
unfolding lib.Utf8.encode chars
full = refl
