-- Lemmas about the two lines of a text with marks. The proofs of `ixdtf_c` use them too.
use Rattle.std.proofs.Common.{◌≡◌, refl, ℕ, ◌+◌, ◌-◌, List, [], ◌∷◌, ◌++◌, Bool, true, false, length, map, take, drop, replicate, codes, nat_lt, sym, ap, ◌∙◌, append-nil}
use Rattle.std.proofs.lemmas.{List.map-append, Str.encodes-append}
use Rattle.std.specs.{Char.encode_utf8, Str.{chars, encode_utf8_all}}
use Rattle.ixdtf_explanations.specs.LocatedTexts.{shown, column_of, cut_mark, line_of, indent_of, marks_of, pointed_text}

-- One more character is written after the others.
pub one_more : (cs : List ℕ) (c : ℕ) → encode_utf8_all (map shown cs) ++ encode_utf8 (shown c) ≡ encode_utf8_all (map shown (cs ++ c ∷ []))
one_more cs c =
    ap (λ l. encode_utf8_all (map shown cs) ++ l) (sym (append-nil (encode_utf8 (shown c))))
    ∙ sym (encodes-append (map shown cs) (shown c ∷ []))
    ∙ ap encode_utf8_all (sym (map-append shown cs (c ∷ [])))

-- A mark of what is cut has only characters of one byte.
mark_bytes : (b : Bool) → cut_mark b ≡ encode_utf8_all (cut_mark b)
unfolding lib.Utf8.encode
mark_bytes true = refl
mark_bytes false = refl

-- The first line is what is cut before it, its characters, and what is cut after it.
pub line_bytes : (cs : List ℕ) (column first count : ℕ) (front back : List ℕ) → front ≡ cut_mark (nat_lt 48 column) → first ≡ column - 48 → count ≡ length cs → back ≡ cut_mark (nat_lt (column + 24) count)
    → front ++ (encode_utf8_all (map shown (drop first (take (column + 24) cs))) ++ back) ≡ encode_utf8_all (line_of cs column)
line_bytes cs column first count front back f d n b =
    let middle = map shown (drop (column - 48) (take (column + 24) cs)) in
    let behind = cut_mark (nat_lt (column + 24) (length cs)) in
    let before = cut_mark (nat_lt 48 column) in
    let is_front : front ≡ encode_utf8_all before = f ∙ mark_bytes _ in
    let is_back : back ≡ encode_utf8_all behind = b ∙ ap (λ k. cut_mark (nat_lt (column + 24) k)) n ∙ mark_bytes _ in
    ap (λ l. l ++ (encode_utf8_all (map shown (drop first (take (column + 24) cs))) ++ back)) is_front
    ∙ ap (λ k. encode_utf8_all before ++ (encode_utf8_all (map shown (drop k (take (column + 24) cs))) ++ back)) d
    ∙ ap (λ l. encode_utf8_all before ++ (encode_utf8_all middle ++ l)) is_back
    ∙ ap (λ l. encode_utf8_all before ++ l) (sym (encodes-append middle behind))
    ∙ sym (encodes-append before (middle ++ behind))

-- The first line, a newline, the spaces and the marks are the two lines.
pub both_lines : (text : List ℕ) (begin end column indent marks : ℕ) → column ≡ column_of (chars text) begin → indent ≡ indent_of column → marks ≡ marks_of begin end
    → encode_utf8_all (line_of (chars text) column) ++ (codes "\n" ++ (replicate indent 32 ++ replicate marks 94)) ≡ pointed_text text begin end
both_lines text begin end column indent marks is_column is_indent is_marks =
    ap (λ n. encode_utf8_all (line_of (chars text) column) ++ (codes "\n" ++ (replicate n 32 ++ replicate marks 94))) is_indent
    ∙ ap (λ n. encode_utf8_all (line_of (chars text) column) ++ (codes "\n" ++ (replicate (indent_of column) 32 ++ replicate n 94))) is_marks
    ∙ ap (λ n. encode_utf8_all (line_of (chars text) n) ++ (codes "\n" ++ (replicate (indent_of n) 32 ++ replicate (marks_of begin end) 94))) is_column
