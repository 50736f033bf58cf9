-- Proves which bytes the lines under a message have.
use Rattle.std.proofs.Common.{◌≡◌, ℕ, suc, zero, ◌+◌, ◌-◌, ◌*◌, ◌<◌, ◌≤◌, ⊎_elim, Bool, false, true, if◌then◌else◌, List, [], ◌∷◌, ◌++◌, map, length, take, drop, get_or, replicate, sym, refl, ap, subst, ◌∙◌, arith, append_assoc, length-append, length-drop}
use Rattle.std.proofs.Math.Seq.{take-append-add, drop-append_seam, take-append_seam}
use Rattle.std.proofs.lemmas.{Bool.{cases_lt, lt-ltb, le-ltb}, List.{append-nil, length-take-le, take-append-drop, take-append-le, drop-drop, drop-take, take-take, take_all, get_or-take, get_or-drop}}
use Rattle.std.proofs.lemmas.Str.{encodes-IsAscii, encodes-append, chars-append, chars-IsAscii, encodes-chars, length-le-encodes, IsUtf8-append, IsUtf8-take, IsUtf8-drop, IsUtf8-from_ascii, IsUtf8-from_is_utf8, is_utf8-from_IsUtf8}
use Rattle.std.proofs.lemmas.Str.{length-encode, len_utf8_bounds, IsCharBoundary-before_ascii, IsCharBoundary-after_ascii, IsCharBoundary-end, IsCharBoundary-start, IsAscii-take, IsAscii-drop}
use Rattle.std.proofs.lemmas.Str.Ascii.{IsAscii-nil, IsAscii-cons}
use Rattle.std.specs.{Str.{IsAscii, IsUtf8, IsCharBoundary, is_utf8, chars, encode_utf8_all}, Prelude.{nat_lt}}
use lib.Utf8.{encode}
use Rattle.ixdtf_explanations.specs.LocatedTexts.{shown, column_of, cut_mark, indent_of, marks_of, pointed_text}
use Rattle.ixdtf_buffers.specs.{Adding.Adds, Lines.newline}
use Rattle.ixdtf_checks.specs.{declared.marked_text.Window.Window, Pointed.{Fits, IsNear, IsWindow, mark_of, bytes_in, masked, window_lines}, Seen.lines_at}
use Rattle.ixdtf_checks.proofs.{CharactersLemmas.{column_at, column_beyond}, CsvLemmas.rest_of, MaskedLemmas.{masked_shown}}

ascii_cut : (is_cut : Bool) → IsAscii (cut_mark is_cut)
ascii_cut true = IsAscii-cons 46 (46 ∷ []) (omega arith) (IsAscii-cons 46 [] (omega arith) IsAscii-nil)
ascii_cut false = IsAscii-nil

-- The mark of a cut has the same bytes in UTF-8.
cut_text : (is_cut : Bool) → encode_utf8_all (cut_mark is_cut) ≡ cut_mark is_cut
cut_text is_cut = encodes-IsAscii (cut_mark is_cut) (ascii_cut is_cut)

regroup : (l : ℕ) (a b c s ms : List ℕ) → ((a ++ (b ++ c)) ++ (l ∷ (s ++ ms))) ++ l ∷ [] ≡ a ++ (b ++ (c ++ ((l ∷ s) ++ (ms ++ l ∷ []))))
regroup l a b c s ms = simp append_assoc refl

encoded : (x y : Bool) (m : List ℕ) → encode_utf8_all (cut_mark x ++ (m ++ cut_mark y)) ≡ cut_mark x ++ (encode_utf8_all m ++ cut_mark y)
encoded x y m = rw (encodes-append (cut_mark x) (m ++ cut_mark y), encodes-append m (cut_mark y), cut_text x, cut_text y) refl

-- The lines under a message are those of the window that is shown.
pub window_shown : (bs : List ℕ) (at to : ℕ) (w : Window) → IsWindow bs at w
    → pointed_text bs at to ++ newline ∷ [] ≡ window_lines bs w (marks_of at to) (encode_utf8_all (map shown (chars (bytes_in w bs))))
window_shown bs at to w p =
    let col = column_of (chars bs) at in
    let part = map shown (drop (col - 48) (take (col + 24) (chars bs))) in
    let before = nat_lt 48 col in
    let behind = nat_lt (col + 24) (length (chars bs)) in
    rw (p.before, p.behind, p.indent, p.characters, encoded before behind part)
    (regroup 10 (cut_mark before) (encode_utf8_all part) (cut_mark behind) (replicate (indent_of col) 32) (replicate (marks_of at to) 94))

none_encoded : (cs : List ℕ) → length cs ≡ 0 → length (encode_utf8_all cs) ≡ 0
none_encoded [] none = refl
none_encoded (c ∷ cs) none = absurd (omega (arith, none))

chars_none : (bs : List ℕ) → IsUtf8 bs → length (chars bs) ≡ 0 → length bs ≡ 0
chars_none bs good none = sym (ap length (encodes-chars bs good)) ∙ none_encoded (chars bs) none

chars_some : (bs : List ℕ) → IsUtf8 bs → 0 < length bs → 0 < length (chars bs)
chars_some bs good some = ⊎_elim (λ more. more) (λ none. absurd (omega (arith, some, chars_none bs good (omega (arith, none))))) (cases_lt 0 (length (chars bs)))

chars_few : (bs : List ℕ) → IsUtf8 bs → length (chars bs) ≤ length bs
chars_few bs good = omega (arith, length-le-encodes (chars bs), ap length (encodes-chars bs good))

tests_same : (x y u v : ℕ) → (x < y → u < v) → (y ≤ x → v ≤ u) → nat_lt x y ≡ nat_lt u v
tests_same x y u v below not = ⊎_elim (λ less. lt-ltb x y less ∙ sym (lt-ltb u v (below less))) (λ more. le-ltb x y more ∙ sym (le-ltb u v (not more))) (cases_lt x y)

front_24 : (z w : List ℕ) → length z ≤ 24 → (0 < length w → length z ≡ 24) → take 24 (z ++ w) ≡ z
front_24 z [] few cut = take_all 24 (z ++ []) (omega (arith, length-append z [], few)) ∙ append-nil z
front_24 z (x ∷ w) few cut =
    let full : length z ≡ 24 = cut (omega arith) in
    ap (λ n. take n (z ++ x ∷ w)) (sym full) ∙ take-append_seam z (x ∷ w)

back_48 : (x y z : List ℕ) (col : ℕ) → col ≡ length x + length y → length y ≤ 48 → (0 < length x → length y ≡ 48) → drop (col - 48) ((x ++ y) ++ z) ≡ y ++ z
back_48 [] y z col is few cut =
    let none : col - 48 ≡ 0 = omega (arith, is, few) in
    rw none refl
back_48 (c ∷ x) y z col is few cut =
    let first : col - 48 ≡ length (c ∷ x) = omega (arith, is, cut (omega arith)) in
    ap (λ n. drop n (((c ∷ x) ++ y) ++ z)) first
    ∙ ap (λ t. drop (length (c ∷ x)) t) (append_assoc (c ∷ x) y z)
    ∙ drop-append_seam (c ∷ x) (y ++ z)

part_shown : (x y z w : List ℕ) (col : ℕ) → col ≡ length x + length y → length y ≤ 48 → (0 < length x → length y ≡ 48) → length z ≤ 24
    → (0 < length w → length z ≡ 24) → drop (col - 48) (take (col + 24) ((x ++ y) ++ (z ++ w))) ≡ y ++ z
part_shown x y z w col is few cut fewer ends =
    let here : col + 24 ≡ length (x ++ y) + 24 = omega (arith, is, length-append x y) in
    rw (here, take-append-add (x ++ y) (z ++ w) 24, front_24 z w fewer ends) (back_48 x y z col is few cut)

slice_is : (a b c d : List ℕ) → drop (length a) (take (length (a ++ b) + length c) ((a ++ b) ++ (c ++ d))) ≡ b ++ c
slice_is a b c d = rw (take-append-add (a ++ b) (c ++ d) (length c), take-append_seam c d, append_assoc a b c) (drop-append_seam a (b ++ c))

-- A text has four parts. The second has the last characters before the position, and the third has the first characters from the
-- position on.
pub record InFour (bs : List ℕ) (at : ℕ) (w : Window) (a b c d : List ℕ) : Type 0 where
  pub whole : bs ≡ (a ++ b) ++ (c ++ d)
  pub good_a : IsUtf8 a
  pub good_b : IsUtf8 b
  pub good_c : IsUtf8 c
  pub good_d : IsUtf8 d
  pub column : column_of (chars bs) at ≡ length (chars (a ++ b))
  pub few_before : length (chars b) ≤ 48
  pub cut_before : 0 < length a → length (chars b) ≡ 48
  pub few_behind : length (chars c) ≤ 24
  pub cut_behind : 0 < length d → length (chars c) ≡ 24
  pub start : w.start ≡ length a
  pub end : w.end ≡ length (a ++ b) + length c
  pub indent_cut : 0 < w.start → w.indent ≡ 50
  pub indent_whole : w.start ≡ 0 → w.indent ≡ length (chars b)

module _ (bs : List ℕ) (at : ℕ) (w : Window) (a b c d : List ℕ) (p : InFour bs at w a b c d) where
  chars_split : chars bs ≡ (chars a ++ chars b) ++ (chars c ++ chars d)
  chars_split =
      ap chars p.whole ∙ chars-append (a ++ b) (c ++ d) (IsUtf8-append a b p.good_a p.good_b)
      ∙ rw (chars-append a b p.good_a, chars-append c d p.good_c) refl

  column_split : column_of (chars bs) at ≡ length (chars a) + length (chars b)
  column_split = p.column ∙ ap length (chars-append a b p.good_a) ∙ length-append (chars a) (chars b)

  length_split : length (chars bs) ≡ (length (chars a) + length (chars b)) + (length (chars c) + length (chars d))
  length_split =
      ap length chars_split ∙ omega (
        arith,
        length-append (chars a ++ chars b) (chars c ++ chars d),
        length-append (chars a) (chars b),
        length-append (chars c) (chars d),
      )

  bytes_split : length bs ≡ w.end + length d
  bytes_split = ap length p.whole ∙ omega (arith, length-append (a ++ b) (c ++ d), length-append c d, p.end)

  slice_split : bytes_in w bs ≡ b ++ c
  slice_split = rw (p.start, p.end, p.whole) (slice_is a b c d)

  before_same : nat_lt 0 w.start ≡ nat_lt 48 (column_of (chars bs) at)
  before_same = tests_same 0 w.start 48 (column_of (chars bs) at)
      (λ some. omega (arith, column_split, p.cut_before (omega (arith, some, p.start)), chars_some a p.good_a (omega (arith, some, p.start))))
      (λ none. omega (arith, column_split, p.few_before, chars_few a p.good_a, p.start, none))

  behind_same : nat_lt w.end (length bs) ≡ nat_lt (column_of (chars bs) at + 24) (length (chars bs))
  behind_same = tests_same w.end (length bs) (column_of (chars bs) at + 24) (length (chars bs))
      (λ some. omega (
        arith,
        column_split,
        length_split,
        p.cut_behind (omega (arith, some, bytes_split)),
        chars_some d p.good_d (omega (arith, some, bytes_split)),
      ))
      (λ none. omega (arith, column_split, length_split, p.few_behind, chars_few d p.good_d, bytes_split, none))

  indent_same : w.indent ≡ indent_of (column_of (chars bs) at)
  indent_same = ⊎_elim
      (λ some.
      let wide : 48 < column_of (chars bs) at =
      omega (arith, column_split, p.cut_before (omega (arith, some, p.start)), chars_some a p.good_a (omega (arith, some, p.start))) in
      rw (lt-ltb 48 (column_of (chars bs) at) wide) (p.indent_cut some))
      (λ none.
      let few : column_of (chars bs) at ≤ 48 = omega (arith, column_split, p.few_before, chars_few a p.good_a, p.start, none) in
      rw (le-ltb 48 (column_of (chars bs) at) few)
      (omega (arith, p.indent_whole (omega (arith, none)), column_split, chars_few a p.good_a, p.start, none)))
      (cases_lt 0 w.start)

  characters_same : chars (bytes_in w bs) ≡ drop (column_of (chars bs) at - 48) (take (column_of (chars bs) at + 24) (chars bs))
  characters_same =
      ap chars slice_split ∙ chars-append b c p.good_b
      ∙ sym (part_shown (chars a) (chars b) (chars c) (chars d) (column_of (chars bs) at) column_split p.few_before
      (λ some. p.cut_before (omega (arith, some, chars_few a p.good_a))) p.few_behind (λ some. p.cut_behind (omega (arith, some, chars_few d p.good_d))))
      ∙ ap (λ t. drop (column_of (chars bs) at - 48) (take (column_of (chars bs) at + 24) t)) (sym chars_split)

  pub in_four : IsWindow bs at w
  in_four = record {
    before = before_same;
    behind = behind_same;
    indent = indent_same;
    valid = subst IsUtf8 (sym slice_split) (IsUtf8-append b c p.good_b p.good_c);
    characters = characters_same;
  }

-- If two texts are equal and one of them was added, the other one was added.
pub adds_same : {a b : List ℕ} {i j : ℕ} {xs ys : List ℕ} → xs ≡ ys → Adds a b i j xs → Adds a b i j ys
adds_same {a = a} {i = i} e p = record { is = p.is ∙ ap (λ t. take i a ++ t) e }

-- A slice in the code has the bytes from one index up to another.
pub part_same : (bs : List ℕ) (s e : ℕ) → s ≤ e → take (e - s) (drop s bs) ≡ drop s (take e bs)
part_same bs s e order =
    let whole : s + (e - s) ≡ e = omega (arith, order) in
    sym (drop-take s (e - s) bs) ∙ ap (λ n. drop s (take n bs)) whole

encodes_few : (cs : List ℕ) → length (encode_utf8_all cs) ≤ 4 * length cs
encodes_few [] = omega arith
encodes_few (c ∷ cs) =
    omega (arith, encodes_few cs, length-append (encode c) (encode_utf8_all cs), length-encode c, (len_utf8_bounds c).1)

pub bytes_few : (bs : List ℕ) → IsUtf8 bs → length bs ≤ 4 * length (chars bs)
bytes_few bs good = omega (arith, encodes_few (chars bs), ap length (encodes-chars bs good))

-- The window begins at s, and ends n bytes after the mark at m. It has the characters that are shown.
module _ (bs : List ℕ) (at : ℕ) (w : Window) (m s n : ℕ) (marked : m ≤ length bs) (before : s ≤ m) (behind : m + n ≤ length bs) where
  pub window_from : IsUtf8 (take s (take m bs)) → IsUtf8 (drop s (take m bs)) → IsUtf8 (take n (drop m bs)) → IsUtf8 (drop n (drop m bs))
      → column_of (chars bs) at ≡ length (chars (take m bs)) → length (chars (drop s (take m bs))) ≤ 48
      → (0 < s → length (chars (drop s (take m bs))) ≡ 48) → length (chars (take n (drop m bs))) ≤ 24
      → (m + n < length bs → length (chars (take n (drop m bs))) ≡ 24) → w.start ≡ s → w.end ≡ m + n → (0 < s → w.indent ≡ 50)
      → (s ≡ 0 → w.indent ≡ length (chars (drop s (take m bs)))) → IsWindow bs at w
  window_from good_a good_b good_c good_d column few_before cut_before few_behind cut_behind start end cut whole =
      let front = take m bs in
      let back = drop m bs in
      let long = length-take-le m bs marked in
      let rest = length-drop m bs in
      let long_a : length (take s front) ≡ s = length-take-le s front (omega (arith, long, before)) in
      let long_c : length (take n back) ≡ n = length-take-le n back (omega (arith, rest, behind)) in
      let long_d = length-drop n back in
      let joined : length (take s front ++ drop s front) ≡ m = ap length (take-append-drop s front) ∙ long in
      in_four bs at w (take s front) (drop s front) (take n back) (drop n back) (record {
        whole = sym (rw (take-append-drop s front, take-append-drop n back, take-append-drop m bs) refl);
        good_a = good_a;
        good_b = good_b;
        good_c = good_c;
        good_d = good_d;
        column = column ∙ ap (λ t. length (chars t)) (sym (take-append-drop s front));
        few_before = few_before;
        cut_before = λ some. cut_before (omega (arith, some, long_a));
        few_behind = few_behind;
        cut_behind = λ some. cut_behind (omega (arith, some, long_d, rest));
        start = start ∙ sym long_a;
        end = omega (arith, end, joined, long_c);
        indent_cut = λ some. cut (omega (arith, some, start));
        indent_whole = λ none. whole (omega (arith, none, start));
      })

-- The code chose a window: the mark is at m, the window begins at s, and it ends n bytes after the mark. `count` characters are before the
-- mark. The code has the bytes from the mark on as a slice.
module _ (bs : List ℕ) (m s n count indent : ℕ) (marked : m ≤ length bs) (before : s ≤ length (take m bs)) (good_b : IsUtf8 (drop s (take m bs)))
    (counted : length (chars (drop s (take m bs))) ≡ count) (few_before : count ≤ 48) (behind : n ≤ length (take (length bs - m) (drop m bs)))
    (good_c : IsUtf8 (take n (take (length bs - m) (drop m bs)))) (few_behind : length (chars (take n (take (length bs - m) (drop m bs)))) ≤ 24)
    (cut : 0 < s → indent ≡ 50) (whole : s ≡ 0 → indent ≡ count) where
  -- The window begins at or before the mark.
  start_before_mark : s ≤ m
  start_before_mark = omega (arith, before, length-take-le m bs marked)

  -- The window ends in the text.
  end_in_text : m + n ≤ length bs
  end_in_text = omega (arith, rw (rest_of m bs) at behind, length-drop m bs, marked)

  -- The window has few bytes, and few columns are before the mark.
  pub chosen_fits : Fits bs (record { start = s; end = m + n; indent = indent })
  chosen_fits =
      let few_b = bytes_few (drop s (take m bs)) good_b in
      let few_c = bytes_few (take n (drop m bs)) (rw (rest_of m bs) at good_c) in
      let long_b = length-drop s (take m bs) in
      let long_c : length (take n (drop m bs)) ≡ n = length-take-le n (drop m bs) (rw (rest_of m bs) at behind) in
      let narrow : indent ≤ 50 = ⊎_elim (λ some. omega (arith, cut some)) (λ none. omega (arith, whole (omega (arith, none)), few_before)) (cases_lt 0 s) in
      record {
        order = omega (arith, start_before_mark);
        within = end_in_text;
        few = omega (arith, start_before_mark, length-take-le m bs marked, long_b, long_c, few_b, few_c, counted, few_before, rw (rest_of m bs) at few_behind);
        narrow = narrow;
      }

  -- If the parts of the text are cut between characters, the window has the characters that are shown.
  pub chosen_shown : (at : ℕ) → IsUtf8 (take s (take m bs)) → IsUtf8 (drop n (take (length bs - m) (drop m bs))) → column_of (chars bs) at ≡ length (chars (take m bs))
      → (0 < s → count ≡ 48) → (n < length (take (length bs - m) (drop m bs)) → length (chars (take n (take (length bs - m) (drop m bs)))) ≡ 24)
      → IsWindow bs at (record { start = s; end = m + n; indent = indent })
  chosen_shown at good_a good_d column cut_before cut_behind =
      let ends : n < length (drop m bs) → length (chars (take n (drop m bs))) ≡ 24 = rw (rest_of m bs) at cut_behind in
      window_from bs at _ m s n marked start_before_mark end_in_text good_a good_b (rw (rest_of m bs) at good_c) (rw (rest_of m bs) at good_d) column
      (omega (arith, counted, few_before)) (λ some. omega (arith, counted, cut_before some)) (rw (rest_of m bs) at few_behind)
      (λ more. ends (omega (arith, more, length-drop m bs))) refl refl cut (λ none. omega (arith, whole none, counted))

-- ---- the greatest byte

none_there : (bs : List ℕ) (place : ℕ) → length bs ≤ place → get_or bs place 0 ≡ 0
none_there [] place past = refl
none_there (b ∷ bs) zero past = absurd (omega (arith, past))
none_there (b ∷ bs) (suc place) past = none_there bs place (omega (arith, past))

pub greatest_all : (bs : List ℕ) (index greatest : ℕ) → length bs ≤ index → ((place : ℕ) → place < index → get_or bs place 0 ≤ greatest)
    → (place : ℕ) → get_or bs place 0 ≤ greatest
greatest_all bs index greatest all holds place =
    ⊎_elim (λ inside. holds place (omega (arith, inside, all))) (λ past. omega (arith, none_there bs place past)) (cases_lt place (length bs))

-- If a window is the complete text and is ASCII, the text is UTF-8.
pub whole_text : (bs : List ℕ) (s e : ℕ) → IsAscii (drop s (take e bs)) → s ≡ 0 → length bs ≤ e → IsUtf8 bs
whole_text bs s e ascii first last =
    let all : drop s (take e bs) ≡ bs = ap (λ n. drop n (take e bs)) first ∙ take_all e bs last in
    IsUtf8-from_ascii bs (subst IsAscii all ascii)

byte_ascii : (bs : List ℕ) (s e k : ℕ) → IsAscii (drop s (take e bs)) → s ≤ k → k < e → get_or bs k 0 < 128
byte_ascii bs s e k ascii after before =
    let there : s + (k - s) ≡ k = omega (arith, after) in
    let same : get_or (drop s (take e bs)) (k - s) 0 ≡ get_or bs k 0 =
    get_or-drop s (take e bs) (k - s) 0 ∙ ap (λ n. get_or (take e bs) n 0) there ∙ get_or-take e bs k 0 before in
    omega (arith, ascii (k - s), same)

-- If the bytes near the position are ASCII, they are the bytes that are shown.
module _ (bs : List ℕ) (at : ℕ) (w : Window) (good : IsUtf8 bs) (fits : Fits bs w) (near : IsNear bs at w) (ascii : IsAscii (bytes_in w bs)) where
  abbrev mark : ℕ
  mark = mark_of bs at

  abbrev count : ℕ
  count = w.end - mark

  mark_before : mark ≤ w.end
  mark_before = omega (arith, near.end)

  whole_count : mark + count ≡ w.end
  whole_count = omega (arith, mark_before)

  start_before : w.start ≤ mark
  start_before = omega (arith, near.start)

  mark_within : mark ≤ length bs
  mark_within = omega arith

  byte_near : (k : ℕ) → w.start ≤ k → k < w.end → get_or bs k 0 < 128
  byte_near k after before = byte_ascii bs w.start w.end k ascii after before

  boundary_start : IsCharBoundary bs w.start
  boundary_start = ⊎_elim
      (λ some. IsCharBoundary-before_ascii bs w.start (omega (arith, some, fits.within)) (byte_near w.start (omega arith) some))
      (λ none.
      let first : 0 ≡ w.start = omega (arith, none, fits.order, mark_before, near.start) in
      subst (λ n. IsCharBoundary bs n) first (IsCharBoundary-start bs good))
      (cases_lt w.start w.end)

  boundary_end : IsCharBoundary bs w.end
  boundary_end = ⊎_elim
      (λ cut.
      let last : w.end - 1 + 1 ≡ w.end = omega (arith, near.end, cut) in
      subst (λ n. IsCharBoundary bs n) last
      (IsCharBoundary-after_ascii bs (w.end - 1) good (omega (arith, cut)) (byte_near (w.end - 1) (omega (arith, near.end, cut, near.start)) (omega (arith, near.end, cut)))))
      (λ all.
      let last : length bs ≡ w.end = omega (arith, all, fits.within) in
      subst (λ n. IsCharBoundary bs n) last (IsCharBoundary-end bs))
      (cases_lt w.end (length bs))

  front_near : take (mark - w.start) (bytes_in w bs) ≡ drop w.start (take mark bs)
  front_near = part_same (take w.end bs) w.start mark start_before ∙ ap (λ t. drop w.start t) (take-take mark w.end bs mark_before)

  back_near : drop (mark - w.start) (bytes_in w bs) ≡ take count (drop mark bs)
  back_near =
      let there : w.start + (mark - w.start) ≡ mark = omega (arith, start_before) in
      drop-drop (mark - w.start) w.start (take w.end bs) ∙ ap (λ n. drop n (take w.end bs)) there ∙ sym (part_same bs mark w.end mark_before)

  ascii_front : IsAscii (drop w.start (take mark bs))
  ascii_front = subst IsAscii front_near (IsAscii-take (bytes_in w bs) (mark - w.start) ascii)

  ascii_back : IsAscii (take count (drop mark bs))
  ascii_back = subst IsAscii back_near (IsAscii-drop (bytes_in w bs) (mark - w.start) ascii)

  length_front : length (chars (drop w.start (take mark bs))) ≡ mark - w.start
  length_front =
      ap length (chars-IsAscii (drop w.start (take mark bs)) ascii_front)
      ∙ omega (arith, length-drop w.start (take mark bs), length-take-le mark bs mark_within)

  length_back : length (chars (take count (drop mark bs))) ≡ count
  length_back =
      ap length (chars-IsAscii (take count (drop mark bs)) ascii_back)
      ∙ length-take-le count (drop mark bs) (omega (arith, length-drop mark bs, whole_count, fits.within))

  column_near : column_of (chars bs) at ≡ length (chars (take mark bs))
  column_near = ⊎_elim
      (λ within.
      let here : at ≡ mark = omega (arith, within) in
      let shown : at < w.end = omega (arith, near.end, within) in
      let small = byte_near at (omega (arith, start_before, here)) shown in
      column_at bs at at good within (omega arith) refl (λ big. absurd (omega (arith, big, small))) ∙ ap (λ n. length (chars (take n bs))) here)
      (λ past.
      column_beyond bs at good past ∙ sym (ap (λ t. length (chars t)) (take_all mark bs (omega (arith, past)))))
      (cases_lt at (length bs))

  indent_cut_near : 0 < w.start → w.indent ≡ 50
  indent_cut_near some = near.indent ∙ rw (lt-ltb 48 mark (omega (arith, some, near.start))) refl

  indent_whole_near : w.start ≡ 0 → w.indent ≡ mark
  indent_whole_near none = near.indent ∙ rw (le-ltb 48 mark (omega (arith, none, near.start))) refl

  pub near_is : IsWindow bs at w
  near_is =
      let rest : drop w.end bs ≡ drop count (drop mark bs) = sym (drop-drop count mark bs ∙ ap (λ n. drop n bs) whole_count) in
      window_from bs at w mark w.start count mark_within start_before (omega (arith, whole_count, fits.within))
      (subst IsUtf8 (sym (take-take w.start mark bs start_before)) (IsUtf8-take bs w.start good boundary_start))
      (IsUtf8-from_ascii (drop w.start (take mark bs)) ascii_front) (IsUtf8-from_ascii (take count (drop mark bs)) ascii_back)
      (subst IsUtf8 rest (IsUtf8-drop bs w.end good boundary_end)) column_near (omega (arith, length_front, near.start))
      (λ some. omega (arith, length_front, near.start, some)) (omega (arith, length_back, near.end, whole_count))
      (λ more. omega (arith, length_back, whole_count, near.end, more)) refl (sym whole_count) indent_cut_near
      (λ none. omega (arith, indent_whole_near none, length_front, none))

-- If the bytes are UTF-8, these are the lines under the message.
lines_shown : (bs : List ℕ) (at to : ℕ) → IsUtf8 bs → lines_at at to bs ≡ pointed_text bs at to ++ newline ∷ []
lines_shown bs at to good = rw (is_utf8-from_IsUtf8 bs good) refl

-- The lines of a window with masked bytes are the lines under the message.
pub lines_masked : (bs : List ℕ) (at to : ℕ) (w : Window) → IsUtf8 bs → IsWindow bs at w
    → window_lines bs w (marks_of at to) (masked (bytes_in w bs)) ≡ lines_at at to bs
lines_masked bs at to w good p =
    sym (lines_shown bs at to good ∙ window_shown bs at to w p ∙ ap (λ t. window_lines bs w (marks_of at to) t) (sym (masked_shown (bytes_in w bs) p.valid)))

-- There are no lines if the bytes are not UTF-8.
pub lines_hidden : (bs : List ℕ) (at to : ℕ) → ¬ (IsUtf8 bs) → lines_at at to bs ≡ []
lines_hidden bs at to bad = go (is_utf8 bs) refl
  where
    go : (test : Bool) → is_utf8 bs ≡ test → (if test then pointed_text bs at to ++ newline ∷ [] else []) ≡ []
    go true is = absurd (bad (IsUtf8-from_is_utf8 bs is))
    go false is = refl

-- No bytes were added.
pub adds_none : (a : List ℕ) (i : ℕ) → Adds a a i i []
adds_none a i = record { is = sym (append-nil (take i a)) }

-- The bytes before the first added one are kept, also if more was added after the added ones.
pub kept_before : (a b c : List ℕ) (i j k : ℕ) (xs ys : List ℕ) → i ≤ length a → j ≤ length b → j ≤ k → Adds a b i j xs → Adds b c j k ys → take i c ≡ take i a
kept_before a b c i j k xs ys within inside more p q =
    let long = length-take-le i a within in
    let grows : i ≤ j = omega (arith, ap (λ t. length t) p.is, long, length-take-le j b inside, length-append (take i a) xs) in
    let first = sym (take-take i j b grows) ∙ ap (take i) p.is ∙ take-append-le i (take i a) xs (omega (arith, long)) ∙ take_all i (take i a) (omega (arith, long)) in
    let longer = length-take-le j b inside in
    let second = sym (take-take j k c more) ∙ ap (take j) q.is ∙ take-append-le j (take j b) ys (omega (arith, longer)) ∙ take_all j (take j b) (omega (arith, longer)) in
    sym (take-take i j c grows) ∙ ap (take i) second ∙ take-take i j b grows ∙ first

-- What stands after the index is written over.
pub adds_over : {a b c : List ℕ} {i k : ℕ} {ys : List ℕ} → take i b ≡ take i a → Adds b c i k ys → Adds a c i k ys
adds_over {ys = ys} kept p = record { is = p.is ∙ ap (λ t. t ++ ys) kept }

-- The first of many equal bytes.
pub front_of_many : (m n c : ℕ) → m ≤ n → take m (replicate n c) ≡ replicate m c
front_of_many zero n c within = refl
front_of_many (suc m) zero c within = absurd (omega (arith, within))
front_of_many (suc m) (suc n) c within = ap (λ t. c ∷ t) (front_of_many m n c (omega (arith, within)))
