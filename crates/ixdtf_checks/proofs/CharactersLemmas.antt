-- Proves how many characters begin in the bytes of a text.
use Rattle.std.proofs.Common.{◌≡◌, ℕ, suc, zero, ◌+◌, ◌-◌, ◌/◌, ◌%◌, ◌<◌, ◌≤◌, ⊎_elim, Bool, false, true, List, [], ◌∷◌, ◌++◌, length, take, drop, get_or, sym, refl, ap, ◌∙◌, arith, length-append}
use Rattle.std.proofs.Math.Seq.{take-append-add}
use Rattle.std.proofs.lemmas.{Bool.{cases_lt, lt-ltb, le-ltb}, Bool.Decides.nat_tests, List.{take-append-le, take_more, drop_more}}
use Rattle.std.proofs.lemmas.Str.{encode_ascii, encodes-chars, length-encode, IsCharBoundary-start, IsUtf8-take}
use Rattle.std.specs.{Str.{IsUtf8, IsCharBoundary, chars, encode_utf8_all}, Char.{len_utf8}}
use mir.Val.{bool_byte}
use lib.Utf8.{encode}
use Rattle.ixdtf_explanations.specs.LocatedTexts.{column_of}
use Rattle.ixdtf_checks.specs.Pointed.{begins_character, begun, starts}

pub starts-append : (xs ys : List ℕ) → starts (xs ++ ys) ≡ starts xs + starts ys
starts-append [] ys = omega arith
starts-append (x ∷ xs) ys = omega (arith, starts-append xs ys)

starts-take : (n : ℕ) (xs : List ℕ) → starts (take n xs) ≤ starts xs
starts-take zero xs = omega arith
starts-take (suc n) [] = omega arith
starts-take (suc n) (x ∷ xs) = omega (arith, starts-take n xs)

begun_ascii : (b : ℕ) → b < 128 → begun b ≡ 1
unfolding begun
begun_ascii b small = grind (arith, nat_tests)

pub begun_lead : (b : ℕ) → 192 ≤ b → begun b ≡ 1
unfolding begun
begun_lead b big = grind (arith, nat_tests)

begun_inside : (b : ℕ) → 128 ≤ b → b < 192 → begun b ≡ 0
unfolding begun
begun_inside b big small = grind (arith, nat_tests)

-- A character begins with the byte, if the byte is below 128, or is 192 or above.
pub begun_at : (b : ℕ) → (128 ≤ b → 192 ≤ b) → begun b ≡ 1
begun_at b lead = ⊎_elim (λ small. begun_ascii b small) (λ big. begun_lead b (lead big)) (cases_lt b 128)

pub begun_most : (b : ℕ) → begun b ≤ 1
unfolding begun
begun_most b = grind (arith, nat_tests)

-- The number of characters that begin is at most the number of bytes.
pub starts_few : (xs : List ℕ) → starts xs ≤ length xs
starts_few [] = omega arith
starts_few (x ∷ xs) = omega (arith, begun_most x, starts_few xs)

-- If a character begins with each byte, a character begins with the first byte.
pub begun_full : (xs : List ℕ) → length xs ≤ starts xs → 0 < length xs → begun (get_or xs 0 0) ≡ 1
begun_full [] all some = absurd (omega (arith, some))
begun_full (x ∷ xs) all some = omega (arith, all, begun_most x, starts_few xs)

pub lead_begun : (b : ℕ) → begun b ≡ 1 → 128 ≤ b → 192 ≤ b
unfolding begun
lead_begun b is big = grind (arith, nat_tests)

pub begun_false : (b : ℕ) → begins_character b ≡ false → begun b ≡ 0
unfolding begun
begun_false b is = rw is refl

begun_true : (b : ℕ) → begins_character b ≡ true → begun b ≡ 1
unfolding begun
begun_true b is = rw is refl

-- The code adds this number for the byte.
pub begun_counted : (b n : ℕ) (test : Bool) → test ≡ begins_character b → n ≡ bool_byte test → n ≡ begun b
begun_counted b n true is counted = counted ∙ sym (begun_true b (sym is))
begun_counted b n false is counted = counted ∙ sym (begun_false b (sym is))

pub lead_true : (b : ℕ) → begins_character b ≡ true → 128 ≤ b → 192 ≤ b
lead_true b is big = grind (arith, nat_tests)

-- These are the bytes of one character. The first byte begins the character, and the others do not begin one.
record Spelled (bytes : List ℕ) : Type 0 where
  lead : ℕ
  inside : List ℕ
  are : bytes ≡ lead ∷ inside
  begins : begun lead ≡ 1
  none : starts inside ≡ 0

pub encode_2 : (c : ℕ) → 128 ≤ c → c < 2048 → encode c ≡ (192 + c / 64) ∷ (128 + c % 64) ∷ []
unfolding encode
encode_2 c big small = rw (le-ltb c 128 big, lt-ltb c 2048 small) refl

pub encode_3 : (c : ℕ) → 2048 ≤ c → c < 65536 → encode c ≡ (224 + c / 4096) ∷ (128 + c / 64 % 64) ∷ (128 + c % 64) ∷ []
unfolding encode
encode_3 c big small = rw (le-ltb c 128 (omega (arith, big)), le-ltb c 2048 big, lt-ltb c 65536 small) refl

pub encode_4 : (c : ℕ) → 65536 ≤ c → encode c ≡ (240 + c / 262144) ∷ (128 + c / 4096 % 64) ∷ (128 + c / 64 % 64) ∷ (128 + c % 64) ∷ []
unfolding encode
encode_4 c big = rw (le-ltb c 128 (omega (arith, big)), le-ltb c 2048 (omega (arith, big)), le-ltb c 65536 big) refl

inside_one : (n : ℕ) → begun (128 + n % 64) ≡ 0
inside_one n = begun_inside (128 + n % 64) (omega arith) (omega arith)

spelled : (c : ℕ) → Spelled (encode c)
spelled c = ⊎_elim
    (λ one. record { lead = c; inside = []; are = encode_ascii c one; begins = begun_ascii c one; none = refl })
    (λ more. ⊎_elim
    (λ two. record {
      lead = 192 + c / 64;
      inside = (128 + c % 64) ∷ [];
      are = encode_2 c more two;
      begins = begun_lead _ (omega arith);
      none = omega (arith, inside_one c);
    })
    (λ most. ⊎_elim
    (λ three. record {
      lead = 224 + c / 4096;
      inside = (128 + c / 64 % 64) ∷ (128 + c % 64) ∷ [];
      are = encode_3 c most three;
      begins = begun_lead _ (omega arith);
      none = omega (arith, inside_one c, inside_one (c / 64));
    })
    (λ four. record {
      lead = 240 + c / 262144;
      inside = (128 + c / 4096 % 64) ∷ (128 + c / 64 % 64) ∷ (128 + c % 64) ∷ [];
      are = encode_4 c four;
      begins = begun_lead _ (omega arith);
      none = omega (arith, inside_one c, inside_one (c / 64), inside_one (c / 4096));
    })
    (cases_lt c 65536))
    (cases_lt c 2048))
    (cases_lt c 128)

spelled_starts : (bytes : List ℕ) → Spelled bytes → starts bytes ≡ 1
spelled_starts bytes p = ap starts p.are ∙ omega (arith, p.begins, p.none)

-- Exactly one character begins in the first bytes of a character, if they are at least one byte.
spelled_front : (bytes : List ℕ) (at : ℕ) → Spelled bytes → starts (take (at + 1) bytes) ≡ 1
spelled_front bytes at p =
    let next : at + 1 ≡ suc at = omega arith in
    ap (λ t. starts (take (at + 1) t)) p.are ∙ rw next (omega (arith, p.begins, p.none, starts-take at p.inside))

starts_front : (bytes more : List ℕ) (at : ℕ) → Spelled bytes → at < length bytes → starts (take (at + 1) (bytes ++ more)) ≡ 1
starts_front bytes more at p within = ap starts (take-append-le (at + 1) bytes more (omega (arith, within))) ∙ spelled_front bytes at p

starts_behind : (bytes more : List ℕ) (at : ℕ) → Spelled bytes → length bytes ≤ at
    → starts (take (at + 1) (bytes ++ more)) ≡ starts (take (at - length bytes + 1) more) + 1
starts_behind bytes more at p behind =
    let whole : at + 1 ≡ length bytes + (at - length bytes + 1) = omega arith in
    ap (λ n. starts (take n (bytes ++ more))) whole
    ∙ ap starts (take-append-add bytes more (at - length bytes + 1))
    ∙ omega (arith, starts-append bytes (take (at - length bytes + 1) more), spelled_starts bytes p)

-- The number of characters that begin in a text is the number of its characters.
starts_all : (cs : List ℕ) → starts (encode_utf8_all cs) ≡ length cs
starts_all [] = refl
starts_all (c ∷ cs) = omega (arith, starts-append (encode c) (encode_utf8_all cs), spelled_starts (encode c) (spelled c), starts_all cs)

pub starts_chars : (bs : List ℕ) → IsUtf8 bs → length (chars bs) ≡ starts bs
starts_chars bs good = sym (starts_all (chars bs)) ∙ ap starts (encodes-chars bs good)

inside : (c : ℕ) (cs : List ℕ) (at : ℕ) → at < len_utf8 c → column_of (c ∷ cs) at + 1 ≡ starts (take (at + 1) (encode c ++ encode_utf8_all cs))
inside c cs at less = rw (lt-ltb at (len_utf8 c) less) (sym (starts_front (encode c) (encode_utf8_all cs) at (spelled c) (omega (arith, less, length-encode c))))

behind : (c : ℕ) (cs : List ℕ) (at : ℕ) → at < length (encode c ++ encode_utf8_all cs)
    → (at - len_utf8 c < length (encode_utf8_all cs) → column_of cs (at - len_utf8 c) + 1 ≡ starts (take (at - len_utf8 c + 1) (encode_utf8_all cs)))
    → len_utf8 c ≤ at → column_of (c ∷ cs) at + 1 ≡ starts (take (at + 1) (encode c ++ encode_utf8_all cs))
behind c cs at within others more =
    let long = length-append (encode c) (encode_utf8_all cs) in
    let next = others (omega (arith, within, long, more, length-encode c)) in
    let same : at - len_utf8 c ≡ at - length (encode c) = omega (arith, length-encode c) in
    let shifted : starts (take (at - len_utf8 c + 1) (encode_utf8_all cs)) ≡ starts (take (at - length (encode c) + 1) (encode_utf8_all cs)) =
    ap (λ n. starts (take (n + 1) (encode_utf8_all cs))) same in
    let whole = starts_behind (encode c) (encode_utf8_all cs) at (spelled c) (omega (arith, more, length-encode c)) in
    rw (le-ltb at (len_utf8 c) more) (omega (arith, next, shifted, whole))

-- The column of a byte, plus 1, is the number of characters that begin up to and including this byte.
column_all : (cs : List ℕ) (at : ℕ) → at < length (encode_utf8_all cs) → column_of cs at + 1 ≡ starts (take (at + 1) (encode_utf8_all cs))
column_all [] at within = absurd (omega (arith, within))
column_all (c ∷ cs) at within = ⊎_elim (inside c cs at) (behind c cs at within (column_all cs (at - len_utf8 c))) (cases_lt at (len_utf8 c))

column_past : (cs : List ℕ) (at : ℕ) → length (encode_utf8_all cs) ≤ at → column_of cs at ≡ length cs
column_past [] at past = refl
column_past (c ∷ cs) at past =
    let long = length-append (encode c) (encode_utf8_all cs) in
    let more : len_utf8 c ≤ at = omega (arith, past, long, length-encode c) in
    rw (le-ltb at (len_utf8 c) more) (omega (arith, column_past cs (at - len_utf8 c) (omega (arith, past, long, length-encode c))))

pub column_within : (bs : List ℕ) (at : ℕ) → IsUtf8 bs → at < length bs → column_of (chars bs) at + 1 ≡ starts (take (at + 1) bs)
column_within bs at good within =
    let same = encodes-chars bs good in
    column_all (chars bs) at (omega (arith, within, ap length same)) ∙ ap (λ t. starts (take (at + 1) t)) same

pub column_beyond : (bs : List ℕ) (at : ℕ) → IsUtf8 bs → length bs ≤ at → column_of (chars bs) at ≡ length (chars bs)
column_beyond bs at good beyond = column_past (chars bs) at (omega (arith, beyond, ap length (encodes-chars bs good)))

-- One more byte adds 1 if a character begins with it.
pub starts_more : (bs : List ℕ) (n : ℕ) → n < length bs → starts (take (n + 1) bs) ≡ starts (take n bs) + begun (get_or bs n 0)
starts_more bs n within = ap starts (take_more bs n 0 within) ∙ omega (arith, starts-append (take n bs) (get_or bs n 0 ∷ []))

pub starts_before : (bs : List ℕ) (n : ℕ) → n < length bs → starts (drop n bs) ≡ begun (get_or bs n 0) + starts (drop (n + 1) bs)
starts_before bs n within = ap starts (drop_more bs n 0 within)

-- A character begins with the first byte of a text.
pub begun_first : (bs : List ℕ) → IsUtf8 bs → 0 < length bs → begun (get_or bs 0 0) ≡ 1
begun_first bs good some = begun_at (get_or bs 0 0) (λ big. (IsCharBoundary-start bs good).1 some big)

-- A text can be cut before the first byte of a character.
pub boundary_at : (bs : List ℕ) (n : ℕ) → n ≤ length bs → (n < length bs → 128 ≤ get_or bs n 0 → 192 ≤ get_or bs n 0) → IsCharBoundary bs n
boundary_at bs n within lead = (within, lead)

-- The code counts the byte as the first one of a character, so the text can be cut before it.
pub boundary_counted : (bs : List ℕ) (n counted : ℕ) (test : Bool) → n < length bs → test ≡ begins_character (get_or bs n 0) → counted ≡ bool_byte test → 1 ≤ counted
    → IsCharBoundary bs n
boundary_counted bs n counted test within is adds some =
    let one = begun_counted (get_or bs n 0) counted test is adds in
    boundary_at bs n (omega (arith, within)) (λ less. lead_begun (get_or bs n 0) (omega (arith, one, begun_most (get_or bs n 0), some)))

-- The column of a byte is the number of characters before the first byte of its character.
pub column_at : (bs : List ℕ) (at start : ℕ) → IsUtf8 bs → at < length bs → start ≤ at → starts (take (start + 1) bs) ≡ starts (take (at + 1) bs)
    → (128 ≤ get_or bs start 0 → 192 ≤ get_or bs start 0) → column_of (chars bs) at ≡ length (chars (take start bs))
column_at bs at start good within before same lead =
    let front = IsUtf8-take bs start good (omega (arith, within, before), λ _. lead) in
    let more : starts (take (start + 1) bs) ≡ starts (take start bs) + begun (get_or bs start 0) = starts_more bs start (omega (arith, within, before)) in
    omega (arith, column_within bs at good within, same, more, begun_at (get_or bs start 0) lead, starts_chars (take start bs) front)
