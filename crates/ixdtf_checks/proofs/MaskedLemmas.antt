-- Proves how a text is shown.
use Rattle.std.proofs.Common.{◌≡◌, ℕ, suc, ◌+◌, ◌/◌, ◌%◌, ◌<◌, ◌≤◌, ◌==◌, ⊎_elim, false, List, [], ◌∷◌, ◌++◌, map, length, take, drop, get_or, refl, sym, ap, ◌∙◌, arith}
use Rattle.std.proofs.lemmas.{Bool.{cases_lt, lt-ltb, le-ltb, and_left}, Bool.Decides.nat_tests, List.{append-nil, drop_all, drop_more, get_or-take, length-take-le, take-append-drop}}
use Rattle.std.proofs.lemmas.Str.{encode_ascii, encodes-chars}
use Rattle.std.specs.{Str.{IsAscii, IsUtf8, chars, encode_utf8_all}, Prelude.{nat_lt}}
use lib.Utf8.{encode}
use Rattle.ixdtf_explanations.specs.LocatedTexts.{shown}
use Rattle.ixdtf_checks.specs.Pointed.{mask, masked}
use Rattle.ixdtf_checks.proofs.CharactersLemmas.{encode_2, encode_3, encode_4}

control_shown : (c : ℕ) → 128 ≤ c → c < 160 → shown c ≡ 46
control_shown c low high = grind (arith, nat_tests)

other_shown : (c : ℕ) → 160 ≤ c → shown c ≡ c
other_shown c low = grind (arith, nat_tests)

-- A byte that is not 0xC2 is shown on its own.
masked_one : (b : ℕ) (bs : List ℕ) → (b == 194) ≡ false → masked (b ∷ bs) ≡ mask b ∷ masked bs
unfolding masked
masked_one b [] other = refl
masked_one b (next ∷ bs) other = rw (and_left (b == 194) (nat_lt next 160) other) refl

masked_two : (next : ℕ) (bs : List ℕ) → next < 160 → masked (194 ∷ next ∷ bs) ≡ 46 ∷ masked bs
unfolding masked
masked_two next bs small = rw (lt-ltb next 160 small) refl

masked_latin : (next : ℕ) (bs : List ℕ) → 160 ≤ next → masked (194 ∷ next ∷ bs) ≡ 194 ∷ masked (next ∷ bs)
unfolding masked
masked_latin next bs big = rw (le-ltb next 160 big) refl

masked_last : (b : ℕ) → masked (b ∷ []) ≡ mask b ∷ masked []
unfolding masked
masked_last b = refl

masked_wide : (b : ℕ) (bs : List ℕ) → 128 ≤ b → (b == 194) ≡ false → masked (b ∷ bs) ≡ b ∷ masked bs
masked_wide b bs big other =
    let same : mask b ≡ b = rw (le-ltb b 128 big) refl in
    masked_one b bs other ∙ ap (λ t. t ∷ masked bs) same

mask_inside : (n : ℕ) (bs : List ℕ) → masked ((128 + n % 64) ∷ bs) ≡ (128 + n % 64) ∷ masked bs
mask_inside n bs = masked_wide (128 + n % 64) bs (omega arith) (grind (arith, nat_tests))

mask_ascii : (c : ℕ) → c < 128 → mask c ≡ shown c
mask_ascii c small = rw (lt-ltb c 128 small) refl

shown_ascii : (c : ℕ) → c < 128 → shown c < 128
shown_ascii c small = grind (arith, nat_tests)

one_ascii : (c : ℕ) (rest : List ℕ) → c < 128 → masked (encode c ++ rest) ≡ encode (shown c) ++ masked rest
one_ascii c rest small =
    let other : (c == 194) ≡ false = grind (arith, nat_tests) in
    rw (encode_ascii c small, encode_ascii (shown c) (shown_ascii c small), ← mask_ascii c small) (masked_one c rest other)

one_control : (c : ℕ) (rest : List ℕ) → 128 ≤ c → c < 160 → masked (encode c ++ rest) ≡ encode (shown c) ++ masked rest
one_control c rest big small =
    let lead : 192 + c / 64 ≡ 194 = omega arith in
    rw (encode_2 c big (omega (arith, small)), control_shown c big small, encode_ascii 46 (omega arith), lead)
    (masked_two (128 + c % 64) rest (omega (arith, big, small)))

one_latin : (c : ℕ) (rest : List ℕ) → 160 ≤ c → c < 192 → masked (encode c ++ rest) ≡ encode (shown c) ++ masked rest
one_latin c rest big small =
    let lead : 192 + c / 64 ≡ 194 = omega arith in
    rw (other_shown c big, encode_2 c (omega (arith, big)) (omega (arith, small)), lead)
    (masked_latin (128 + c % 64) rest (omega (arith, big, small)) ∙ ap (λ t. 194 ∷ t) (mask_inside c rest))

one_wide : (c : ℕ) (rest : List ℕ) → 192 ≤ c → masked (encode c ++ rest) ≡ encode c ++ masked rest
one_wide c rest big = ⊎_elim
    (λ two. rw (encode_2 c (omega (arith, big)) two)
    (masked_wide (192 + c / 64) _ (omega arith) (grind (arith, nat_tests)) ∙ ap (λ t. (192 + c / 64) ∷ t) (mask_inside c rest)))
    (λ more. ⊎_elim
    (λ three. rw (encode_3 c more three)
    (masked_wide (224 + c / 4096) _ (omega arith) (grind (arith, nat_tests))
    ∙ ap (λ t. (224 + c / 4096) ∷ t) (mask_inside (c / 64) _ ∙ ap (λ t. (128 + c / 64 % 64) ∷ t) (mask_inside c rest))))
    (λ four. rw (encode_4 c four)
    (masked_wide (240 + c / 262144) _ (omega arith) (grind (arith, nat_tests))
    ∙ ap (λ t. (240 + c / 262144) ∷ t) (mask_inside (c / 4096) _ ∙ ap (λ t. (128 + c / 4096 % 64) ∷ t)
    (mask_inside (c / 64) _ ∙ ap (λ t. (128 + c / 64 % 64) ∷ t) (mask_inside c rest)))))
    (cases_lt c 65536))
    (cases_lt c 2048)

one_character : (c : ℕ) (rest : List ℕ) → masked (encode c ++ rest) ≡ encode (shown c) ++ masked rest
one_character c rest = ⊎_elim
    (λ ascii. one_ascii c rest ascii)
    (λ big. ⊎_elim
    (λ control. one_control c rest big control)
    (λ other. ⊎_elim
    (λ latin. one_latin c rest other latin)
    (λ wide. rw (other_shown c other) (one_wide c rest wide))
    (cases_lt c 192))
    (cases_lt c 160))
    (cases_lt c 128)

all_characters : (cs : List ℕ) → masked (encode_utf8_all cs) ≡ encode_utf8_all (map shown cs)
unfolding masked
all_characters [] = refl
all_characters (c ∷ cs) = one_character c (encode_utf8_all cs) ∙ ap (λ t. encode (shown c) ++ t) (all_characters cs)

-- A text is shown with each of its characters as `shown` says.
pub masked_shown : (bs : List ℕ) → IsUtf8 bs → masked bs ≡ encode_utf8_all (map shown (chars bs))
masked_shown bs good = sym (ap masked (encodes-chars bs good)) ∙ all_characters (chars bs)

masked_none : masked [] ≡ []
unfolding masked
masked_none = refl

-- Bytes without 0xC2 are shown byte by byte, whatever follows them.
pub masked_run : (xs ys : List ℕ) → ((k : ℕ) → k < length xs → (get_or xs k 0 == 194) ≡ false) → masked (xs ++ ys) ≡ map mask xs ++ masked ys
masked_run [] ys none = refl
masked_run (x ∷ xs) ys none =
    masked_one x (xs ++ ys) (none 0 (omega arith)) ∙ ap (λ t. mask x ∷ t) (masked_run xs ys (λ k below. none (suc k) (omega (arith, below))))

-- A text without 0xC2 is shown byte by byte.
pub masked_all : (xs : List ℕ) → ((k : ℕ) → k < length xs → (get_or xs k 0 == 194) ≡ false) → masked xs ≡ map mask xs
masked_all xs none = ap masked (sym (append-nil xs)) ∙ masked_run xs [] none ∙ ap (λ t. map mask xs ++ t) masked_none ∙ append-nil (map mask xs)

ascii_other : (b : ℕ) → b < 128 → (b == 194) ≡ false
ascii_other b small = grind (arith, nat_tests)

pub masked_ascii : (xs : List ℕ) → IsAscii xs → masked xs ≡ map mask xs
masked_ascii xs ascii = masked_all xs (λ k below. ascii_other (get_or xs k 0) (ascii k))

-- The first 0xC2 is at `place`. This module proves what is shown before it, and from it on.
module _ (bs : List ℕ) (place : ℕ) (within : place < length bs) (here : get_or bs place 0 ≡ 194)
    (none : (k : ℕ) → k < place → (get_or bs k 0 == 194) ≡ false) where
  front_shown : (ys : List ℕ) → masked (take place bs ++ ys) ≡ map mask (take place bs) ++ masked ys
  front_shown ys =
      let long : length (take place bs) ≡ place = length-take-le place bs (omega (arith, within)) in
      masked_run (take place bs) ys (λ k below.
      let less : k < place = omega (arith, below, long) in
      ap (λ b. b == 194) (get_or-take place bs k 0 less) ∙ none k less)

  split_here : masked bs ≡ masked (take place bs ++ 194 ∷ drop (place + 1) bs)
  split_here =
      ap masked (sym (take-append-drop place bs) ∙ ap (λ t. take place bs ++ t) (drop_more bs place 0 within ∙ ap (λ b. b ∷ drop (place + 1) bs) here))

  pub masked_lead : (place + 1 < length bs → 160 ≤ get_or bs (place + 1) 0)
      → masked bs ≡ map mask (take place bs) ++ 194 ∷ masked (drop (place + 1) bs)
  masked_lead latin = split_here ∙ front_shown (194 ∷ drop (place + 1) bs) ∙ ap (λ t. map mask (take place bs) ++ t) (⊎_elim
      (λ more.
      let next = drop_more bs (place + 1) 0 more in
      ap (λ t. masked (194 ∷ t)) next ∙ masked_latin (get_or bs (place + 1) 0) (drop (place + 1 + 1) bs) (latin more) ∙ ap (λ t. 194 ∷ masked t) (sym next))
      (λ end. rw (drop_all (place + 1) bs end) (masked_last 194))
      (cases_lt (place + 1) (length bs)))

  pub masked_pair : place + 1 < length bs → get_or bs (place + 1) 0 < 160
      → masked bs ≡ map mask (take place bs) ++ 46 ∷ masked (drop (place + 2) bs)
  masked_pair more small =
      let next : place + 1 + 1 ≡ place + 2 = omega arith in
      split_here ∙ front_shown (194 ∷ drop (place + 1) bs) ∙ ap (λ t. map mask (take place bs) ++ t)
      (rw (drop_more bs (place + 1) 0 more, next) (masked_two (get_or bs (place + 1) 0) (drop (place + 2) bs) small))
