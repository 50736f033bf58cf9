-- Proves that a byte of ASCII is the first character.
use Rattle.ixdtf_explanations.proofs.message.shown_first.Goals as goal
use Rattle.std.proofs.Common.{◌≡◌, ℕ, zero, suc, ◌<◌, ◌≤◌, Bool, true, false, if◌then◌else◌, List, [], ◌∷◌, length, take, Option, None, Some, refl, sym, rules, ap, subst, ◌∙◌, arith, lt-ltb}
use Rattle.std.proofs.lemmas.Str.{IsUtf8-from_ascii, is_utf8-from_IsUtf8}
use Rattle.std.proofs.lemmas.Str.Ascii.{IsAscii-nil, IsAscii-cons}
use Rattle.std.specs.{Str.{is_utf8, chars}, Str.Lossy.{utf8_valid_len, valid_len_up_to}, Prelude.slice_get}
use Rattle.ixdtf_explanations.specs.Messages.{first_character}

-- The characters begin with a byte of ASCII, so at least this byte is UTF-8.
front_valid : (b : ℕ) (bs : List ℕ) (n : ℕ) → b < 128 → 1 ≤ valid_len_up_to (b ∷ bs) (suc n)
front_valid b bs zero small = rw (is_utf8-from_IsUtf8 (b ∷ []) (IsUtf8-from_ascii (b ∷ []) (IsAscii-cons b [] small IsAscii-nil))) (omega arith)
front_valid b bs (suc n) small = or_less (is_utf8 (take (suc (suc n)) (b ∷ bs))) (front_valid b bs n small)
  where
    or_less : (test : Bool) → 1 ≤ valid_len_up_to (b ∷ bs) (suc n) → 1 ≤ (if test then suc (suc n) else valid_len_up_to (b ∷ bs) (suc n))
    or_less true some = omega arith
    or_less false some = some

first_is : (b : ℕ) (bs : List ℕ) → b < 128 → slice_get (chars (b ∷ bs)) 0 ≡ Some b
unfolding chars
first_is b [] small = rw (lt-ltb b 128 small) refl
first_is b (c ∷ cs) small = rw (lt-ltb b 128 small) refl

taken : (b : ℕ) (bs : List ℕ) (n : ℕ) → b < 128 → 1 ≤ n → slice_get (chars (take n (b ∷ bs))) 0 ≡ Some b
taken b bs zero small some = absurd (omega (arith, some))
taken b bs (suc n) small some = first_is b (take n bs) small

ascii_first : (b : ℕ) (bs : List ℕ) → b < 128 → first_character (b ∷ bs) ≡ Some b
unfolding utf8_valid_len
ascii_first b bs small = taken b bs (utf8_valid_len (b ∷ bs)) small (front_valid b bs (length bs) small)

abbrev byte_in : Option ℕ → ℕ
byte_in None = 0
byte_in (Some b) = b

shown : (bs : List ℕ) (b : ℕ) → slice_get bs 0 ≡ Some b → b < 128 → first_character (take 4 bs) ≡ Some b
shown [] b is small = search rules
shown (x ∷ bs) b is small =
    let same : x ≡ b = ap byte_in is in
    subst (λ y. first_character (y ∷ take 3 bs) ≡ Some b) (sym same) (ascii_first b (take 3 bs) small)

pub returns-in-Some : goal.returns-in-Some
returns-in-Some c = rw c.from.ensures (shown c.args.rest.now c.in-Some.byte.now (search rules) (search rules))
