-- Strings of JSON are read back.
use Rattle.std.proofs.Common.{◌≡◌, ℕ, ◌+◌, ◌*◌, ◌/◌, ◌%◌, ◌<◌, ◌≤◌, ◌==◌, Bool, true, false, List, [], ◌∷◌, ◌++◌, nat_lt, Some, refl, sym, ap, ◌∙◌, append_assoc, arith, eqb-true, ltb-true, ltb-false, codes, subst, zero, suc}
use Rattle.std.proofs.lemmas.{Fmt.hex_byte, Str.encode_ascii, List.Elements.{All-append, All-nil}}
use Rattle.std.specs.{Fmt.digit_glyph, List.{All, flat_map}, Char.encode_utf8}
use Rattle.ixdtf_checks.specs.{Json.{json_byte, json_control}, JsonStrings.{Awaited.{character}, after, hex_value, read_from, is_surrogate, IsReadBack, HasNoControl}}

hex_back : (d : ℕ) → d < 16 → hex_value (digit_glyph true d) ≡ Some d
hex_back d small = grind arith

read_control : (byte : ℕ) (more : List ℕ) → byte < 32 → read_from character (json_control byte ++ more) ≡ after (byte ∷ []) (read_from character more)
read_control byte more small =
    let high : byte / 16 < 16 = omega arith in
    let low : byte % 16 < 16 = omega arith in
    let sum : 16 * (0 + byte / 16) + byte % 16 ≡ byte = omega arith in
    let plain : is_surrogate byte ≡ false = grind arith in
    let one : encode_utf8 byte ≡ byte ∷ [] = encode_ascii byte (omega (arith, small)) in
    rw (hex_byte true byte (omega (arith, small)), hex_back (byte / 16) high, hex_back (byte % 16) low, sum, plain, one) refl

read_more : (byte : ℕ) (more : List ℕ) → read_from character (json_byte byte ++ more) ≡ after (byte ∷ []) (read_from character more)
read_more byte more = go (byte == 34) (byte == 92) (nat_lt byte 32) refl refl refl
  where
    go : (is_quote is_slash is_control : Bool) → (byte == 34) ≡ is_quote → (byte == 92) ≡ is_slash → nat_lt byte 32 ≡ is_control
        → read_from character (json_byte byte ++ more) ≡ after (byte ∷ []) (read_from character more)
    go true s c quote slash control = let same : byte ≡ 34 = eqb-true byte 34 quote in rw same refl
    go false true c quote slash control = let same : byte ≡ 92 = eqb-true byte 92 slash in rw same refl
    go false false true quote slash control = rw (quote, slash, control) (read_control byte more (ltb-true byte 32 control))
    go false false false quote slash control = rw (quote, slash, control) (rw (quote, slash, control) refl)

read_all : (text rest : List ℕ) → read_from character (flat_map json_byte text ++ 34 ∷ rest) ≡ Some (text, rest)
read_all [] rest = refl
read_all (byte ∷ bytes) rest =
    ap (read_from character) (append_assoc (json_byte byte) (flat_map json_byte bytes) (34 ∷ rest))
    ∙ read_more byte (flat_map json_byte bytes ++ 34 ∷ rest)
    ∙ ap (after (byte ∷ [])) (read_all bytes rest)

pub read_back : IsReadBack
read_back text rest = ap (read_from character) (append_assoc (flat_map json_byte text) (34 ∷ []) rest) ∙ read_all text rest

-- ---- no control character is written

abbrev Plain : List ℕ → Type 0
Plain bytes = All (λ byte. 32 ≤ byte) bytes

plain_none : Plain []
plain_none = All-nil (λ byte. 32 ≤ byte)

plain_more : (byte : ℕ) (bytes : List ℕ) → 32 ≤ byte → Plain bytes → Plain (byte ∷ bytes)
plain_more byte bytes here rest zero d below = here
plain_more byte bytes here rest (suc k) d below = rest k d (omega (arith, below))

plain_glyph : (d : ℕ) → 32 ≤ digit_glyph true d
plain_glyph d = grind arith

plain_digits : (high low : ℕ) → 32 ≤ high → 32 ≤ low → Plain (92 ∷ 117 ∷ 48 ∷ 48 ∷ high ∷ low ∷ [])
plain_digits high low first second =
    plain_more 92 (117 ∷ 48 ∷ 48 ∷ high ∷ low ∷ []) (omega arith) (plain_more 117 (48 ∷ 48 ∷ high ∷ low ∷ []) (omega arith)
    (plain_more 48 (48 ∷ high ∷ low ∷ []) (omega arith) (plain_more 48 (high ∷ low ∷ []) (omega arith)
    (plain_more high (low ∷ []) first (plain_more low [] second plain_none)))))

plain_control : (byte : ℕ) → byte < 32 → Plain (json_control byte)
plain_control byte small =
    subst (λ digits. Plain (codes "\\u00" ++ digits)) (sym (hex_byte true byte (omega (arith, small))))
    (plain_digits (digit_glyph true (byte / 16)) (digit_glyph true (byte % 16)) (plain_glyph (byte / 16)) (plain_glyph (byte % 16)))

plain_quote : Plain (34 ∷ [])
plain_quote = plain_more 34 [] (omega arith) plain_none

plain_byte : (byte : ℕ) → Plain (json_byte byte)
plain_byte byte = go (byte == 34) (byte == 92) (nat_lt byte 32) refl refl refl
  where
    go : (is_quote is_slash is_control : Bool) → (byte == 34) ≡ is_quote → (byte == 92) ≡ is_slash → nat_lt byte 32 ≡ is_control → Plain (json_byte byte)
    go true s c quote slash control = rw quote (plain_more 92 (34 ∷ []) (omega arith) plain_quote)
    go false true c quote slash control = rw (quote, slash) (plain_more 92 (92 ∷ []) (omega arith) (plain_more 92 [] (omega arith) plain_none))
    go false false true quote slash control = rw (quote, slash, control) (plain_control byte (ltb-true byte 32 control))
    go false false false quote slash control = rw (quote, slash, control) (plain_more byte [] (ltb-false byte 32 control) plain_none)

plain_all : (text : List ℕ) → Plain (flat_map json_byte text)
plain_all [] = All-nil (λ byte. 32 ≤ byte)
plain_all (byte ∷ bytes) = All-append (λ byte. 32 ≤ byte) (json_byte byte) (flat_map json_byte bytes) (plain_byte byte) (plain_all bytes)

pub no_control : HasNoControl
no_control text = All-append (λ byte. 32 ≤ byte) (34 ∷ []) (flat_map json_byte text ++ 34 ∷ []) plain_quote (All-append (λ byte. 32 ≤ byte) (flat_map json_byte text) (34 ∷ []) (plain_all text) plain_quote)
