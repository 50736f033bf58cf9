-- What `Display` writes for the parts of a canonical text.
use Rattle.std.proofs.Common.{ℕ, ◌+◌, ◌<◌, ◌≡◌, List, [], ◌∷◌, ◌++◌, map, length, take, get_or, Some, codes, refl, sym, ◌∙◌, ap, arith, add-one, append-nil}
use Rattle.std.proofs.{Common.take_all, Math.Seq.take-suc, lemmas.{List.map-append, Str.encodes-append}}
use Rattle.std.specs.{Char.encode_utf8, Str.encode_utf8_all}
use Rattle.ixdtf.specs.language.{Letters.{Text, Letter.Plain}, Brackets.ZoneNote, Languages.Parsed}
use Rattle.ixdtf_print.specs.{Canonical.{opening_text, zone_text, bracket_text, calendar_text, brackets_text}, Prints.Prints}
use Rattle.ixdtf_print.specs.Shown.{code_point, bytes_of}
use Rattle.ixdtf_print.proofs.code.PutBytes.{front_of_new, text_long, puts_length}

pub bytes-append : (a b : Text) → bytes_of (a ++ b) ≡ bytes_of a ++ bytes_of b
bytes-append a b = ap encode_utf8_all (map-append code_point a b) ∙ encodes-append (map code_point a) (map code_point b)

numbers : (bytes : List ℕ) → map code_point (map Plain bytes) ≡ bytes
numbers [] = refl
numbers (byte ∷ bytes) = ap (λ l. byte ∷ l) (numbers bytes)

pub bytes-plain : (bytes : List ℕ) → bytes_of (map Plain bytes) ≡ encode_utf8_all bytes
bytes-plain bytes = ap encode_utf8_all (numbers bytes)

-- ---- bytes, one after another

pub one_more : (bytes : List ℕ) (i d : ℕ) → i < length bytes
    → encode_utf8_all (take i bytes) ++ encode_utf8 (get_or bytes i d) ≡ encode_utf8_all (take (i + 1) bytes)
one_more bytes i d more =
    let longer : take (i + 1) bytes ≡ take i bytes ++ (get_or bytes i d ∷ []) = rw add-one (take-suc bytes i d more) in
    ap (λ l. encode_utf8_all (take i bytes) ++ l) (sym (append-nil (encode_utf8 (get_or bytes i d))))
    ∙ sym (encodes-append (take i bytes) (get_or bytes i d ∷ []))
    ∙ ap encode_utf8_all (sym longer)

-- ---- what was written at the beginning

front_bytes : (old new : List ℕ) (to : ℕ) (text : Text) → Prints old new 0 to text → encode_utf8_all (take to new) ≡ bytes_of text
front_bytes old new to text p =
    ap encode_utf8_all (front_of_new old new 0 to text p (omega arith)) ∙ sym (bytes-plain p.bytes) ∙ ap bytes_of p.spelled

pub counted_bytes : (old new : List ℕ) (to count : ℕ) (text : Text) → Prints old new 0 to text → count ≡ length text
    → encode_utf8_all (take count new) ≡ bytes_of text
counted_bytes old new to count text p counted =
    let same : count ≡ to = omega (arith, text_long old new 0 to text p, counted) in
    ap (λ n. encode_utf8_all (take n new)) same ∙ front_bytes old new to text p

pub whole_bytes : (old new : List ℕ) (to : ℕ) (text : Text) → Prints old new 0 to text → length old ≡ length text → encode_utf8_all new ≡ bytes_of text
whole_bytes old new to text p same =
    let long = text_long old new 0 to text p in
    let kept = puts_length old new 0 to text p (omega (arith, long, same)) in
    ap encode_utf8_all (sym (take_all to new (omega (arith, long, kept, same)))) ∙ front_bytes old new to text p

-- ---- brackets

closing : bytes_of (Plain 93 ∷ []) ≡ codes "]"
unfolding lib.Utf8.encode
closing = refl

calendar_key : bytes_of (map Plain (codes "[u-ca=")) ≡ codes "[u-ca="
unfolding lib.Utf8.encode
calendar_key = refl

-- Three texts follow each other, and the last is `]`.
closed : (opening inside : Text) → bytes_of opening ++ (bytes_of inside ++ codes "]") ≡ bytes_of (opening ++ (inside ++ (Plain 93 ∷ [])))
closed opening inside =
    ap (λ l. bytes_of opening ++ (bytes_of inside ++ l)) (sym closing)
    ∙ ap (λ l. bytes_of opening ++ l) (sym (bytes-append inside (Plain 93 ∷ [])))
    ∙ sym (bytes-append opening (inside ++ (Plain 93 ∷ [])))

pub bracket_bytes : (note : ZoneNote) (opening : List ℕ) → map Plain opening ≡ opening_text note.critical
    → encode_utf8_all opening ++ (bytes_of (zone_text note.zone) ++ codes "]") ≡ bytes_of (bracket_text (Some note))
bracket_bytes note opening is =
    ap (λ l. l ++ (bytes_of (zone_text note.zone) ++ codes "]")) (sym (bytes-plain opening) ∙ ap bytes_of is)
    ∙ closed (opening_text note.critical) (zone_text note.zone)

pub calendar_bytes : (value : List ℕ) → codes "[u-ca=" ++ (encode_utf8_all value ++ codes "]") ≡ bytes_of (calendar_text (Some value))
calendar_bytes value =
    ap (λ l. l ++ (encode_utf8_all value ++ codes "]")) (sym calendar_key)
    ∙ ap (λ l. bytes_of (map Plain (codes "[u-ca=")) ++ (l ++ codes "]")) (sym (bytes-plain value))
    ∙ closed (map Plain (codes "[u-ca=")) (map Plain value)

-- ---- the complete text

pub brackets_bytes : (found : Parsed) → bytes_of (bracket_text found.zone) ++ bytes_of (calendar_text found.calendar) ≡ bytes_of (brackets_text found)
brackets_bytes found = sym (bytes-append (bracket_text found.zone) (calendar_text found.calendar))
