-- Bytes that are written as 16-bit code units, one after another.
use Rattle.std.proofs.Common.{ℕ, ◌+◌, ◌<◌, ◌≡◌, List, [], ◌∷◌, ◌++◌, map, length, take, drop, get_or, ap, sym, ◌∙◌, arith, add-one}
use Rattle.std.proofs.{Math.Seq.take-suc, lemmas.List.{map-append, take-append-drop}}
use Rattle.ixdtf.specs.language.Letters.{Letter, Text, Letter.Plain}
use Rattle.ixdtf_print.specs.Prints.{HasRoom, Prints}
use Rattle.ixdtf_print.proofs.code.PutBytes.{puts_then, room_first, room_then, text_long, front_of_new}

-- One step adds one byte to the text.
one_longer : (bytes : List ℕ) (i d : ℕ) → i < length bytes
    → map Plain (take (i + 1) bytes) ≡ map Plain (take i bytes) ++ (Plain (get_or bytes i d) ∷ [])
one_longer bytes i d more =
    let spell : ℕ → Letter = λ n. Plain n in
    let longer : take (i + 1) bytes ≡ take i bytes ++ (get_or bytes i d ∷ []) = rw add-one (take-suc bytes i d more) in
    ap (map spell) longer ∙ map-append spell (take i bytes) (get_or bytes i d ∷ [])

-- If the slice is long enough for all bytes, it is long enough for the first ones.
room_for_front : (out : List ℕ) (from : ℕ) (bytes : List ℕ) (i : ℕ) → HasRoom out from (map Plain bytes) → HasRoom out from (map Plain (take i bytes))
room_for_front out from bytes i room =
    let spell : ℕ → Letter = λ n. Plain n in
    let split : map spell bytes ≡ map spell (take i bytes) ++ map spell (drop i bytes) =
    ap (map spell) (sym (take-append-drop i bytes)) ∙ map-append spell (take i bytes) (drop i bytes) in
    room_first _ (rw split at room)

pub room_for_next : {old mid : List ℕ} {from at : ℕ} (bytes : List ℕ) (i d : ℕ) → i < length bytes → HasRoom old from (map Plain bytes)
    → Prints old mid from at (map Plain (take i bytes)) → HasRoom mid at (Plain (get_or bytes i d) ∷ [])
room_for_next {old = old} {from = from} bytes i d more room p =
    room_then p (rw (one_longer bytes i d more) at (room_for_front old from bytes (i + 1) room))

pub next_put : {old mid new : List ℕ} {from at to : ℕ} (bytes : List ℕ) (i d : ℕ) → i < length bytes → HasRoom old from (map Plain bytes)
    → Prints old mid from at (map Plain (take i bytes)) → Prints mid new at to (Plain (get_or bytes i d) ∷ [])
    → Prints old new from to (map Plain (take (i + 1) bytes))
next_put {old = old} {from = from} bytes i d more room p q =
    rw (one_longer bytes i d more) (puts_then (rw (one_longer bytes i d more) at (room_for_front old from bytes (i + 1) room)) p q)

-- The first `count` code units of the slice are the text.
pub counted_spelled : (old new : List ℕ) (to count : ℕ) (text : Text) → Prints old new 0 to text → count ≡ length text
    → map Plain (take count new) ≡ text
counted_spelled old new to count text p counted =
    let spell : ℕ → Letter = λ n. Plain n in
    let same : count ≡ to = omega (arith, text_long old new 0 to text p, counted) in
    ap (λ n. map spell (take n new)) same ∙ ap (map spell) (front_of_new old new 0 to text p (omega arith)) ∙ p.spelled
