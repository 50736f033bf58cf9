-- One text put after another.
use Rattle.std.proofs.Common.{ℕ, suc, ◌+◌, ◌≤◌, ◌≡◌, List, [], ◌∷◌, ◌++◌, map, length, take, drop, set, refl, sym, ◌∙◌, ap, arith, add-one}
use Rattle.std.proofs.{Common.{append_assoc, append-nil, subst, ◌<◌}, Math.Seq.{take-append_seam}, lemmas.List.{length-append, length-map, map-append, length-take-le}}
use Rattle.std.proofs.lemmas.List.{drop_at, set_split, take-append-drop, take-append-le, take-take, length-drop, drop-drop}
use Rattle.ixdtf.specs.language.Letters.{Letter, Text, Letter.Plain}
use Rattle.ixdtf_print.specs.Prints.{HasRoom, Prints, PrintsFront}

long_bytes : (bytes : List ℕ) (text : Text) → map Plain bytes ≡ text → length bytes ≡ length text
long_bytes bytes text e = let spell : ℕ → Letter = λ n. Plain n in sym (length-map bytes spell) ∙ ap length e

-- The text has as many code units as bytes were written.
pub text_long : (old new : List ℕ) (from to : ℕ) (text : Text) (p : Prints old new from to text) → to ≡ from + length text
text_long old new from to text p = omega (arith, p.ends, long_bytes p.bytes text p.spelled)

pub front_of_new : (old new : List ℕ) (from to : ℕ) (text : Text) (p : Prints old new from to text) → from ≤ length old → take to new ≡ take from old ++ p.bytes
front_of_new old new from to text p h =
    let front : length (take from old) ≡ from = length-take-le from old h in
    let e : to ≡ length (take from old ++ p.bytes) = omega (arith, length-append (take from old) p.bytes, front, p.ends) in
    rw p.is (rw (← append_assoc (take from old) p.bytes (drop to old)) (ap (λ k. take k ((take from old ++ p.bytes) ++ drop to old)) e
    ∙ take-append_seam (take from old ++ p.bytes) (drop to old)))

rest_of_new : (old new : List ℕ) (from to : ℕ) (text : Text) (p : Prints old new from to text) → from ≤ length old → drop to new ≡ drop to old
rest_of_new old new from to text p h =
    let front : length (take from old) ≡ from = length-take-le from old h in
    let e : to ≡ length (take from old ++ p.bytes) = omega (arith, length-append (take from old) p.bytes, front, p.ends) in
    rw p.is (rw (← append_assoc (take from old) p.bytes (drop to old)) (drop_at (take from old ++ p.bytes) (drop to old) to (sym e)))

pub puts_then : {old mid new : List ℕ} {from between to : ℕ} {first second : Text} → HasRoom old from (first ++ second)
    → Prints old mid from between first → Prints mid new between to second → Prints old new from to (first ++ second)
puts_then {old = old} {mid = mid} {new = new} {from = from} {between = between} {to = to} {first = first} {second = second} room p q =
    let inside : from ≤ length old = omega (arith, room.room) in
    let further : to ≡ between + length q.bytes = q.ends in
    let later : drop to mid ≡ drop to old =
    ap (λ j. drop j mid) further ∙ sym (drop-drop (length q.bytes) between mid)
    ∙ ap (λ (t : List ℕ). drop (length q.bytes) t) (rest_of_new old mid from between first p inside)
    ∙ drop-drop (length q.bytes) between old ∙ ap (λ j. drop j old) (sym further)
    in
    record {
      bytes = p.bytes ++ q.bytes;
      spelled = map-append Plain p.bytes q.bytes ∙ rw (p.spelled, q.spelled) refl;
      is = q.is ∙ rw (front_of_new old mid from between first p inside, later) (simp append_assoc);
      ends = omega (arith, p.ends, q.ends, length-append p.bytes q.bytes);
    }

-- The length of the slice is unchanged.
pub puts_length : (old new : List ℕ) (from to : ℕ) (text : Text) (p : Prints old new from to text) → to ≤ length old → length new ≡ length old
puts_length old new from to text p inside =
    let front : length (take from old) ≡ from = length-take-le from old (omega (arith, p.ends)) in
    rw p.is (omega (arith, length-append (take from old) (p.bytes ++ drop to old), length-append p.bytes (drop to old), front, length-drop to old, p.ends))

-- ---- capacity

pub room_first : {out : List ℕ} {from : ℕ} {first : Text} (second : Text) → HasRoom out from (first ++ second) → HasRoom out from first
room_first {first = first} second h = record { room = omega (arith, h.room, length-append first second) }

pub room_then : {old new : List ℕ} {from to : ℕ} {first second : Text} → Prints old new from to first → HasRoom old from (first ++ second) → HasRoom new to second
room_then {old = old} {new = new} {from = from} {to = to} {first = first} {second = second} p h =
    let long = text_long old new from to first p in
    let whole = length-append first second in
    let same = puts_length old new from to first p (omega (arith, long, whole, h.room)) in
    record { room = omega (arith, same, long, whole, h.room) }

-- ---- one byte, and none

pub puts_byte : (out : List ℕ) (at byte : ℕ) → HasRoom out at (Plain byte ∷ []) → Prints out (set out at byte) at (at + 1) (Plain byte ∷ [])
puts_byte out at byte h = record {
  bytes = byte ∷ [];
  spelled = refl;
  is = rw add-one (set_split out at byte (omega (arith, h.room)));
  ends = refl;
}

pub puts_nothing : (out : List ℕ) (at : ℕ) → Prints out out at at []
puts_nothing out at = record {
  bytes = [];
  spelled = refl;
  is = sym (take-append-drop at out);
  ends = omega arith;
}

-- ---- bytes written in slices

letters_split : (bytes front back : List ℕ) → bytes ≡ front ++ back → map Plain bytes ≡ map Plain front ++ map Plain back
letters_split bytes front back e =
    let spell : ℕ → Letter = λ n. Plain n in
    ap (map spell) e ∙ map-append spell front back

pieces : (n : ℕ) (bytes front back : List ℕ) → front ≡ take n bytes → back ≡ drop n bytes → bytes ≡ front ++ back
pieces n bytes front back f b = sym (take-append-drop n bytes) ∙ rw (f, b) refl

pub none_so_far : (out bytes : List ℕ) (at : ℕ) → PrintsFront out out at at bytes bytes
none_so_far out bytes at = record { done = []; whole = refl; puts = puts_nothing out at }

-- The first bytes were written, and then the first of the other bytes.
pub further : {old mid new : List ℕ} {from between to : ℕ} {bytes rest left : List ℕ} → HasRoom old from (map Plain bytes)
    → PrintsFront old mid from between bytes rest → PrintsFront mid new between to rest left → PrintsFront old new from to bytes left
further {old = old} {from = from} {bytes = bytes} {left = left} room s p =
    let spell : ℕ → Letter = λ n. Plain n in
    let whole : bytes ≡ (s.done ++ p.done) ++ left = s.whole ∙ ap (λ l. s.done ++ l) p.whole ∙ sym (append_assoc s.done p.done left) in
    let both = map-append spell s.done p.done in
    let enough : HasRoom old from (map spell (s.done ++ p.done)) = room_first _ (rw (letters_split bytes (s.done ++ p.done) left whole) at room) in
    record { done = s.done ++ p.done; whole = whole; puts = rw both (puts_then (rw both at enough) s.puts p.puts) }

-- The first `n` bytes were written.
pub first_put : {old new : List ℕ} {from to : ℕ} (n : ℕ) (bytes front back : List ℕ) → front ≡ take n bytes → back ≡ drop n bytes
    → Prints old new from to (map Plain front) → PrintsFront old new from to bytes back
first_put n bytes front back f b p = record { done = front; whole = pieces n bytes front back f b; puts = p }

pub all_put : {old new : List ℕ} {from to : ℕ} {bytes rest : List ℕ} → length rest < 1 → PrintsFront old new from to bytes rest
    → Prints old new from to (map Plain bytes)
all_put {old = old} {new = new} {from = from} {to = to} {rest = []} none s =
    subst (λ (l : List ℕ). Prints old new from to (map Plain l)) (sym (s.whole ∙ append-nil s.done)) s.puts
all_put {rest = c ∷ rest} none s = absurd (omega (arith, none))

-- ---- one byte before the written bytes

pub puts_before : {old mid : List ℕ} {from to : ℕ} {text : Text} (at c : ℕ) → from ≡ suc at → from ≤ length old → Prints old mid from to text
    → Prints old (set mid at c) at to (Plain c ∷ text)
puts_before {old = old} {mid = mid} {from = from} {to = to} at c next inside p =
    let front : length (take from old) ≡ from = length-take-le from old inside in
    let long : length mid ≡ from + length (p.bytes ++ drop to old) = rw p.is (omega (arith, front, length-append (take from old) (p.bytes ++ drop to old))) in
    let before : take at mid ≡ take at old = rw p.is (take-append-le at (take from old) (p.bytes ++ drop to old) (omega arith)
    ∙ take-take at from old (omega arith)) in
    let behind : drop (suc at) mid ≡ p.bytes ++ drop to old = rw p.is (drop_at (take from old) (p.bytes ++ drop to old) (suc at) (omega arith)) in
    record {
      bytes = c ∷ p.bytes;
      spelled = ap (λ rest. Plain c ∷ rest) p.spelled;
      is = set_split mid at c (omega (arith, long)) ∙ rw (before, behind) refl;
      ends = omega (arith, p.ends);
    }

pub ruleset putting = (puts_then, room_first, room_then)
