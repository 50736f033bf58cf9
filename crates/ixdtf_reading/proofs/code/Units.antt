-- A text, and the code units of its source.
use Rattle.ixdtf_grammar.specs.declared.reason.Reason.{Reason}
use Rattle.std.proofs.{Common.{◌≡◌, ℕ, ◌+◌, List, [], ◌∷◌, map, length, drop, Option, Some, None, Result, Ok, Err, refl, ap, arith}, lemmas.Option.slice_get-map}
use Rattle.ixdtf_grammar.specs.{language.Letters.{Letter, Text, Letter.{Plain, Bad}}, Views.{ascii_at, looked}}
use Rattle.ixdtf_reading.specs.{reading.{Looks.{look_at, seen, Placed}, Clauses.stopped_by}}

-- The rules that give a text from the code units of its source.
pub ruleset texts = (slice_get-map)

-- An empty text has an empty source.
pub no_units : {A B : Type 0} (f : A → B) (xs : List A) → map f xs ≡ [] → xs ≡ []
no_units f [] e = refl
no_units f (x ∷ xs) e = absurd cc

-- A `Reason` at the beginning of this text.
abbrev pub placed : {A : Type 0} → Text → Result A Reason → Result A Placed
placed left (Ok found) = Ok found
placed left (Err e) = Err (e, left)

-- A look at index 0 of a source is a look at the first code unit.
pub first_look : (stop : Reason) (letter : ℕ → Letter) (units : List ℕ) → seen stop (map letter units) ≡ placed (map letter units) (stopped_by stop (ascii_at letter 0 units))
unfolding look_at
first_look stop letter [] = refl
first_look stop letter (unit ∷ units) = grind arith

-- If a look finds a code unit, the source has one, and a step consumes it.
pub stepped : (stop : Reason) (letter : ℕ → Letter) (units : List ℕ) (c : ℕ) → seen stop (map letter units) ≡ Ok (Some c)
    → length (drop 1 units) + 1 ≡ length units
unfolding look_at
stepped stop letter [] c e = absurd cc
stepped stop letter (unit ∷ units) c e = omega arith

-- ---- what follows

-- The source has no code unit.
pub none_next : (stop : Reason) (letter : ℕ → Letter) (units : List ℕ) → stopped_by stop (ascii_at letter 0 units) ≡ Ok None → map letter units ≡ []
none_next stop letter [] e = refl
none_next stop letter (unit ∷ units) e = go (letter unit) e
  where
    go : (l : Letter) → stopped_by stop (looked (Some l)) ≡ Ok None → l ∷ map letter units ≡ []
    go Bad e = absurd cc
    go (Plain c) e = absurd cc

-- The first code unit is `c`.
pub byte_next : (stop : Reason) (letter : ℕ → Letter) (units : List ℕ) (c : ℕ) → stopped_by stop (ascii_at letter 0 units) ≡ Ok (Some c)
    → (rest : Text) × (map letter units ≡ Plain c ∷ rest)
byte_next stop letter [] c e = absurd cc
byte_next stop letter (unit ∷ units) c e = go (letter unit) e
  where
    go : (l : Letter) → stopped_by stop (looked (Some l)) ≡ Ok (Some c) → (rest : Text) × (l ∷ map letter units ≡ Plain c ∷ rest)
    go Bad e = absurd cc
    go (Plain n) e = (map letter units, let same : n ≡ c = cc in ap (λ m. Plain m ∷ map letter units) same)

-- The first code unit is bad.
pub bad_next : (stop other : Reason) (letter : ℕ → Letter) (units : List ℕ) → stopped_by stop (ascii_at letter 0 units) ≡ Err other
    → (rest : Text) × (map letter units ≡ Bad ∷ rest)
bad_next stop other letter [] e = absurd cc
bad_next stop other letter (unit ∷ units) e = go (letter unit) e
  where
    go : (l : Letter) → stopped_by stop (looked (Some l)) ≡ Err other → (rest : Text) × (l ∷ map letter units ≡ Bad ∷ rest)
    go Bad e = (map letter units, refl)
    go (Plain n) e = absurd cc
