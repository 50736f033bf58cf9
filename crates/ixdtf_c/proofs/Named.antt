-- The name at the index of a number, with a NUL after it.
use Rattle.std.proofs.Common.{◌≡◌, ℕ, ◌≤◌, ◌<◌, List, [], ◌∷◌, ◌++◌, length, map, get_or, ◌∙◌, arith}
use Rattle.std.proofs.Math.ListN.{get_or-map}
use Rattle.std.proofs.lemmas.List.{get_or_default, length-map}
use Rattle.std.proofs.lemmas.Bool.{le-leb}
use Rattle.ixdtf_c.specs.Names.{names, name_of}

-- A name with a NUL after it.
abbrev pub ended : List ℕ → List ℕ
ended name = name ++ 0 ∷ []

pub ended_at : (all : List (List ℕ)) (i : ℕ) (other : List ℕ) → i < length all → get_or (map ended all) i other ≡ ended (get_or all i [])
ended_at all i other less = get_or_default (map ended all) i other (ended []) (rw (length-map all ended) less) ∙ get_or-map ended all i []

pub named : (number : ℕ) (other : List ℕ) → number ≤ 46 → get_or (map ended names) number other ≡ ended (name_of number)
named number other less = rw (le-leb number 46 less) (ended_at names number other (omega (arith, less)))
