-- A look finds the first code unit of the text, or that the text is empty.
use Rattle.ixdtf_grammar.specs.declared.reason.Reason.{Reason}
use Rattle.std.proofs.Common.{◌≡◌, ℕ, [], ◌∷◌, drop, Some, None, Ok, refl, ap}
use Rattle.ixdtf_grammar.specs.language.Letters.{Text, Letter.{Plain, Bad}}
use Rattle.ixdtf_reading.specs.{reading.Looks.{look_at, seen}}

-- A look found the code unit `c`.
pub first_is : (stop : Reason) (text : Text) (c : ℕ) → seen stop text ≡ Ok (Some c) → text ≡ Plain c ∷ drop 1 text
unfolding look_at
first_is stop (Plain n ∷ more) c e = ap (λ m. Plain m ∷ more) cc
first_is stop text c e = absurd cc

-- A look found no code unit.
pub nothing_is : (stop : Reason) (text : Text) → seen stop text ≡ Ok None → text ≡ []
unfolding look_at
nothing_is stop [] e = refl
nothing_is stop (Plain n ∷ more) e = absurd cc
nothing_is stop (Bad ∷ more) e = absurd cc
