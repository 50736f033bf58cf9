-- The first code unit of a text as a byte, which is 0 if there is none, and what the reading functions do by it.
use Rattle.ixdtf_grammar.specs.declared.reason.Reason.{Reason}
use Rattle.std.proofs.Common.{◌≡◌, ◌∙◌, ◌+◌, ◌≤◌, ℕ, true, false, List, [], ◌∷◌, length, map, drop, Result, Ok, Err, refl, ap, arith}
use Rattle.std.proofs.lemmas.Bool.Decides.{nat_tests}
use Rattle.ixdtf_grammar.specs.language.Letters.{Letter, Text, Class, value_char, key_lead, exclamation, Letter.{Plain, Bad}}
use Rattle.ixdtf_grammar.specs.table.LineNames.{LineName.of_pair, PairLine.{key_start, critical_key_start}}
use Rattle.ixdtf_reading.specs.{reading.Stops.reason_of}
use Rattle.ixdtf_grammar.specs.Views.{Unread}
use Rattle.ixdtf_reading.specs.reading.{Looks.{Read, Placed, look_at, look_for, next_by, mark_by, error_of}, FixedPlaces.byte_place, Clauses.Reads}
use Rattle.ixdtf_reading.specs.reading.Pairs.{BeginsKey, component_look, pair_at, critical_pair_at, later_pair_at}

-- What a function returned for the text in the middle, it returned for the text before, if one reading function continues as the other.
module _ {X Y : Type 0} (letter : ℕ → Letter) (view : X → Y) (old middle new : Unread) (reading next : Text → Read Placed Y) where
  pub reads_as : (result : Result X Reason) → reading (map letter old.rest) ≡ next (map letter middle.rest) → Reads letter view middle result new next
      → Reads letter view old result new reading
  reads_as (Ok x) same read = same ∙ read
  reads_as (Err stop) same read = same ∙ read

-- A class that does not contain 0.
module _ (class : Class) (zero_out : class 0 ≡ false) where
  module _ (stop : Reason) where
    pub taken : (text : Text) → class (byte_place 0 text) ≡ true → next_by (look_for class stop) text ≡ Ok (byte_place 0 text, drop 1 text)
    unfolding next_by look_at
    taken [] is = absurd cc
    taken (Bad ∷ rest) is = absurd cc
    taken (Plain c ∷ rest) is = rw is refl

    pub refused : (text : Text) → class (byte_place 0 text) ≡ false → next_by (look_for class stop) text ≡ Err (stop, text)
    unfolding next_by look_at
    refused [] out = refl
    refused (Bad ∷ rest) out = refl
    refused (Plain c ∷ rest) out = rw out refl

  -- If the first code unit is in the class, the source has one code unit more than after it.
  pub one_fewer : (letter : ℕ → Letter) (units next : List ℕ) → class (byte_place 0 (map letter units)) ≡ true → next ≡ drop 1 units
      → length next + 1 ≡ length units
  one_fewer letter [] next is moved = absurd cc
  one_fewer letter (unit ∷ units) next is moved = omega (arith, ap (λ t. length t) moved)

-- ---- what follows the first code unit

pub one_behind : (letter : ℕ → Letter) (units : List ℕ) → drop 1 (map letter units) ≡ map letter (drop 1 units)
one_behind letter [] = refl
one_behind letter (unit ∷ units) = refl

pub two_behind : (letter : ℕ → Letter) (units : List ℕ) → drop 1 (drop 1 (map letter units)) ≡ map letter (drop 2 units)
two_behind letter [] = refl
two_behind letter (unit ∷ []) = refl
two_behind letter (unit ∷ (next ∷ units)) = refl

pub drop_two : (units : List ℕ) → drop 2 units ≡ drop 1 (drop 1 units)
drop_two [] = refl
drop_two (unit ∷ units) = refl

-- If a class that does not contain 0 has the second code unit, the source has two code units.
pub two_there : (class : Class) → class 0 ≡ false → (letter : ℕ → Letter) (units : List ℕ) → class (byte_place 1 (map letter units)) ≡ true → 2 ≤ length units
two_there class zero_out letter [] is = absurd cc
two_there class zero_out letter (unit ∷ []) is = absurd cc
two_there class zero_out letter (unit ∷ (next ∷ units)) is = omega arith

pub key_there : (letter : ℕ → Letter) (units : List ℕ) → BeginsKey (drop 1 (map letter units)) → 2 ≤ length units
key_there letter [] begins = absurd begins
key_there letter (unit ∷ []) begins = absurd begins
key_there letter (unit ∷ (next ∷ units)) begins = omega arith

-- ---- components of values

pub component_taken : (stop : Reason) (text : Text) → value_char (byte_place 0 text) ≡ true → mark_by (component_look stop) value_char text ≡ Ok (true, drop 1 text)
unfolding mark_by
component_taken stop text is = rw (taken value_char refl stop text is, is) refl

pub component_refused : (stop : Reason) (text : Text) → value_char (byte_place 0 text) ≡ false → mark_by (component_look stop) value_char text ≡ Err (stop, text)
unfolding mark_by
component_refused stop text out = rw (refused value_char refl stop text out) refl

-- ---- the first code unit of an annotation

pub begins_key : (text : Text) → key_lead (byte_place 0 text) ≡ true → BeginsKey text
begins_key [] leads = absurd cc
begins_key (Bad ∷ rest) leads = absurd cc
begins_key (Plain c ∷ rest) leads = leads

no_flag : (c : ℕ) → key_lead c ≡ true → exclamation c ≡ false
no_flag c leads = grind (arith, nat_tests)

pub later_key : (text : Text) → key_lead (byte_place 0 text) ≡ true → later_pair_at error_of text ≡ pair_at error_of false text
unfolding later_pair_at next_by look_at
later_key [] leads = absurd cc
later_key (Bad ∷ rest) leads = absurd cc
later_key (Plain c ∷ rest) leads = rw (leads, no_flag c leads) refl

pub later_flag : (text : Text) → key_lead (byte_place 0 text) ≡ false → exclamation (byte_place 0 text) ≡ true
    → later_pair_at error_of text ≡ critical_pair_at error_of (drop 1 text)
unfolding later_pair_at next_by look_at
later_flag [] out flag = absurd cc
later_flag (Bad ∷ rest) out flag = absurd cc
later_flag (Plain c ∷ rest) out flag = rw (out, flag) (rw flag refl)

pub later_other : (text : Text) → key_lead (byte_place 0 text) ≡ false → exclamation (byte_place 0 text) ≡ false
    → later_pair_at error_of text ≡ Err (reason_of (of_pair key_start), text)
unfolding later_pair_at next_by look_at
later_other [] out flag = refl
later_other (Bad ∷ rest) out flag = refl
later_other (Plain c ∷ rest) out flag = rw (out, flag) refl

pub critical_key : (text : Text) → key_lead (byte_place 0 text) ≡ true → critical_pair_at error_of text ≡ pair_at error_of true text
unfolding critical_pair_at next_by look_at
critical_key [] leads = absurd cc
critical_key (Bad ∷ rest) leads = absurd cc
critical_key (Plain c ∷ rest) leads = rw leads refl

pub critical_other : (text : Text) → key_lead (byte_place 0 text) ≡ false → critical_pair_at error_of text ≡ Err (reason_of (of_pair critical_key_start), text)
unfolding critical_pair_at next_by look_at
critical_other [] out = refl
critical_other (Bad ∷ rest) out = refl
critical_other (Plain c ∷ rest) out = rw out refl
