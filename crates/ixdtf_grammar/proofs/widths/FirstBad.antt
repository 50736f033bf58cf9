-- Lemmas about a text with a bad code unit, and another text with the same code units before the first bad one. What is proved about the
-- first text up to its first bad code unit is then true of the other text.
use Rattle.std.proofs.Common.{◌≡◌, ◌⊎◌, [], ◌∷◌, ◌++◌, refl, ◌∙◌, ap, subst, inl, inr}
use Rattle.ixdtf_grammar.specs.language.{Letters.{Text, Class, Letter.{Plain, Bad}}, Shapes.{Shape, nothing, ◌then◌, ◌either◌, anything}, Brackets.FirstIs}
use Rattle.ixdtf_grammar.specs.table.{Faults.Fault, Lines.{Line, Line.{line, scanned, whole}}, Rows.{Place, Stops, left_at}}
use Rattle.ixdtf_grammar.specs.table.Rows.Place.{end, other, bad, anywhere}
use Rattle.ixdtf_grammar.proofs.{theorems.NoRow.BeginsBad, widths.PlainTexts.{IsPlain, PlainShape, plain_nowhere, plain_one, plain_many}}

-- The text has a bad code unit, and the other text begins with the code units before the first bad one.
abbrev pub Sees : Text → Text → Type 0
Sees [] other_text = ⊥
Sees (Bad ∷ rest) other_text = Unit {0}
Sees (Plain c ∷ rest) other_text = (more : Text) × (other_text ≡ Plain c ∷ more) × Sees rest more

pub plain_sees_nothing : (text other_text : Text) → IsPlain text → ¬ (Sees text other_text)
plain_sees_nothing [] other_text plain sees = sees
plain_sees_nothing (Bad ∷ text) other_text plain sees = plain.0
plain_sees_nothing (Plain c ∷ text) other_text plain sees = plain_sees_nothing text sees.0 plain.1 sees.2

-- A plain prefix of a text with a bad code unit is also a prefix of the other text.
pub sees_after : (front rest other_text : Text) → IsPlain front → Sees (front ++ rest) other_text
    → (more : Text) × (other_text ≡ front ++ more) × Sees rest more
sees_after [] rest other_text plain sees = (other_text, refl, sees)
sees_after (Bad ∷ front) rest other_text plain sees = absurd plain.0
sees_after (Plain c ∷ front) rest other_text plain sees =
    let next = sees_after front rest sees.0 plain.1 sees.2 in
    (next.0, sees.1 ∙ ap (λ t. Plain c ∷ t) next.1, next.2)

-- ---- shapes of a text up to the first bad code unit

-- If the text has the shape, the other text has the shape too.
pub record Moves (shape : Shape) : Type 0 where
  pub moved : (text other_text : Text) → Sees text other_text → shape text → shape other_text

pub moves_anything : Moves anything
moves_anything = record { moved = λ text other_text sees h. tt }

pub moves_nothing : Moves nothing
moves_nothing = record { moved = λ text other_text sees h. absurd (subst (λ t. Sees t other_text) h sees) }

pub moves_then : {a b : Shape} → PlainShape a → Moves b → Moves (a then b)
moves_then x y = record {
  moved = λ text other_text sees h.
      let next = sees_after h.0 h.1 other_text (x.plain h.0 h.3) (rw (← h.2) sees) in
      (h.0, next.0, next.1, h.3, y.moved h.1 next.0 next.2 h.4);
}

pub moves_either : {a b : Shape} → Moves a → Moves b → Moves (a either b)
moves_either x y = record {
  moved = λ text other_text sees h. elim h [
    | inl p ↦ inl (x.moved text other_text sees p)
    | inr p ↦ inr (y.moved text other_text sees p)
  ];
}

pub moves_first : {class : Class} → Moves (FirstIs class)
moves_first = moves_then (plain_many plain_one) (moves_then plain_one moves_anything)

-- ---- the text before a prefix, and the text from it on

-- The text before the prefix is plain, and what is known about the rest of the text is also known about the rest of the other text.
pub record Stands (known : Text → Text → Type 0) : Type 0 where
  pub plain : (before rest : Text) → known before rest → IsPlain before
  pub moved : (before rest other_rest : Text) → Sees rest other_rest → known before rest → known before other_rest

-- There is no condition on the rest.
pub alone : {shape : Shape} → PlainShape shape → Stands (λ before rest. shape before)
alone x = record { plain = λ before rest h. x.plain before h; moved = λ before rest other_rest sees h. h }

-- There is a condition on the rest.
pub ahead : {shape seen : Shape} → PlainShape shape → Moves seen → Stands (λ before rest. shape before × seen rest)
ahead x y = record { plain = λ before rest h. x.plain before h.0; moved = λ before rest other_rest sees h. (h.0, y.moved rest other_rest sees h.1) }

-- There is a condition on the rest, and a condition that does not depend on the text.
pub ahead_where : {shape seen : Shape} {more : Type 0} → PlainShape shape → Moves seen → Stands (λ before rest. shape before × seen rest × more)
ahead_where x y = record { plain = λ before rest h. x.plain before h.0; moved = λ before rest other_rest sees h. (h.0, y.moved rest other_rest sees h.1, h.2) }

-- There is one more condition, which does not depend on the text.
pub besides : {known : Text → Text → Type 0} {more : Type 0} → Stands known → Stands (λ before rest. known before rest × more)
besides x = record { plain = λ before rest h. x.plain before rest h.0; moved = λ before rest other_rest sees h. (x.moved before rest other_rest sees h.0, h.1) }

pub stands_either : {known known' : Text → Text → Type 0} → Stands known → Stands known' → Stands (λ before rest. known before rest ⊎ known' before rest)
stands_either x y = record {
  plain = λ before rest h. elim h [
    | inl p ↦ x.plain before rest p
    | inr p ↦ y.plain before rest p
  ];
  moved = λ before rest other_rest sees h. elim h [
    | inl p ↦ inl (x.moved before rest other_rest sees p)
    | inr p ↦ inr (y.moved before rest other_rest sees p)
  ];
}

-- The line does not apply.
pub never : Stands (λ before rest. ⊥)
never = alone plain_nowhere

-- ---- the place of a row

-- This is the same place in another text, which has `rest` from there on.
abbrev pub moved_to : Text → Place → Place
moved_to rest (end left) = end rest
moved_to rest (other left) = other rest
moved_to rest (bad left) = bad rest
moved_to rest (anywhere left) = anywhere rest

-- The rest of the other text from this place on is `rest`.
pub left_moved : (rest : Text) (place : Place) → left_at (moved_to rest place) ≡ rest
left_moved rest (end left) = refl
left_moved rest (other left) = refl
left_moved rest (bad left) = refl
left_moved rest (anywhere left) = refl

-- A row fits at a bad code unit, or it fits at the same place in the other text.
pub stops_move : (l : Line) (place : Place) (fault : Fault) (rest other_rest : Text) → Sees rest other_rest → Stops l place fault rest
    → BeginsBad fault rest ⊎ Stops l (moved_to other_rest place) fault other_rest
stops_move (line front goes_on at_end at_other) (end left) fault rest other_rest sees h = absurd (subst (λ t. Sees t other_rest) h.0 sees)
stops_move (line front goes_on at_end at_other) (other left) fault rest other_rest sees h =
    let next = subst (λ t. Sees t other_rest) h.2 sees in inr (h.0, next.0, next.1, h.3, h.4, refl)
stops_move (line front goes_on at_end at_other) (bad left) fault rest other_rest sees h = inl (h.0, h.1, h.2)
stops_move (scanned front e) (end left) fault rest other_rest sees h = absurd (subst (λ t. Sees t other_rest) h.0 sees)
stops_move (scanned front e) (bad left) fault rest other_rest sees h = inl (h.0, h.1, h.2)
stops_move (whole front e) (anywhere left) fault rest other_rest sees h = inr (h.0, refl)
stops_move l place fault rest other_rest sees h = absurd h
