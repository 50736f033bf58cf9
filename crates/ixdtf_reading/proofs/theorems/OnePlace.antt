-- A fault that a text and the replies to its annotations give has only one position.
use Rattle.std.proofs.Common.{◌≡◌, ◌≢◌, ◌⊎◌, ℕ, List, [], ◌∷◌, ◌++◌, Result, Err, length, refl, sym, ap, ◌∙◌, subst, inl, inr, arith}
use Rattle.std.proofs.lemmas.List.{length-append, length-map, append-nil, append_cancel_left}
use Rattle.ixdtf_grammar.specs.{Handlers.{Reply, LastRefused, GivesFault, own_replies}, Laws.OnePlace}
use Rattle.ixdtf_grammar.specs.{Places.{GivesFaultAt, UnhandledFaultAt, UnhandledOnlyPlace}, language.{Letters.Text, Brackets.{Pair, ArePairs}}}
use Rattle.ixdtf_grammar.specs.{language.{Readers.{Reader, Reader.bracketed, CoreKind}, Languages.{Parsed, Derives, Found.parsed}}, table.Faults.Fault}
use Rattle.ixdtf_reading.proofs.theorems.{OneChain.{last_once, alike}, OneOutcome.{one_outcome, place_once, derived_goes_on}, Replies.refused_last}
use Rattle.ixdtf_reading.proofs.theorems.OneUnhandledOutcome.{own}

-- If the grammar derives the same annotations, at least one, from a prefix and from the text, nothing follows the prefix.
same_front : (reader : Reader) (front rest : Text) (read whole : Parsed) (pairs : List Pair) → pairs ≢ [] → Derives reader front (parsed read) pairs
    → Derives reader (front ++ rest) (parsed whole) pairs → rest ≡ []
same_front reader front rest read whole pairs some d h =
    let (more, is, are) = derived_goes_on reader front rest read whole pairs pairs d h in
    subst (λ others. ArePairs rest others) (append_cancel_left pairs more [] (sym is ∙ sym (append-nil pairs))) (are some)

-- Of two prefixes of a text, one continues the other.
front_of_other : (front rest front' rest' : Text) → front ++ rest ≡ front' ++ rest'
    → ((more : Text) × (front' ≡ front ++ more)) ⊎ ((more : Text) × (front ≡ front' ++ more))
front_of_other [] rest front' rest' e = inl (front', refl)
front_of_other (x ∷ front) rest [] rest' e = inr (x ∷ front, refl)
front_of_other (x ∷ front) rest (y ∷ front') rest' e =
    let head : x ≡ y = cc in
    let tail : front ++ rest ≡ front' ++ rest' = cc in
    elim (front_of_other front rest front' rest' tail) [
      | inl p ↦ inl (p.0, λ i. sym head i ∷ p.1 i)
      | inr p ↦ inr (p.0, λ i. head i ∷ p.1 i)
    ]

whole_length : (front more : Text) → more ≡ [] → length (front ++ more) ≡ length front
whole_length front more none = omega (arith, length-append front more, ap (λ t. length t) none)

-- Two prefixes of a text from which the same annotations are derived, at least one, have the same length.
pub fronts_alike : (reader : Reader) (front rest front' rest' : Text) (read read' : Parsed) (pairs : List Pair) → front ++ rest ≡ front' ++ rest' → pairs ≢ []
    → Derives reader front (parsed read) pairs → Derives reader front' (parsed read') pairs → length front ≡ length front'
fronts_alike reader front rest front' rest' read read' pairs e some d d' = elim (front_of_other front rest front' rest' e) [
  | inl p ↦ sym (ap (λ t. length t) p.1 ∙ whole_length front p.0 (same_front reader front p.0 read read' pairs some d (rw p.1 at d')))
  | inr p ↦ ap (λ t. length t) p.1 ∙ whole_length front' p.0 (same_front reader front' p.0 read' read pairs some d' (rw p.1 at d))
]

-- ---- faults

-- If there are as many replies as annotations, and the last one is refused, there is an annotation.
some_pairs : (pairs : List Pair) (replies : List Reply) (fault : Fault) → length replies ≡ length pairs → LastRefused replies fault → pairs ≢ []
some_pairs pairs replies fault lengths last none = absurd
    (omega (arith, lengths, ap length none, ap length last.split, length-append last.earlier (last.reply ∷ [])))

pub one_place : OnePlace
one_place reader text pairs replies fault at lengths (inl h) other there (inl g) =
    let some = some_pairs pairs replies fault lengths h.1 in (
      last_once replies other fault g.1 h.1,
      g.0.3 ∙ fronts_alike reader g.0.0 g.0.1 h.0.0 h.0.1 g.0.4 h.0.4 pairs (sym g.0.2 ∙ h.0.2) some g.0.5 h.0.5 ∙ sym h.0.3,
    )
one_place reader text pairs replies fault at lengths (inl h) other there (inr g) = absurd (refused_last replies [] fault h.1 (rw (append-nil replies) g.1))
one_place reader text pairs replies fault at lengths (inr h) other there (inl g) = absurd (refused_last replies [] other g.1 (rw (append-nil replies) h.1))
one_place reader text pairs replies fault at lengths (inr h) other there (inr g) = place_once reader text pairs fault at h.0 other pairs there g.0

-- A fault without its position.
pub without_place : (reader : Reader) (text : Text) (pairs : List Pair) (replies : List Reply) (fault : Fault) (at : ℕ)
    → GivesFaultAt reader text pairs replies fault at → GivesFault reader text pairs replies fault
without_place reader text pairs replies fault at (inl h) = inl ((h.0.0, h.0.1, h.0.2, h.0.4, h.0.5), h.1)
without_place reader text pairs replies fault at (inr h) = inr ((h.0.0, h.0.1, h.0.2), h.1)

-- If the reply to each annotation is the annotation itself, two faults have the same annotations before them.
pub one_unhandled_place : (kind : CoreKind) (text : Text) (fault : Fault) (at : ℕ) → UnhandledFaultAt (bracketed kind) text fault at
    → UnhandledOnlyPlace (bracketed kind) text fault at
one_unhandled_place kind text fault at (pairs, h) other there (others, g) =
    let one = one_outcome (bracketed kind) text in
    let given = without_place (bracketed kind) text pairs (own_replies pairs) fault at h in
    let other_given = without_place (bracketed kind) text others (own_replies others) other there g in
    let same = alike own_replies own kind text text one.0 one.1 one.1 (others, Err other) (pairs, Err fault) other_given given in
    let pairs_are : others ≡ pairs = ap (λ (c : List Pair × Result Parsed Fault). c.0) same in
    one_place (bracketed kind) text pairs (own_replies pairs) fault at (length-map pairs _) h other there
    (subst (λ ps. GivesFaultAt (bracketed kind) text ps (own_replies ps) other there) pairs_are g)
