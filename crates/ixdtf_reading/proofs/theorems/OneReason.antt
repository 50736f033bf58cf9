-- An error that a text and the replies to its annotations give has only one reason.
use Rattle.std.proofs.Common.{◌≡◌, ◌⊎◌, List, [], Result, Err, refl, sym, ap, ◌∙◌, subst, inl, inr}
use Rattle.std.proofs.lemmas.List.{length-map, append-nil}
use Rattle.ixdtf_grammar.specs.declared.reason.Reason.{Reason}
use Rattle.ixdtf_grammar.specs.{Handlers.{Reply, GivesFault, own_replies}, Places.{GivesReason, GivesOnlyReason, UnhandledReason, UnhandledOnlyReason}}
use Rattle.ixdtf_grammar.specs.language.{Letters.Text, Brackets.Pair, Readers.{Reader, Reader.bracketed, CoreKind, has_brackets}, Languages.Parsed}
use Rattle.ixdtf_grammar.specs.table.{Faults.Fault, Reasons.{reason_of, Refuses}, Outcomes.{HasReason, OnlyReason, Outcome, Outcome.refused}}
use Rattle.ixdtf_reading.specs.reading.{Chains.TextGives, Looks.Placed}
use Rattle.ixdtf_reading.proofs.theorems.{OneChain.{last_once, alike}, OneOutcome.{one_outcome, same_outcome}, Replies.refused_last}
use Rattle.ixdtf_reading.proofs.theorems.OneUnhandledOutcome.{own}

-- The lines of the rows that fit a text have one reason.
pub reason_once : (reader : Reader) (text : Text) (pairs : List Pair) (reason : Reason) → HasReason reader text pairs reason → OnlyReason reader text reason
reason_once reader text pairs reason h other ys g =
    let same : refused g.0 ys ≡ refused h.0 pairs = same_outcome reader text (refused g.0 ys) (refused h.0 pairs) g.1 h.1 in
    let rows : g.0 ≡ h.0 = cc in
    sym g.2 ∙ ap (λ r. reason_of r.name) rows ∙ h.2

-- A refusal has one reason.
refuses_once : (reason other : Reason) (fault : Fault) → Refuses reason fault → Refuses other fault → other ≡ reason
refuses_once reason other fault (inl h) (inl g) = g.0 ∙ sym h.0
refuses_once reason other fault (inl h) (inr g) = absurd cc
refuses_once reason other fault (inr h) (inl g) = absurd cc
refuses_once reason other fault (inr h) (inr g) = g.0 ∙ sym h.0

pub one_reason : (reader : Reader) (text : Text) (pairs : List Pair) (replies : List Reply) (reason : Reason)
    → GivesReason reader text pairs replies reason → GivesOnlyReason reader text pairs replies reason
one_reason reader text pairs replies reason (inl h) other (inl g) =
    let same : g.1 ≡ h.1 = last_once replies g.1 h.1 g.2 h.2 in
    refuses_once reason other h.1 h.3 (subst (λ fault. Refuses other fault) same g.3)
one_reason reader text pairs replies reason (inl h) other (inr g) = absurd (refused_last replies [] h.1 h.2 (rw (append-nil replies) g.1))
one_reason reader text pairs replies reason (inr h) other (inl g) = absurd (refused_last replies [] g.1 g.2 (rw (append-nil replies) h.1))
one_reason reader text pairs replies reason (inr h) other (inr g) = reason_once reader text pairs reason h.0 other pairs g.0

-- An error with the reason.
without_reason : (reader : Reader) (text : Text) (pairs : List Pair) (replies : List Reply) (reason : Reason)
    → GivesReason reader text pairs replies reason → (fault : Fault) × GivesFault reader text pairs replies fault
without_reason reader text pairs replies reason (inl h) = (h.1, inl (h.0, h.2))
without_reason reader text pairs replies reason (inr h) = (h.0.0.error, inr ((h.0.0, h.0.1, refl), h.1))

-- If the reply to each annotation is the annotation itself, two errors have the same annotations before them.
pub one_unhandled_reason : (kind : CoreKind) (text : Text) (reason : Reason) → UnhandledReason (bracketed kind) text reason
    → UnhandledOnlyReason (bracketed kind) text reason
one_unhandled_reason kind text reason (pairs, h) other (others, g) =
    let one = one_outcome (bracketed kind) text in
    let given = without_reason (bracketed kind) text pairs (own_replies pairs) reason h in
    let other_given = without_reason (bracketed kind) text others (own_replies others) other g in
    let same = alike own_replies own kind text text one.0 one.1 one.1 (others, Err other_given.0) (pairs, Err given.0) other_given.1 given.1 in
    let pairs_are : others ≡ pairs = ap (λ (c : List Pair × Result Parsed Fault). c.0) same in
    one_reason (bracketed kind) text pairs (own_replies pairs) reason h other
    (subst (λ ps. GivesReason (bracketed kind) text ps (own_replies ps) other) pairs_are g)

-- A text and replies that end at a reason give an error with this reason.
pub reason_given : (reader : Reader) (text : Text) (pairs : List Pair) (replies : List Reply) (reason : Reason) (left : Text)
    → TextGives reader text pairs replies (Err (reason, left)) → GivesReason reader text pairs replies reason
reason_given reader text pairs replies reason left gives = elim gives [
  | inl p ↦ inl ((p.0.0, left, p.0.1, p.0.2, p.0.3), p.1.0, p.1.1, p.1.2)
  | inr p ↦ inr ((p.0.0, p.0.1, ap (λ (q : Placed). q.0) p.0.2), p.1)
]
