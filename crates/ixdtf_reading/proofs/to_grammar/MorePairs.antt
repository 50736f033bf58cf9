-- Reading the annotations after complete brackets returns the annotations of the text, or the fault of a row after complete ones.
use Rattle.std.proofs.Common.{◌≡◌, ℕ, zero, suc, ◌<◌, List, [], ◌∷◌, ◌++◌, length, Ok, Err, Option, Some, None, refl, sym, ap, ◌∙◌, subst, arith}
use Rattle.std.proofs.{Common.{append_assoc, append-nil}, lemmas.Bool.eqb-true}
use Rattle.ixdtf_grammar.specs.{language.{Letters.{Text, opening}, Shapes.nothing, Brackets.{Pair, IsPair, ArePairs}}, table.Faults.Fault.InvalidEnd}
use Rattle.ixdtf_grammar.specs.table.{LineNames.{LineName.of_bracket, BracketLine.after_bracket}, Lines.always, Rows.Row}
use Rattle.ixdtf_reading.specs.reading.{Looks.{Read, Placed, ◌>>=◌, error_of, look_at_line, peek_by}, Pairs.{later_pair_at, next_pair_at, pairs_at}}
use Rattle.ixdtf_reading.specs.reading.Chains.{FitsAfterBrackets, PairsUpTo}
use Rattle.ixdtf_reading.proofs.{parts.Looks.{OnRead, Peeked, peek_line_read, then_read}, to_reading.{Pair.later_pair_takes, MorePairs.shorter}}
use Rattle.ixdtf_reading.proofs.to_grammar.Pair.{later_pair_read}

-- What is true if reading the next annotation returned this result.
abbrev pub NextPair : Text → Option Pair → Text → Type 0
NextPair text None rest = (text ≡ []) × (rest ≡ [])
NextPair text (Some pair) rest = (bracket : Text) × (text ≡ bracket ++ rest) × IsPair bracket pair

module _ {E : Type 0} (fault : Row → E) (text : Text) where
  abbrev pub OnNext : Read E (Option Pair) → Type 0
  OnNext r = OnRead fault r (NextPair text) (λ row. FitsAfterBrackets row text)

  at_next : (next : Option ℕ) (more : Text) → Peeked opening text next more
      → OnNext (elim next [ None ↦ Ok (None, more) | Some c ↦ later_pair_at fault more >>= λ pair. Ok (Some pair.0, pair.1) ])
  at_next None more g = g
  at_next (Some c) more g = then_read fault (later_pair_at fault more) _ _ _ _ _
      (later_pair_read fault text more (g.0 ∙ rw (eqb-true c 91 g.1)))
      (λ pair rest h. h)
      (λ row f. f)

  pub next_read : OnNext (next_pair_at fault text)
  unfolding next_pair_at
  next_read = then_read fault (peek_by (look_at_line fault (of_bracket after_bracket)) text) _ _ _ _ _
      (peek_line_read fault (of_bracket after_bracket) nothing opening (always InvalidEnd) text)
      at_next
      (λ row g. ([], text, refl, rw g.0, ([], text, refl, rw g.0, rw g.0 g.1)))

-- What is true if the code read the next annotation.
pub next_is : (text rest : Text) (found : Option Pair) → next_pair_at error_of text ≡ Ok (found, rest) → NextPair text found rest
next_is text rest found is = subst (OnNext error_of text) is (next_read error_of text)

pub next_fault : (text : Text) (fault : Placed) → next_pair_at error_of text ≡ Err fault → (row : Row) × FitsAfterBrackets row text × (error_of row ≡ fault)
next_fault text fault is = let found = subst (OnNext error_of text) is (next_read error_of text) in (found.0, found.2, sym found.1)

module _ {E : Type 0} (fault : List Pair → Row → E) where
  -- What is true for the result of reading the annotations after these ones.
  abbrev pub OnPairs : List Pair → Text → Read E (List Pair) → Type 0
  OnPairs pairs text (Ok x) = (x.1 ≡ []) × (more : List Pair) × (x.0 ≡ pairs ++ more) × ArePairs text more
  OnPairs pairs text (Err e) =
      (more : List Pair) × (rest : Text) × PairsUpTo text more rest × (row : Row) × (e ≡ fault (pairs ++ more) row) × FitsAfterBrackets row rest

  -- A row fits before any further annotation.
  at_once : (pairs : List Pair) (text : Text) (e : E) (row : Row) → e ≡ fault pairs row → FitsAfterBrackets row text → OnPairs pairs text (Err e)
  at_once pairs text e row is f = ([], text, ([], refl, refl), row, rw (append-nil pairs) is, f)

  -- An annotation, and then more annotations.
  one_before : (pairs : List Pair) (pair : Pair) (text front rest : Text) → text ≡ front ++ rest → IsPair front pair → (r : Read E (List Pair))
      → OnPairs (pairs ++ (pair ∷ [])) rest r → OnPairs pairs text r
  one_before pairs pair text front rest is is_pair (Ok x) h = (h.0, pair ∷ h.1, h.2 ∙ append_assoc pairs (pair ∷ []) h.1, (front, rest, is, is_pair, h.3))
  one_before pairs pair text front rest is is_pair (Err e) h = (
    pair ∷ h.0,
    h.1,
    (front ++ h.2.0, is ∙ rw h.2.1 (simp append_assoc), (front, h.2.0, refl, is_pair, h.2.2)),
    h.3,
    h.4 ∙ ap (λ ps. fault ps h.3) (append_assoc pairs (pair ∷ []) h.0),
    h.5,
  )

  pub pairs_read : (n : ℕ) (pairs : List Pair) (text : Text) → length text < n → OnPairs pairs text (pairs_at fault n pairs text)
  unfolding pairs_at
  pairs_read zero pairs text less = absurd (omega (arith, less))
  pairs_read (suc n) pairs text less = after_next (pairs_read n) (next_pair_at (fault pairs) text) (next_read (fault pairs) text)
    where
      after_next : ((ps : List Pair) (t : Text) → length t < n → OnPairs ps t (pairs_at fault n ps t)) → (r : Read E (Option Pair))
          → OnNext (fault pairs) text r → OnPairs pairs text (r >>= λ next. elim next.0 [
            | None ↦ Ok (pairs, next.1)
            | Some pair ↦ pairs_at fault n (pairs ++ (pair ∷ [])) next.1
          ])
      after_next rec (Err e) h = at_once pairs text e h.0 h.1 h.2
      after_next rec (Ok (None, rest)) h = (h.1, [], sym (append-nil pairs), h.0)
      after_next rec (Ok (Some pair, rest)) h =
          let first = later_pair_takes (fault pairs) h.0 [] pair h.2 in
          one_before pairs pair text h.0 rest h.1 h.2 (pairs_at fault n (pairs ++ (pair ∷ [])) rest)
          (rec (pairs ++ (pair ∷ [])) rest (shorter text h.0 first.0 rest 91 n first.1 h.1 less))
