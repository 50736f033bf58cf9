-- The annotations after complete brackets are read. Each row of their table lines is returned with the annotations before it.
use Rattle.std.proofs.Common.{◌≡◌, ℕ, zero, suc, ◌<◌, ◌+◌, List, [], ◌∷◌, ◌++◌, length, Ok, Err, refl, ap, ◌∙◌, subst, arith, append_assoc, append-nil, true}
use Rattle.std.proofs.lemmas.List.{length-append}
use Rattle.ixdtf_grammar.specs.{language.{Letters.{Text, opening, Letter.Plain}, Shapes.nothing, Brackets.{Pair, ArePairs}}, table.Faults.Fault}
use Rattle.ixdtf_grammar.specs.table.{Faults.Fault.InvalidEnd, LineNames.{LineName, LineName.{of_bracket, of_pair}, BracketLine.after_bracket}, Lines.line_of}
use Rattle.ixdtf_grammar.specs.table.{Lines.always, Rows.{Row, Place, Stops, front_of}}
use Rattle.ixdtf_reading.specs.reading.{Looks.{row_of, look_at_line}, Pairs.{later_pair_at, next_pair_at, pairs_at}, Chains.AfterBrackets}
use Rattle.ixdtf_reading.proofs.{parts.Looks.{peek_end, peek_goes, peek_stops, RowsWhere}, to_reading.Pair.{later_pair_takes, later_pair_rows}}

-- The text after something is shorter than the text from it on.
pub shorter : (whole front inner rest : Text) (c : ℕ) (n : ℕ) → front ≡ Plain c ∷ inner → whole ≡ front ++ rest → length whole < suc n → length rest < n
shorter whole front inner rest c n starts is less =
    let all : length whole ≡ length front + length rest = ap (λ t. length t) is ∙ length-append front rest in
    let first : length front ≡ suc (length inner) = ap (λ t. length t) starts in
    omega (arith, all, first, less)

module _ {E : Type 0} (fault : Row → E) where
  -- Each row of the table line after complete brackets, and of the table lines of an annotation.
  next_row : (name : LineName) → RowsWhere fault true (next_pair_at fault) name (λ prior rest. AfterBrackets name prior)
  unfolding next_pair_at
  next_row (of_bracket after_bracket) place e prior front rest b f at =
      rw (b, f, peek_stops fault (of_bracket after_bracket) nothing opening (always InvalidEnd) place e rest at)
  next_row (of_pair l) place e prior front rest b f at =
      let row = later_pair_rows fault l place e prior front rest b f at in
      rw (← append_assoc prior front rest, row.1, peek_goes (look_at_line fault (of_bracket after_bracket)) 91 (row.0 ++ rest) refl, row.2)
  next_row name place e prior front rest b f at = absurd b

module _ {E : Type 0} (fault : List Pair → Row → E) where
  -- One more annotation.
  one_pair : (pair : Pair) (inner rest : Text) (pairs : List Pair) (n : ℕ) → later_pair_at (fault pairs) (inner ++ rest) ≡ Ok (pair, rest)
      → pairs_at fault (suc n) pairs (Plain 91 ∷ (inner ++ rest)) ≡ pairs_at fault n (pairs ++ (pair ∷ [])) rest
  unfolding pairs_at next_pair_at
  one_pair pair inner rest pairs n read = rw (peek_goes (look_at_line (fault pairs) (of_bracket after_bracket)) 91 (inner ++ rest) refl, read)

  -- Reading goes over annotations. The bound `n` is large enough for the rest.
  pub over_pairs : (more : List Pair) (front rest : Text) (pairs : List Pair) (n : ℕ) → ArePairs front more → length (front ++ rest) < n
      → (m : ℕ) × (length rest < m) × (pairs_at fault n pairs (front ++ rest) ≡ pairs_at fault m (pairs ++ more) rest)
  over_pairs [] front rest pairs n h less = (n, subst (λ t. length (t ++ rest) < n) h less, rw (h, append-nil pairs))
  over_pairs (pair ∷ more) front rest pairs zero h less = absurd (omega (arith, less))
  over_pairs (pair ∷ more) front rest pairs (suc n) h less =
      let read = later_pair_takes (fault pairs) h.0 (h.1 ++ rest) pair h.3 in
      let whole : front ++ rest ≡ h.0 ++ (h.1 ++ rest) = ap (λ t. t ++ rest) h.2 ∙ append_assoc h.0 h.1 rest in
      let next = over_pairs more h.1 rest (pairs ++ (pair ∷ [])) n h.4 (shorter (front ++ rest) h.0 read.0 (h.1 ++ rest) 91 n read.1 whole less) in (
        next.0,
        next.1,
        ap (pairs_at fault (suc n) pairs) (whole ∙ ap (λ t. t ++ (h.1 ++ rest)) read.1)
            ∙ one_pair pair read.0 (h.1 ++ rest) pairs n read.2
            ∙ next.2
            ∙ ap (λ ps. pairs_at fault next.0 ps rest) (append_assoc pairs (pair ∷ []) more),
      )

  pub pairs_end : (n : ℕ) (pairs : List Pair) → 0 < n → pairs_at fault n pairs [] ≡ Ok (pairs, [])
  unfolding pairs_at next_pair_at
  pairs_end zero pairs less = absurd (omega (arith, less))
  pairs_end (suc n) pairs less = rw (peek_end (look_at_line (fault pairs) (of_bracket after_bracket)))

  -- Each row of the table lines of annotations is returned.
  pub pairs_row : (name : LineName) (place : Place) (e : Fault) (prior front rest : Text) (pairs : List Pair) (n : ℕ) → AfterBrackets name prior
      → front_of (line_of true name) front → Stops (line_of true name) place e rest → length (prior ++ (front ++ rest)) < n
      → pairs_at fault n pairs (prior ++ (front ++ rest)) ≡ Err (fault pairs (row_of name place e))
  unfolding pairs_at
  pairs_row name place e prior front rest pairs zero b f at less = absurd (omega (arith, less))
  pairs_row name place e prior front rest pairs (suc n) b f at less = rw (next_row (fault pairs) name place e prior front rest b f at)
