-- 8-bit and 16-bit text: the numbers 1 to 126 are the same code units in both. As a 16-bit code unit, any other number is `Bad`.
use Rattle.std.proofs.Common.{◌≡◌, ◌⊎◌, ℕ, suc, ◌-◌, length, arith, Bool, true, false, IsTrue, IsFalse, List, [], ◌∷◌, ◌++◌, All, Any}
use Rattle.std.proofs.{Common.{if◌then◌else◌, refl, sym, ◌∙◌, ap, subst, inl, inr}, lemmas.{List.length-append, Bool.both_ways}}
use Rattle.std.proofs.lemmas.List.Elements.{All-nil, All-cons, All-head, All-tail}
use Rattle.ixdtf_grammar.specs.{Handlers.{UnhandledFault, own_replies}, Places.{UnhandledFaultAt, HasUnhandledFaultAt}, Widths.UnhandledOutcome}
use Rattle.ixdtf_grammar.specs.Widths.{HasWithPairs, HasAlone, HasUnhandledOutcome, is_shared, wide_text, byte_text, mask, SameWhereShared}
use Rattle.ixdtf_grammar.specs.Widths.{FaultWhereNotShared, SamePlaceWhereShared, PlaceWhereNotShared, IsFirstNotShared, NonAsciiIsFirst, NonAsciiIsWide}
use Rattle.ixdtf_grammar.specs.{Widths.UnhandledOutcome.{read_as, faulted}, language.{Brackets.Pair, Languages.{Found, Derives}}}
use Rattle.ixdtf_grammar.specs.language.Languages.{Derives.{as_parsed, as_dated, as_shifted, as_identified, as_named, as_lasting}, Found.parsed}
use Rattle.ixdtf_grammar.specs.{language.{Letters.{Text, wide_letter, Letter.{Plain, Bad}}, Readers.{Reader, CoreKind, Reader.bracketed}}, table.Faults.Fault}
use Rattle.ixdtf_grammar.specs.table.{Faults.Fault.NonAsciiCodePoint, Outcomes.{HasFault, HasFaultAt}, Rows.left_at}
use Rattle.ixdtf_grammar.proofs.{theorems.NoRow.fault_of_bad, widths.FirstBad.{Sees, plain_sees_nothing, sees_after, left_moved}}
use Rattle.ixdtf_grammar.proofs.widths.{PlainDateTimes.{date_time_plain}, PlainDurations.{duration_plain}}
use Rattle.ixdtf_grammar.proofs.widths.PlainTexts.{IsPlain, plain_append, signed_plain, zone_plain, plain_name, core_plain, tail_plain}
use Rattle.ixdtf_reading.proofs.theorems.{OnePlace.without_place, Replies.refused_split}
use Rattle.ixdtf_reading.proofs.theorems.RowPlaces.{left_fits}
use Rattle.ixdtf_reading.proofs.{theorems.OneUnhandledOutcome.unhandled_outcome, widths.PlainBefore.{row_moved, fits_move}}

-- ---- numbers

shared_letter : (n : ℕ) → IsTrue (is_shared n) → wide_letter n ≡ Plain n
shared_letter n h = rw h refl

same_letters : (numbers : List ℕ) → All (λ n. IsTrue (is_shared n)) numbers → wide_text numbers ≡ byte_text numbers
same_letters [] all = refl
same_letters (n ∷ numbers) all =
    let first = shared_letter n (All-head (λ x. IsTrue (is_shared x)) n numbers all) in
    let others = same_letters numbers (All-tail (λ x. IsTrue (is_shared x)) n numbers all) in λ i. first i ∷ others i

-- The text of the mask has the same code units before the first number that is not shared, or each number is shared.
sees_or_shared : (numbers : List ℕ) → Sees (wide_text numbers) (byte_text (mask numbers)) ⊎ All (λ n. IsTrue (is_shared n)) numbers
sees_or_shared [] = inr (All-nil (λ n. IsTrue (is_shared n)))
sees_or_shared (n ∷ numbers) = by_first _ refl (sees_or_shared numbers)
  where
    by_first : (b : Bool) → is_shared n ≡ b → Sees (wide_text numbers) (byte_text (mask numbers)) ⊎ All (λ n. IsTrue (is_shared n)) numbers
        → Sees (wide_letter n ∷ wide_text numbers) (Plain (if is_shared n then n else 128) ∷ byte_text (mask numbers)) ⊎ All (λ n. IsTrue (is_shared n)) (n ∷ numbers)
    by_first true is (inl more) = rw is (inl (byte_text (mask numbers), refl, more))
    by_first true is (inr all) = inr (All-cons (λ n. IsTrue (is_shared n)) n numbers is all)
    by_first false is more = rw is (inl tt)

sees_where_not_shared : (numbers : List ℕ) → Any (λ n. IsFalse (is_shared n)) numbers → Sees (wide_text numbers) (byte_text (mask numbers))
sees_where_not_shared numbers some = elim (sees_or_shared numbers) [
  | inl sees ↦ sees
  | inr all ↦ absurd (both_ways _ some.4 (ap is_shared (sym some.3) ∙ all some.0 some.1 some.2))
]

-- ---- outcomes

-- If a reader derives something from a text, the text has no `Bad`.
derived_plain : (reader : Reader) (text : Text) (found : Found) (pairs : List Pair) → Derives reader text found pairs → IsPlain text
derived_plain reader text found pairs (as_parsed h) =
    rw h.is (plain_append h.cores h.brackets (core_plain _ h.cores h.core h.is_core) (tail_plain _ h.brackets h.zone pairs h.is_tail))
derived_plain reader text found pairs (as_dated h) = date_time_plain text h.0 h.1
derived_plain reader text found pairs (as_shifted h) = signed_plain _ _ text _ h
derived_plain reader text found pairs (as_identified h) = zone_plain text _ h
derived_plain reader text found pairs (as_named h) = plain_name.plain text h.0
derived_plain reader text found pairs (as_lasting h) = duration_plain _ text _ h

-- The first `Bad` of the text is after this number of code units.
abbrev FirstBadAt : Text → ℕ → Type 0
FirstBadAt text at = (front more : Text) × IsPlain front × (text ≡ front ++ (Bad ∷ more)) × (at ≡ length front)

-- The fault is that of the first `Bad`, or another statement is true.
abbrev BadOr : Text → Fault → ℕ → Type 0 → Type 0
BadOr text fault at also = ((fault ≡ NonAsciiCodePoint) × FirstBadAt text at) ⊎ also

fault_moves : (reader : Reader) (text other_text : Text) → Sees text other_text → (pairs : List Pair) (fault : Fault) (at : ℕ)
    → HasFaultAt reader text pairs fault at → BadOr text fault at (HasFaultAt reader other_text pairs fault at)
fault_moves reader text other_text sees pairs fault at (row, fits, has, lengths) =
    let (front, plain, is, moved) = fits_move reader row pairs text other_text sees fits in
    let stands : at ≡ length front = omega (arith, lengths, ap (λ t. length t) is, length-append front (left_at row.place)) in elim moved [
      | inl p ↦ inl (sym has ∙ p.2, (front, p.0, plain, is ∙ ap (λ t. front ++ t) p.1, stands))
      | inr p ↦ inr (
        row_moved p.0 row,
        p.2,
        has,
        omega (arith, stands, ap (λ t. length t) (left_moved p.0 row.place), ap (λ t. length t) p.1, length-append front p.0),
      )
    ]

-- A refused annotation is in a prefix that the grammar derives. So the other text has the same prefix.
unhandled_fault_moves : (reader : Reader) (text other_text : Text) → Sees text other_text → (fault : Fault) (at : ℕ) → UnhandledFaultAt reader text fault at
    → BadOr text fault at (UnhandledFaultAt reader other_text fault at)
unhandled_fault_moves reader text other_text sees fault at (pairs, inl h) =
    let front = h.0 in
    let plain = derived_plain reader front.0 _ pairs front.5 in
    let next = sees_after front.0 front.1 other_text plain (rw (← front.2) sees) in
    inr (pairs, inl ((front.0, next.0, next.1, front.3, front.4, front.5), h.1))
unhandled_fault_moves reader text other_text sees fault at (pairs, inr h) = elim (fault_moves reader text other_text sees pairs fault at h.0) [
  | inl p ↦ inl p
  | inr other_fault ↦ inr (pairs, inr (other_fault, h.1))
]

-- A fault has a position.
row_place : (reader : Reader) (text : Text) (pairs : List Pair) (fault : Fault) → HasFault reader text pairs fault → (at : ℕ) × HasFaultAt reader text pairs fault at
row_place reader text pairs fault (row, fits, has) =
    let short = left_fits reader row pairs text fits in (length text - length (left_at row.place), (row, fits, has, omega (arith, short)))

unhandled_place : (reader : Reader) (text : Text) (fault : Fault) → UnhandledFault reader text fault → (at : ℕ) × UnhandledFaultAt reader text fault at
unhandled_place reader text fault (pairs, inl h) =
    let front = h.0 in (length front.0, (pairs, inl ((front.0, front.1, front.2, refl, front.3, front.4), h.1)))
unhandled_place reader text fault (pairs, inr h) = let placed = row_place reader text pairs fault h.0 in (placed.0, (pairs, inr (placed.1, h.1)))

outcome_place : (reader : Reader) (text : Text) (fault : Fault) → HasUnhandledOutcome reader text (faulted fault) → (at : ℕ) × HasUnhandledFaultAt reader text fault at
outcome_place (bracketed kind) text fault h = unhandled_place (bracketed kind) text fault h
outcome_place reader text fault h = row_place reader text [] fault h

-- A fault without its position is the outcome.
fault_of_place : (reader : Reader) (text : Text) (fault : Fault) (at : ℕ) → HasUnhandledFaultAt reader text fault at → HasUnhandledOutcome reader text (faulted fault)
fault_of_place (bracketed kind) text fault at h = (h.0, without_place (bracketed kind) text h.0 (own_replies h.0) fault at h.1)
fault_of_place reader text fault at h = (h.0, h.1, h.2)

module _ (text other_text : Text) (sees : Sees text other_text) where
  -- The outcome of a text with `Bad` is a fault.
  with_pairs_fault : (kind : CoreKind) (outcome : UnhandledOutcome) → HasWithPairs kind text outcome → (fault : Fault) × HasWithPairs kind text (faulted fault)
  with_pairs_fault kind (read_as (parsed found)) h =
      absurd (plain_sees_nothing text other_text (derived_plain (bracketed kind) text (parsed h.1.read) h.0 h.1.whole) sees)
  with_pairs_fault kind (faulted fault) h = (fault, h)
  with_pairs_fault kind (read_as found) h = absurd h

  alone_fault : (reader : Reader) (outcome : UnhandledOutcome) → HasAlone reader text outcome → (fault : Fault) × HasAlone reader text (faulted fault)
  alone_fault reader (read_as found) h = absurd (plain_sees_nothing text other_text (derived_plain reader text found [] h) sees)
  alone_fault reader (faulted fault) h = (fault, h)

  outcome_fault : (reader : Reader) (outcome : UnhandledOutcome) → HasUnhandledOutcome reader text outcome
      → (fault : Fault) × HasUnhandledOutcome reader text (faulted fault)
  outcome_fault (bracketed kind) outcome h = with_pairs_fault kind outcome h
  outcome_fault reader outcome h = alone_fault reader outcome h

  -- The outcome of a text with `Bad` is the fault of the first `Bad`, at its position, or it is the outcome of each text with
  -- the same code units before this position.
  place_moves : (reader : Reader) (fault : Fault) (at : ℕ) → HasUnhandledFaultAt reader text fault at
      → BadOr text fault at (HasUnhandledFaultAt reader other_text fault at)
  place_moves (bracketed kind) fault at h = unhandled_fault_moves (bracketed kind) text other_text sees fault at h
  place_moves reader fault at h = fault_moves reader text other_text sees [] fault at h

-- ---- outcomes and positions in 8-bit and 16-bit text

pub same_where_shared : SameWhereShared
same_where_shared reader numbers all outcome =
    let same = same_letters numbers all in
    (subst (λ t. HasUnhandledOutcome reader t outcome) same, subst (λ t. HasUnhandledOutcome reader t outcome) (sym same))

pub same_place_where_shared : SamePlaceWhereShared
same_place_where_shared reader numbers all fault at =
    let same = same_letters numbers all in
    (subst (λ t. HasUnhandledFaultAt reader t fault at) same, subst (λ t. HasUnhandledFaultAt reader t fault at) (sym same))

pub place_where_not_shared : PlaceWhereNotShared
place_where_not_shared reader numbers some =
    let outcome = unhandled_outcome reader (wide_text numbers) in
    let sees = sees_where_not_shared numbers some in
    let (fault, has) = outcome_fault _ _ sees reader outcome.0 outcome.1 in
    let (at, there) = outcome_place reader (wide_text numbers) fault has in (
      fault,
      at,
      there,
      elim (place_moves _ _ sees reader fault at there) [
        | inl p ↦ inl p.0
        | inr q ↦ inr q
      ],
    )

pub fault_where_not_shared : FaultWhereNotShared
fault_where_not_shared reader numbers some =
    let (fault, at, there, where_it_is) = place_where_not_shared reader numbers some in (
      fault,
      fault_of_place reader (wide_text numbers) fault at there,
      elim where_it_is [
        | inl is ↦ inl is
        | inr q ↦ inr (fault_of_place reader (byte_text (mask numbers)) fault at q)
      ],
    )

-- ---- the position of the fault of `Bad`

-- The first `Bad` is the first number that is not shared.
not_shared : (n : ℕ) → wide_letter n ≡ Bad → IsFalse (is_shared n)
not_shared n is = grind (arith, is)

is_plain : (n c : ℕ) → wide_letter n ≡ Plain c → IsTrue (is_shared n)
is_plain n c is = grind (arith, is)

first_not_shared : (numbers : List ℕ) (front more : Text) → IsPlain front → wide_text numbers ≡ front ++ (Bad ∷ more)
    → IsFirstNotShared numbers (length front)
first_not_shared [] [] more plain is = absurd cc
first_not_shared [] (x ∷ front) more plain is = absurd cc
first_not_shared (n ∷ numbers) [] more plain is =
    let head : wide_letter n ≡ Bad = cc in ([], numbers, n, refl, refl, All-nil (λ x. IsTrue (is_shared x)), not_shared n head)
first_not_shared (n ∷ numbers) (Bad ∷ front) more plain is = absurd plain.0
first_not_shared (n ∷ numbers) (Plain c ∷ front) more plain is =
    let head : wide_letter n ≡ Plain c = cc in
    let tail : wide_text numbers ≡ front ++ (Bad ∷ more) = cc in
    let (first, rest, m, splits, lengths, all, not_so) = first_not_shared numbers front more plain.1 tail in (
      n ∷ first,
      rest,
      m,
      ap (λ ns. n ∷ ns) splits,
      ap suc lengths,
      All-cons (λ x. IsTrue (is_shared x)) n first (is_plain n c head) all,
      not_so,
    )

-- No 8-bit code unit is `Bad`.
no_bad_byte : (numbers : List ℕ) (front more : Text) → byte_text numbers ≡ front ++ (Bad ∷ more) → ⊥
no_bad_byte [] [] more is = cc
no_bad_byte [] (x ∷ front) more is = cc
no_bad_byte (n ∷ numbers) [] more is = cc
no_bad_byte (n ∷ numbers) (x ∷ front) more is = let tail : byte_text numbers ≡ front ++ (Bad ∷ more) = cc in no_bad_byte numbers front more tail

never_alone : (reader : Reader) (numbers : List ℕ) (pairs : List Pair) (at : ℕ) → ¬ (HasFaultAt reader (byte_text numbers) pairs NonAsciiCodePoint at)
never_alone reader numbers pairs at (row, fits, has, lengths) =
    let (front, more, is) = fault_of_bad reader (byte_text numbers) pairs (row, fits, has) in no_bad_byte numbers front more is

never_unhandled : (reader : Reader) (numbers : List ℕ) (at : ℕ) → ¬ (UnhandledFaultAt reader (byte_text numbers) NonAsciiCodePoint at)
never_unhandled reader numbers at (pairs, inl h) = elim (refused_split _ _ NonAsciiCodePoint h.1.refused) [
  | inl p ↦ let is = p.0 in cc
  | inr p ↦ let is = p.0 in cc
]
never_unhandled reader numbers at (pairs, inr h) = never_alone reader numbers pairs at h.0

pub non_ascii_is_wide : NonAsciiIsWide
non_ascii_is_wide (bracketed kind) numbers at h = never_unhandled (bracketed kind) numbers at h
non_ascii_is_wide reader numbers at h = never_alone reader numbers [] at h

pub non_ascii_is_first : NonAsciiIsFirst
non_ascii_is_first reader numbers at h = elim (sees_or_shared numbers) [
  | inl sees ↦ elim (place_moves _ _ sees reader NonAsciiCodePoint at h) [
    | inl p ↦ let (front, more, plain, is, lengths) = p.1 in
        subst (λ n. IsFirstNotShared numbers n) (sym lengths) (first_not_shared numbers front more plain is)
    | inr q ↦ absurd (non_ascii_is_wide reader (mask numbers) at q)
  ]
  | inr all ↦ absurd (non_ascii_is_wide reader numbers at ((same_place_where_shared reader numbers all NonAsciiCodePoint at).0 h))
]
