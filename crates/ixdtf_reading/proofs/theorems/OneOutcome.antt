-- Each text has exactly one outcome. The annotations of a prefix are the first ones of the text.
use Rattle.std.proofs.Common.{◌≡◌, ℕ, length, arith, ◌⊎◌, List, [], ◌++◌, Option, Ok, Err, refl, sym, ap, ◌∙◌, subst, inl, inr, append_assoc, ◌≢◌}
use Rattle.ixdtf_grammar.specs.language.{Letters.Text, Brackets.{ZoneNote, Pair}, Cores.Core, Readers.{Reader, has_exact_zones}, Languages.{Parsed, parsed_with, Found, Derives}}
use Rattle.ixdtf_grammar.specs.{language.Languages.{Derives.{as_parsed, as_dated, as_shifted, as_identified, as_named, as_lasting}, Found.parsed}, table.Faults.Fault}
use Rattle.ixdtf_grammar.specs.table.Outcomes.{HasFault, HasFaultAt, OnlyPlace, NoRowFits, Outcome, Holds, OneOutcome, pairs_of, Begins, FrontsBegin}
use Rattle.ixdtf_grammar.specs.{table.{Outcomes.Outcome.{derived, refused}, Rows.left_at}, Laws.InLanguage, language.Brackets.ArePairs}
use Rattle.ixdtf_reading.specs.reading.{Looks.{Read, ◌>>=◌}, Pairs.pairs_at}
use Rattle.ixdtf_reading.specs.reading.Wholes.{bracketed_text_at, with_pairs, read_at, RowBehind, row_behind, outcome_of, outcome}
use Rattle.ixdtf_reading.proofs.to_grammar.{MorePairs.{OnPairs, pairs_read}, Wholes.{OnWhole, whole_read}}
use Rattle.ixdtf_reading.proofs.to_reading.Wholes.{NoBrackets, Brackets, brackets_of, over_brackets, takes, row_read}

-- An outcome that is true for a text is the one that reading returns.
decides : (reader : Reader) (text : Text) (x : Outcome) → Holds reader text x → x ≡ outcome reader text
decides reader text (derived found pairs) h = sym (ap outcome_of (takes row_behind reader text found pairs h))
decides reader text (refused row pairs) h = sym (ap outcome_of (row_read row_behind reader text row pairs h))

-- The outcome that reading returns is true for the text.
pub outcome_holds : (reader : Reader) (text : Text) → Holds reader text (outcome reader text)
outcome_holds reader text = go _ (whole_read row_behind reader text)
  where
    go : (r : Read RowBehind (Found × List Pair)) → OnWhole row_behind reader text r → Holds reader text (outcome_of r)
    go (Ok x) h = h.1
    go (Err stop) h = rw h.2 h.3

pub one_outcome : OneOutcome
one_outcome reader text = (outcome reader text, outcome_holds reader text, decides reader text)

pub same_outcome : (reader : Reader) (text : Text) (x y : Outcome) → Holds reader text x → Holds reader text y → x ≡ y
same_outcome reader text x y h g = decides reader text x h ∙ sym (decides reader text y g)

-- If the grammar derives something from a text, no row fits it.
pub no_row_fits : (reader : Reader) (text : Text) → InLanguage reader text → NoRowFits reader text
no_row_fits reader text h row pairs fits = let same : derived h.0 h.1 ≡ refused row pairs = same_outcome reader text _ _ h.2 fits in absurd cc

-- A text has at most one fault, with one list of annotations before it.
pub fault_once : (reader : Reader) (text : Text) (xs ys : List Pair) (x y : Fault) → HasFault reader text xs x → HasFault reader text ys y → (x ≡ y) × (xs ≡ ys)
fault_once reader text xs ys x y h g =
    let same : refused h.0 xs ≡ refused g.0 ys = same_outcome reader text (refused h.0 xs) (refused g.0 ys) h.1 g.1 in
    let rows : h.0 ≡ g.0 = cc in
    (sym h.2 ∙ ap (λ r. r.error) rows ∙ g.2, cc)

-- The fault of a text has at most one position.
pub place_once : (reader : Reader) (text : Text) (pairs : List Pair) (fault : Fault) (at : ℕ) → HasFaultAt reader text pairs fault at
    → OnlyPlace reader text fault at
place_once reader text pairs fault at h other ys there g =
    let same : refused g.0 ys ≡ refused h.0 pairs = same_outcome reader text (refused g.0 ys) (refused h.0 pairs) g.1 h.1 in
    let rows : g.0 ≡ h.0 = cc in
    (sym g.2 ∙ ap (λ r. r.error) rows ∙ h.2, omega (arith, g.3, h.3, ap (λ r. length (left_at r.place)) rows))

-- The annotations of the prefix are the first ones that reading returned. If there are any, the others are those of the rest.
abbrev OnBegins : List Pair → Text → Read RowBehind (Found × List Pair) → Type 0
OnBegins pairs rest (Ok x) = (more : List Pair) × (x.0.1 ≡ pairs ++ more) × (pairs ≢ [] → ArePairs rest more)
OnBegins pairs rest (Err stop) = Begins pairs stop.0

none_begins : (rest : Text) (r : Read RowBehind (Found × List Pair)) → OnBegins [] rest r
none_begins rest (Ok x) = (x.0.1, refl, λ some. absurd (some refl))
none_begins rest (Err stop) = (stop.0, refl)

more_begins : (core : Core) (first_zone : Option ZoneNote) (pairs : List Pair) (rest : Text) (r : Read RowBehind (List Pair)) → OnPairs row_behind pairs rest r
    → OnBegins pairs rest (with_pairs (r >>= λ all. Ok ((parsed_with core first_zone, all.0), all.1)))
more_begins core first_zone pairs rest (Ok x) h = (h.1, h.2, λ some. h.3)
more_begins core first_zone pairs rest (Err stop) h = (h.0, ap (λ s. s.0) h.4)

-- Reading goes over the prefix, and continues with the annotations after it.
front_begins : (reader : Reader) (front rest : Text) (read : Parsed) (pairs : List Pair) → Derives reader front (parsed read) pairs
    → OnBegins pairs rest (read_at row_behind reader (front ++ rest))
front_begins reader front rest read pairs (as_parsed {kind = kind} d) = go (brackets_of (has_exact_zones kind) d.brackets d.zone pairs d.is_tail)
  where
    go : NoBrackets d.brackets d.zone pairs ⊎ Brackets (has_exact_zones kind) d.brackets d.zone pairs → OnBegins pairs rest (with_pairs (bracketed_text_at row_behind kind (front ++ rest)))
    go (inl h) = rw h.pairs_are (none_begins rest (with_pairs (bracketed_text_at row_behind kind (front ++ rest))))
    go (inr h) =
        let over = over_brackets row_behind kind d.cores d.brackets rest d.core d.zone pairs d.is_core h in
        let is : bracketed_text_at row_behind kind (front ++ rest)
        ≡ (pairs_at row_behind over.0 pairs rest >>= λ all. Ok ((parsed_with d.core d.zone, all.0), all.1)) =
        ap (bracketed_text_at row_behind kind) (rw d.is (simp append_assoc)) ∙ over.2 in
        rw is (more_begins d.core d.zone pairs rest _ (pairs_read row_behind over.0 pairs rest over.1))

-- The annotations of a prefix that the grammar derives are the first ones of the text, which is derived or has a fault.
pub derived_goes_on : (reader : Reader) (front rest : Text) (read whole : Parsed) (pairs all : List Pair) → Derives reader front (parsed read) pairs
    → Derives reader (front ++ rest) (parsed whole) all → (more : List Pair) × (all ≡ pairs ++ more) × (pairs ≢ [] → ArePairs rest more)
derived_goes_on reader front rest read whole pairs all d h =
    subst (OnBegins pairs rest) (takes row_behind reader (front ++ rest) (parsed whole) all h) (front_begins reader front rest read pairs d)

pub derived_begins : (reader : Reader) (front rest : Text) (read whole : Parsed) (pairs all : List Pair) → Derives reader front (parsed read) pairs
    → Derives reader (front ++ rest) (parsed whole) all → Begins pairs all
derived_begins reader front rest read whole pairs all d h = let (more, is, are) = derived_goes_on reader front rest read whole pairs all d h in (more, is)

pub fault_begins : (reader : Reader) (front rest : Text) (read : Parsed) (pairs all : List Pair) (fault : Fault) → Derives reader front (parsed read) pairs
    → HasFault reader (front ++ rest) all fault → Begins pairs all
fault_begins reader front rest read pairs all fault d h =
    subst (OnBegins pairs rest) (row_read row_behind reader (front ++ rest) h.0 all h.1) (front_begins reader front rest read pairs d)

pub fronts_begin : FrontsBegin
fronts_begin reader front rest found pairs (derived whole all) (as_parsed d) (as_parsed h) =
    derived_begins reader front rest _ _ pairs all (as_parsed d) (as_parsed h)
fronts_begin reader front rest found pairs (refused row all) (as_parsed d) h = fault_begins reader front rest _ pairs all row.error (as_parsed d) (row, h, refl)
fronts_begin reader front rest found pairs outcome (as_dated d) h = (pairs_of outcome, refl)
fronts_begin reader front rest found pairs outcome (as_shifted d) h = (pairs_of outcome, refl)
fronts_begin reader front rest found pairs outcome (as_identified d) h = (pairs_of outcome, refl)
fronts_begin reader front rest found pairs outcome (as_named d) h = (pairs_of outcome, refl)
fronts_begin reader front rest found pairs outcome (as_lasting d) h = (pairs_of outcome, refl)
