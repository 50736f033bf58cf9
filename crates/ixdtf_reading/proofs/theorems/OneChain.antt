-- For given replies to the annotations of a text, the list of calls of the handler and the result are unique.
use Rattle.std.proofs.Common.{◌≡◌, ◌≢◌, ◌⊎◌, ℕ, Bool, true, false, List, [], ◌∷◌, ◌++◌, Option, Some, None, Result, Ok, Err, IsTrue, refl, sym, ap, subst}
use Rattle.std.proofs.{Common.{◌∙◌, inl, inr, append_assoc, true≢false}, lemmas.{List.append-nil, Slice.Eq.bytes_eq-Decides, Bool.{cases_Bool, both_ways}}}
use Rattle.ixdtf_grammar.specs.Handlers.{Reply, calendar_key, first_calendar, calendar_value, with_calendar, RefusedBeside, NoneRefused, LastRefused}
use Rattle.ixdtf_grammar.specs.{Handlers.HasFront, Laws.{GivesResult, OneResult, replies_to, OneChain}, language.Brackets.{Pair, ZoneNote, ArePairs, IsTail}}
use Rattle.ixdtf_grammar.specs.language.{Cores.{Core, IsCore}, Languages.{Parsed, parsed_with, Derives, Derives.as_parsed, Found.parsed}, Letters.Text}
use Rattle.ixdtf_grammar.specs.{language.{Readers.{CoreKind, has_exact_zones, Reader.bracketed}, Times.Clock.Time}, table.Faults.Fault, Handlers.{GivesRecord, GivesFault}}
use Rattle.ixdtf_grammar.specs.table.{Faults.Fault.{UnrecognizedCritical, CriticalDuplicateCalendar}, LineNames.{LineName, BracketLine.after_bracket}}
use Rattle.ixdtf_grammar.specs.table.LineNames.{LineName.{of_clock, of_zone, of_bracket, of_pair, of_duration}, ZoneLine.{identifier_start, zone_name_start}}
use Rattle.ixdtf_grammar.specs.table.{LineNames.PairLine.{key_start, critical_key_start}, Before.{Bracketed, BeforeBracketed}}
use Rattle.ixdtf_grammar.specs.{table.{Outcomes.{ExactlyOne, Outcome, Outcome.{derived, refused}, Holds}, Rows.{Row, Fits}}, language.Readers.Reader}
use Rattle.ixdtf_grammar.proofs.parts.Texts.{bracketed_text}
use Rattle.ixdtf_reading.proofs.theorems.{Replies.{nothing_split, NoneRefused-nothing, two_places, same_last}, OneOutcome.same_outcome}
use Rattle.ixdtf_reading.proofs.theorems.{OneOutcome.{one_outcome, no_row_fits, fault_once, derived_begins, fault_begins}, Replies.NoneRefused-more}
use Rattle.ixdtf_reading.proofs.theorems.Replies.{refused_last, refused_split, neither_refused}

-- ---- a reply that is refused, or not

pub same_bytes : (xs ys : List ℕ) → (xs ≡ ys) ⊎ (xs ≢ ys)
same_bytes xs ys = elim (cases_Bool _) [
  | inl is ↦ inl ((bytes_eq-Decides xs ys).0 is)
  | inr is ↦ inr (λ same. both_ways _ is ((bytes_eq-Decides xs ys).1 same))
]

holds_or_not : (test : Bool) → IsTrue test ⊎ ¬ (IsTrue test)
holds_or_not true = inl refl
holds_or_not false = inr (λ h. true≢false (sym h))

-- The reply is refused with some fault, given this calendar, or it is not refused.
abbrev Decided : Option Pair → Reply → Type 0
Decided calendar reply = ((fault : Fault) × RefusedBeside calendar reply fault) ⊎ ((fault : Fault) → ¬ (RefusedBeside calendar reply fault))

other_key : (calendar : Option Pair) (pair : Pair) → pair.key ≢ calendar_key → ¬ (RefusedBeside calendar (Some pair) CriticalDuplicateCalendar)
other_key None pair other h = h
other_key (Some first) pair other h = other h.0

at_calendar : (calendar : Option Pair) (pair : Pair) → pair.key ≡ calendar_key → Decided calendar (Some pair)
at_calendar None pair is = inr (neither_refused None (Some pair) (λ h. h.1 is) (λ h. h))
at_calendar (Some first) pair is = elim (same_bytes pair.value first.value) [
  | inl same ↦ inr (neither_refused (Some first) (Some pair) (λ h. h.1 is) (λ h. h.1 same))
  | inr other ↦ elim (holds_or_not first.critical) [
    | inl is_so ↦ inl (CriticalDuplicateCalendar, (is, other, inl is_so))
    | inr not_so ↦ elim (holds_or_not pair.critical) [
      | inl is_so ↦ inl (CriticalDuplicateCalendar, (is, other, inr is_so))
      | inr never ↦ inr (neither_refused (Some first) (Some pair) (λ h. h.1 is) (λ h. elim h.2 [ inl x ↦ not_so x | inr y ↦ never y ]))
    ]
  ]
]

decided : (calendar : Option Pair) (reply : Reply) → Decided calendar reply
decided calendar None = inr (λ fault h. h)
decided calendar (Some pair) = elim (same_bytes pair.key _) [
  | inl is ↦ at_calendar calendar pair is
  | inr other ↦ elim (holds_or_not pair.critical) [
    | inl is_so ↦ inl (UnrecognizedCritical, (is_so, other))
    | inr not_so ↦ inr (neither_refused calendar (Some pair) (λ h. not_so h.0) (other_key calendar pair other))
  ]
]

-- A reply is refused with at most one fault.
not_both : (calendar : Option Pair) (reply : Reply) → RefusedBeside calendar reply UnrecognizedCritical
    → ¬ (RefusedBeside calendar reply CriticalDuplicateCalendar)
not_both calendar None h g = h
not_both None (Some pair) h g = g
not_both (Some first) (Some pair) h g = h.1 g.0

refused_once : (calendar : Option Pair) (reply : Reply) (x y : Fault) → RefusedBeside calendar reply x → RefusedBeside calendar reply y → x ≡ y
refused_once calendar reply x y h g = elim (refused_split calendar reply x h) [
  | inl p ↦ elim (refused_split calendar reply y g) [
    | inl q ↦ p.0 ∙ sym q.0
    | inr q ↦ absurd (not_both calendar reply p.1 q.1)
  ]
  | inr p ↦ elim (refused_split calendar reply y g) [
    | inl q ↦ absurd (not_both calendar reply q.1 p.1)
    | inr q ↦ p.0 ∙ sym q.0
  ]
]

-- ---- replies to annotations

-- A list is empty, or it has a last element.
last_of : {A : Type 0} (xs : List A) → (xs ≡ []) ⊎ ((front : List A) × (x : A) × (xs ≡ front ++ x ∷ []))
last_of [] = inl refl
last_of (x ∷ xs) = elim (last_of xs) [
  | inl none ↦ inr ([], x, ap (λ t. x ∷ t) none)
  | inr p ↦ inr (x ∷ p.0, p.1, ap (λ t. x ∷ t) p.2)
]

-- The last of these replies is refused with at most one fault.
pub last_once : (replies : List Reply) (x y : Fault) → LastRefused replies x → LastRefused replies y → x ≡ y
last_once replies x y h g =
    let same = same_last g.earlier h.earlier g.reply h.reply (sym g.split ∙ h.split) in
    refused_once _ _ x y (rw (same.0, same.1) h.refused) g.refused

-- ---- one result

-- The grammar derives at most one record and one list of annotations from a text.
derived_once : (reader : Reader) (text : Text) (x y : Parsed) (xs ys : List Pair) → Derives reader text (parsed x) xs → Derives reader text (parsed y) ys
    → (x ≡ y) × (xs ≡ ys)
derived_once reader text x y xs ys dx dy =
    let same : derived (parsed x) xs ≡ derived (parsed y) ys = same_outcome reader text _ _ dx dy in
    let found : parsed x ≡ parsed y = cc in
    (cc, cc)

-- The same replies give the same record.
record_once : (reader : Reader) (text : Text) (xs ys : List Pair) (replies : List Reply) (x y : Parsed) → GivesRecord reader text xs replies x
    → GivesRecord reader text ys replies y → x ≡ y
record_once reader text xs ys replies x y gx gy =
    gx.has ∙ ap (λ read. with_calendar read _) (derived_once reader text gx.read gy.read xs ys gx.whole gy.whole).0 ∙ sym gy.has

-- The same replies do not give both a record and a fault.
no_record_and_fault : (reader : Reader) (text : Text) (pairs : List Pair) (replies : List Reply) (found : Parsed) (fault : Fault)
    → GivesRecord reader text pairs replies found → ¬ (GivesFault reader text pairs replies fault)
no_record_and_fault reader text pairs replies found fault gives other = elim other [
  | inl p ↦ refused_last replies [] fault p.1 (rw (append-nil replies) gives.accepted)
  | inr p ↦ no_row_fits reader text (parsed gives.read, pairs, gives.whole) p.0.0 pairs p.0.1
]

pub one_result : OneResult
one_result reader text pairs replies (Ok x) (Ok y) gx gy = ap Ok (record_once reader text pairs pairs replies x y gx gy)
one_result reader text pairs replies (Ok x) (Err y) gx gy = absurd (no_record_and_fault reader text pairs replies x y gx gy)
one_result reader text pairs replies (Err x) (Ok y) gx gy = absurd (no_record_and_fault reader text pairs replies y x gy gx)
one_result reader text pairs replies (Err x) (Err y) (inl h) (inl g) = ap Err (last_once replies x y h.1 g.1)
one_result reader text pairs replies (Err x) (Err y) (inl h) (inr g) = absurd (refused_last replies [] x h.1 (rw (append-nil replies) g.1))
one_result reader text pairs replies (Err x) (Err y) (inr h) (inl g) = absurd (refused_last replies [] y g.1 (rw (append-nil replies) h.1))
one_result reader text pairs replies (Err x) (Err y) (inr h) (inr g) = ap Err (fault_once reader text pairs pairs x y h.0 g.0).0

-- One reply to each annotation. It depends on the annotations up to this one.
pub record Replying (replies : List Pair → List Reply) : Type 0 where
  pub nothing : replies [] ≡ []
  pub more : (pairs : List Pair) (pair : Pair) → (reply : Reply) × (replies (pairs ++ pair ∷ []) ≡ replies pairs ++ reply ∷ [])

-- A list of annotations, and the result.
abbrev Chain : Type 0
Chain = List Pair × Result Parsed Fault

module _ (replies : List Pair → List Reply) (by : Replying replies) where
  -- The replies to the first annotations are the first replies.
  begin : (pairs more : List Pair) → (others : List Reply) × (replies (pairs ++ more) ≡ replies pairs ++ others)
  begin pairs [] = ([], ap replies (append-nil pairs) ∙ sym (append-nil (replies pairs)))
  begin pairs (pair ∷ more) =
      let one = by.more pairs pair in
      let rest = begin (pairs ++ pair ∷ []) more in (
        one.0 ∷ rest.0,
        ap replies (sym (append_assoc pairs (pair ∷ []) more)) ∙ rest.1 ∙ ap (λ all. all ++ rest.0) one.1 ∙ append_assoc (replies pairs) (one.0 ∷ []) rest.0,
      )

  -- If a reply is refused, it is not true that no reply is refused, whatever follows.
  never_after : (pairs more all : List Pair) (fault : Fault) → all ≡ pairs ++ more → LastRefused (replies pairs) fault → ¬ (NoneRefused (replies all))
  never_after pairs more all fault is last none =
      let others = begin pairs more in
      refused_last (replies pairs) others.0 fault last (subst NoneRefused (ap replies is ∙ others.1) none)

  -- The reply to the last of these annotations is refused, and no reply before it.
  record RefusedAt (pairs : List Pair) : Type 0 where
    earlier : List Pair
    pair : Pair
    is : pairs ≡ earlier ++ pair ∷ []
    none : NoneRefused (replies earlier)

  refused_at : (pairs : List Pair) (fault : Fault) → LastRefused (replies pairs) fault → RefusedAt pairs
  refused_at pairs fault last = elim (last_of pairs) [
    | inl none ↦ absurd (nothing_split last.earlier [] last.reply (sym by.nothing ∙ sym (ap replies none) ∙ last.split))
    | inr p ↦
        let one = by.more p.0 p.1 in
        let same = same_last (replies p.0) last.earlier one.0 last.reply (sym one.1 ∙ sym (ap replies p.2) ∙ last.split) in
        record { earlier = p.0; pair = p.1; is = p.2; none = rw same.0 last.none }
  ]

  -- ---- one chain

  -- The chain ends at a refused reply to its last annotation. Its annotations are the first ones of all.
  abbrev Early : List Pair → Chain → Type 0
  Early all x = (more : List Pair) × (fault : Fault) × (all ≡ x.0 ++ more) × (x.1 ≡ Err fault) × LastRefused (replies x.0) fault

  early_once : (all : List Pair) (x y : Chain) → Early all x → Early all y → x ≡ y
  early_once all (xs, r) (ys, s) (more, a, xs_first, r_is, h) (others, b, ys_first, s_is, g) =
      let x = refused_at xs a h in
      let y = refused_at ys b g in
      let split : x.earlier ++ x.pair ∷ more ≡ y.earlier ++ y.pair ∷ others =
      sym (append_assoc x.earlier _ more) ∙ ap (λ t. t ++ more) (sym x.is) ∙ sym xs_first ∙ ys_first
      ∙ ap (λ t. t ++ others) y.is ∙ append_assoc y.earlier _ others in
      elim (two_places x.earlier more y.earlier others x.pair y.pair split) [
        | inl p ↦
            let first = p.0 in
            let last = p.1 in
            let middle : x.earlier ++ x.pair ∷ [] ≡ y.earlier ++ y.pair ∷ [] = cc in
            let same : xs ≡ ys = x.is ∙ middle ∙ sym y.is in
            let faults : a ≡ b = last_once (replies ys) a b (rw (← same) h) g in
            let results : r ≡ s = r_is ∙ ap Err faults ∙ sym s_is in cc
        | inr (inl p) ↦ absurd (never_after xs p.0 y.earlier a (p.1 ∙ sym (append_assoc x.earlier _ p.0) ∙ ap (λ t. t ++ p.0) (sym x.is)) h y.none)
        | inr (inr p) ↦ absurd (never_after ys p.0 x.earlier b (p.1 ∙ sym (append_assoc y.earlier _ p.0) ∙ ap (λ t. t ++ p.0) (sym y.is)) g x.none)
      ]

  -- The chain has all annotations and the result of the text, or it ends earlier.
  abbrev Settled : Chain → Chain → Type 0
  Settled whole x = ((x ≡ whole) × NoneRefused (replies whole.0)) ⊎ Early whole.0 x

  early_refused : (whole x : Chain) → Early whole.0 x → ¬ (NoneRefused (replies whole.0))
  early_refused whole x (more, fault, first, is, last) none = never_after x.0 more whole.0 fault first last none

  settled_once : (whole x y : Chain) → Settled whole x → Settled whole y → x ≡ y
  settled_once whole x y (inl p) (inl q) = p.0 ∙ sym q.0
  settled_once whole x y (inl p) (inr q) = absurd (early_refused whole y q p.1)
  settled_once whole x y (inr p) (inl q) = absurd (early_refused whole x p q.1)
  settled_once whole x y (inr p) (inr q) = early_once whole.0 x y p q

  module _ (kind : CoreKind) where
    -- The text gives this chain, if its annotations get these replies.
    abbrev pub GivesChain : Text → Chain → Type 0
    GivesChain text x = GivesResult (bracketed kind) text x.0 (replies x.0) x.1

    abbrev record_at : Parsed → List Pair → Chain
    record_at read pairs = (pairs, Ok (with_calendar read (calendar_value (first_calendar (replies pairs)))))

    -- The grammar derives the text.
    when_derived : (text : Text) (read : Parsed) (all : List Pair) → Derives (bracketed kind) text (parsed read) all → (x : Chain) → GivesChain text x
        → Settled (record_at read all) x
    when_derived text read all d (pairs, Ok found) gives =
        let same = derived_once (bracketed kind) text gives.read read pairs all gives.whole d in
        let alls = same.1 in
        let is : Ok found ≡ (record_at gives.read pairs).1 = ap Ok gives.has in
        inl (
          ap (λ r. (pairs, r)) is ∙ ap (λ p. record_at p pairs) same.0 ∙ ap (record_at read) alls,
          rw (← alls) gives.accepted,
        )
    when_derived text read all d (pairs, Err fault) (inl h) =
        let front = h.0 in
        let more = derived_begins (bracketed kind) front.0 front.1 front.3 read pairs all front.4 (rw (← front.2) d) in
        inr (more.0, fault, more.1, refl, h.1)
    when_derived text read all d (pairs, Err fault) (inr h) = absurd (no_row_fits (bracketed kind) text (parsed read, all, d) h.0.0 pairs h.0.1)

    -- A row fits the text.
    when_refused : (text : Text) (row : Row) (all : List Pair) → Fits (bracketed kind) row all text → (x : Chain) → GivesChain text x
        → Settled (all, Err row.error) x
    when_refused text row all f (pairs, Ok found) gives = absurd (no_row_fits (bracketed kind) text (parsed gives.read, pairs, gives.whole) row all f)
    when_refused text row all f (pairs, Err fault) (inl h) =
        let front = h.0 in
        let more = fault_begins (bracketed kind) front.0 front.1 front.3 pairs all row.error front.4 (rw (← front.2) (row, f, refl)) in
        inr (more.0, fault, more.1, refl, h.1)
    when_refused text row all f (pairs, Err fault) (inr h) =
        let same = fault_once (bracketed kind) text pairs all fault row.error h.0 (row, f, refl) in
        let alls = same.1 in
        inl (ap (λ e. (pairs, Err e)) same.0 ∙ ap (λ ps. (ps, Err row.error)) alls, rw (← alls) h.1)

    -- Texts with the same outcome give the same chain.
    pub alike : (one other : Text) (outcome : Outcome) → Holds (bracketed kind) one outcome → Holds (bracketed kind) other outcome
        → (x y : Chain) → GivesChain one x → GivesChain other y → x ≡ y
    alike one other (derived found all) (as_parsed h) g x y p q = settled_once _ x y (when_derived one _ all (as_parsed h) x p) (when_derived other _ all g y q)
    alike one other (refused row all) h g x y p q = settled_once _ x y (when_refused one row all h x p) (when_refused other row all g y q)

-- ---- prefixes of a text, with fewer annotations

pairs_front : (text : Text) (xs ys : List Pair) → ArePairs text (xs ++ ys) → (a b : Text) × (text ≡ a ++ b) × ArePairs a xs
pairs_front text [] ys h = ([], text, refl, refl)
pairs_front text (x ∷ xs) ys (first, rest, is, one, others) =
    let (a, b, split, are) = pairs_front rest xs ys others in
    (first ++ a, b, is ∙ ap (λ t. first ++ t) split ∙ sym (append_assoc first a b), (first, a, refl, one, are))

regrouped : (cores brackets first rest a b more : Text) → brackets ≡ first ++ rest → rest ≡ a ++ b
    → (cores ++ brackets) ++ more ≡ (cores ++ (first ++ a)) ++ (b ++ more)
regrouped cores brackets first rest a b more is split = rw (is, split) (simp append_assoc)

whole_front : (kind : CoreKind) (cores brackets more : Text) (core : Core) (zone : Option ZoneNote) (xs ys : List Pair) → IsCore kind cores core
    → IsTail (has_exact_zones kind) brackets zone (xs ++ ys) → HasFront (bracketed kind) ((cores ++ brackets) ++ more) xs
whole_front kind cores brackets more core zone xs ys is_core (first, rest, is, one, pairs) =
    let (a, b, split, are) = pairs_front rest xs ys pairs in (
      cores ++ (first ++ a),
      b ++ more,
      regrouped cores brackets first rest a b more is split,
      parsed_with core zone,
      as_parsed (bracketed_text cores (first ++ a) core zone xs refl is_core (first, a, refl, one, are)),
    )

-- The text before a row begins with the brackets of the annotations, or there are no annotations.
abbrev NoneOrBracketed : CoreKind → List Pair → Text → Type 0
NoneOrBracketed kind pairs before = (pairs ≡ []) ⊎ ((front more : Text) × (before ≡ front ++ more) × Bracketed kind pairs front)

whole_bracketed : (kind : CoreKind) (pairs : List Pair) (before : Text) → Bracketed kind pairs before → NoneOrBracketed kind pairs before
whole_bracketed kind pairs before h = inr (before, [], sym (append-nil before), h)

before_row : (kind : CoreKind) (name : LineName) (pairs : List Pair) (before rest : Text) → BeforeBracketed kind name pairs before rest
    → NoneOrBracketed kind pairs before
before_row kind (of_clock Time name) pairs before rest h = inl h.1
before_row kind (of_zone identifier_start) pairs before rest h = absurd h
before_row kind (of_zone zone_name_start) pairs before rest h = absurd h
before_row kind (of_bracket after_bracket) pairs before rest h = whole_bracketed kind pairs before h
before_row kind (of_pair key_start) pairs before rest h = whole_bracketed kind pairs before h
before_row kind (of_pair critical_key_start) pairs before rest h = whole_bracketed kind pairs before h
before_row kind (of_pair line) pairs before rest (inl p) = inl p.2
before_row kind (of_pair line) pairs before rest (inr p) = inr (p.0, p.1, p.2, p.3)
before_row kind (of_duration profile name) pairs before rest h = absurd h
before_row kind name pairs before rest h = inl h.1

-- The first annotations of a text that the grammar derives.
pub derived_front : (kind : CoreKind) (text : Text) (read : Parsed) (pairs xs ys : List Pair) → Derives (bracketed kind) text (parsed read) pairs
    → pairs ≡ xs ++ ys
    → HasFront (bracketed kind) text xs
derived_front kind text read pairs xs ys (as_parsed d) is =
    let has : HasFront (bracketed kind) ((d.cores ++ d.brackets) ++ []) xs =
    whole_front kind d.cores d.brackets [] d.core d.zone xs ys d.is_core (rw (← is) d.is_tail) in rw (← (append-nil _ ∙ sym d.is)) has

-- The first annotations before a row, if there are any.
pub row_front : (kind : CoreKind) (row : Row) (pairs xs ys : List Pair) (text : Text) → Fits (bracketed kind) row pairs text → pairs ≡ xs ++ ys
    → xs ++ ys ≢ [] → HasFront (bracketed kind) text xs
row_front kind row pairs xs ys text fits is some_pair = elim (before_row kind row.name pairs fits.0 fits.1 fits.3) [
  | inl none ↦ absurd (some_pair (sym is ∙ none))
  | inr p ↦
      let (front, more, split, (cores, brackets, whole, (core, is_core), zone, tail, some)) = p in
      let is_text = fits.2 ∙ ap (λ t. t ++ fits.1) (split ∙ ap (λ t. t ++ more) whole) ∙ append_assoc (cores ++ brackets) more fits.1 in
      rw is_text
      (whole_front kind cores brackets _ core zone xs ys is_core (rw (← is) tail))
]

-- ---- each text gives a chain

module _ (replies : List Pair → List Reply) (by : Replying replies) where
  -- The reply to the last of these first annotations is refused, and no reply before it.
  abbrev Stopped : List Pair → Type 0
  Stopped pairs = (front back : List Pair) × (pairs ≡ front ++ back) × (fault : Fault) × LastRefused (replies front) fault

  all_or_refused : (taken pairs : List Pair) → NoneRefused (replies taken) → NoneRefused (replies (taken ++ pairs)) ⊎ Stopped (taken ++ pairs)
  all_or_refused taken [] none = inl (rw (append-nil taken) none)
  all_or_refused taken (pair ∷ pairs) none =
      let one = by.more taken pair in
      elim (decided (first_calendar (replies taken)) one.0) [
        | inl p ↦ inr (
          taken ++ pair ∷ [],
          pairs,
          sym (append_assoc taken (pair ∷ []) pairs),
          p.0,
          record { earlier = replies taken; reply = one.0; split = one.1; none = none; refused = p.1 },
        )
        | inr never ↦ rw (← (append_assoc taken (pair ∷ []) pairs))
            (all_or_refused (taken ++ pair ∷ []) pairs (rw one.1 (NoneRefused-more (replies taken) one.0 none never)))
      ]

  whole_or_stopped : (pairs : List Pair) → NoneRefused (replies pairs) ⊎ Stopped pairs
  whole_or_stopped pairs = all_or_refused [] pairs (rw by.nothing NoneRefused-nothing)

  -- If the last reply is refused, there is at least one annotation.
  some_pair : (xs ys : List Pair) (fault : Fault) → LastRefused (replies xs) fault → xs ++ ys ≡ [] → ⊥
  some_pair [] ys fault last none = nothing_split last.earlier [] last.reply (sym by.nothing ∙ last.split)
  some_pair (x ∷ xs) ys fault last none = cc

  chain_of : (kind : CoreKind) (text : Text) (x : Outcome) → Holds (bracketed kind) text x → (x : Chain) × GivesChain replies by kind text x
  chain_of kind text (derived found pairs) (as_parsed {found = read} d) = elim (whole_or_stopped pairs) [
    | inl none ↦ (record_at replies by kind read pairs, record { read = read; whole = as_parsed d; accepted = none; has = refl })
    | inr p ↦
        let (front, back, is, fault, last) = p in
        ((front, Err fault), inl (derived_front kind text read pairs front back (as_parsed d) is, last))
  ]
  chain_of kind text (refused row pairs) fits = elim (whole_or_stopped pairs) [
    | inl none ↦ ((pairs, Err row.error), inr ((row, fits, refl), none))
    | inr p ↦
        let (front, back, is, fault, last) = p in
        ((front, Err fault), inl (row_front kind row pairs front back text fits is (some_pair front back fault last), last))
  ]

  pub only_chain : (kind : CoreKind) (text : Text) → ExactlyOne (GivesChain replies by kind text)
  only_chain kind text =
      let one = one_outcome (bracketed kind) text in
      let x = chain_of kind text one.0 one.1 in
      (x.0, x.1, λ y h. alike replies by kind text text one.0 one.1 one.1 y x.0 h x.1)

-- Each reply depends on the annotations up to this one.
replies_more : (reply : List Pair → Reply) (pairs : List Pair) (pair : Pair)
    → replies_to reply (pairs ++ pair ∷ []) ≡ replies_to reply pairs ++ reply (pairs ++ pair ∷ []) ∷ []
replies_more reply [] pair = refl
replies_more reply (first ∷ pairs) pair = ap (λ all. reply (first ∷ []) ∷ all) (replies_more (λ more. reply (first ∷ more)) pairs pair)

pub one_chain : OneChain
one_chain kind text reply =
    only_chain (replies_to reply) (record { nothing = refl; more = λ pairs pair. (reply (pairs ++ pair ∷ []), replies_more reply pairs pair) }) kind text
