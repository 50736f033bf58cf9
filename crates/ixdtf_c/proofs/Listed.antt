-- A chain of calls, each of which lists an annotation, gives the contract of a reader that lists annotations.
use Rattle.std.proofs.Common.{◌≡◌, ◌↔◌, ℕ, ◌+◌, ◌*◌, ◌≤◌, min, List, [], ◌∷◌, ◌++◌, length, slice_set, map, Option, None, option_map, Result, Ok, Err, OnOk, refl}
use Rattle.std.proofs.{Common.{sym, ◌∙◌, ap, subst, inl, inr, arith}, lemmas.List.{append-nil, append_assoc, length-append, length-map}}
use Rattle.ixdtf_grammar.specs.declared.{profile.Profile.Profile, records.Annotation.Annotation}
use Rattle.ixdtf_grammar.proofs.theorems.FewPairs.{derived_few, fault_few, gives_few}
use Rattle.ixdtf_grammar.specs.declared.reason.Reason.{Reason}
use Rattle.ixdtf.specs.language.{Brackets.Pair, Letters.{Letter, Text}, Readers.{Reader, CoreKind, Reader.bracketed}, Languages.{Parsed, Derives, Derives.as_parsed}}
use Rattle.ixdtf.specs.{language.Languages.Found.parsed, table.{Faults.Fault, Outcomes.{HasFaultAt, NoRowFits}}}
use Rattle.ixdtf.specs.{Laws.InNoOther, Places.{GivesFaultAt, HandledToAt}, Handlers.{Reply, first_calendar, calendar_value, with_calendar, RefusedBeside}}
use Rattle.ixdtf.specs.{Handlers.{NoneRefused, LastRefused, GivesRecord, GivesFault, pair_of, Calls, handed, replies_of, Step, IsChain}, Readings.HandlesTextTo, Views.UnreadUnder}
use Rattle.ixdtf_reading.proofs.theorems.{Handled.NoReplies, OneOutcome.place_once, OnlyOutcome.only_fault, Replies.{nones, first_calendar-nones, each_is_none}}
use Rattle.ixdtf_c.specs.{Listing.{PassesOver, overwritten, Lists}, Located.{FaultAt, HasOutcome}}
use Rattle.ixdtf_c.proofs.Crossed.{same_ok, same_text}

-- ---- What is written.

overwritten-none : {A : Type 0} (slots : List A) → overwritten slots [] ≡ slots
overwritten-none [] = refl
overwritten-none (slot ∷ slots) = refl

-- One more item is written.
overwritten-more : {A : Type 0} (slots items : List A) (item : A)
    → slice_set (overwritten slots items) (length items) item ≡ overwritten slots (items ++ (item ∷ []))
overwritten-more [] [] item = refl
overwritten-more [] (first ∷ items) item = refl
overwritten-more (slot ∷ slots) [] item = ap (λ rest. item ∷ rest) (sym (overwritten-none slots))
overwritten-more (slot ∷ slots) (first ∷ items) item = ap (λ rest. first ∷ rest) (overwritten-more slots items item)

-- ---- Replies that are `None`.

unrefused : {A : Type 0} (calls : List A) (earlier later : List Reply) (reply : Reply) (fault : Fault) → nones calls ≡ earlier ++ reply ∷ later
    → ¬ (RefusedBeside (first_calendar earlier) reply fault)
unrefused calls earlier later reply fault e refused =
    subst (λ it. RefusedBeside (first_calendar earlier) it fault) (each_is_none calls earlier later reply e) refused

nones_accepted : {A : Type 0} (calls : List A) → NoneRefused (nones calls)
nones_accepted calls = record { none = λ earlier later reply fault split. unrefused calls earlier later reply fault split }

pub nones_not_last : {A : Type 0} (calls : List A) (fault : Fault) → ¬ (LastRefused (nones calls) fault)
nones_not_last calls fault last = unrefused calls last.earlier [] last.reply fault last.split last.refused

-- The record that the grammar derives has no calendar. Only replies add one.
no_calendar : (kind : CoreKind) (text : Text) (found : Parsed) (pairs : List Pair) → Derives (bracketed kind) text (parsed found) pairs → found.calendar ≡ None
no_calendar kind text found pairs (as_parsed whole) = ap (λ read. read.calendar) whole.has

without_calendar : (found : Parsed) → found.calendar ≡ None → found ≡ with_calendar found None
without_calendar found none = λ i. record { date = found.date; time = found.time; offset = found.offset; zone = found.zone; calendar = none i }

module _ (kind : CoreKind) (text : Text) where
  -- If every reply is `None`, the record that the text gives is the one that the grammar derives.
  given : {A : Type 0} (calls : List A) (pairs : List Pair) (found : Parsed) → GivesRecord (bracketed kind) text pairs (nones calls) found
      → Derives (bracketed kind) text (parsed found) pairs
  given calls pairs found gives =
      let none : gives.read.calendar ≡ None = no_calendar kind text gives.read pairs gives.whole in
      let same : found ≡ gives.read =
      gives.has ∙ ap (λ first. with_calendar gives.read (calendar_value first)) (first_calendar-nones calls) ∙ sym (without_calendar gives.read none) in
      rw same gives.whole

  gives : {A : Type 0} (calls : List A) (pairs : List Pair) (found : Parsed) → Derives (bracketed kind) text (parsed found) pairs
      → GivesRecord (bracketed kind) text pairs (nones calls) found
  gives calls pairs found whole = record {
    read = found;
    whole = whole;
    accepted = nones_accepted calls;
    has = without_calendar found (no_calendar kind text found pairs whole)
        ∙ ap (λ first. with_calendar found (calendar_value first)) (sym (first_calendar-nones calls));
  }

  -- The outcome if every reply is `None`.
  passes_over : {A : Type 0} (profile : Profile) (calls : List A) (pairs : List Pair) (outcome : Result Parsed FaultAt)
      → ((found : Parsed) → (outcome ≡ Ok found) ↔ GivesRecord (bracketed kind) text pairs (nones calls) found)
      → ((e : FaultAt) → outcome ≡ Err e → GivesFaultAt (bracketed kind) text pairs (nones calls) e.fault e.at)
      → OnOk outcome (NoRowFits (bracketed kind) text) → OnOk outcome (InNoOther profile (bracketed kind) text)
      → PassesOver profile (bracketed kind) text pairs outcome
  passes_over profile calls pairs outcome ok err no_row no_other_reader = let fault_of_text : (e : FaultAt) → outcome ≡ Err e
      → HasFaultAt (bracketed kind) text pairs e.fault e.at = λ e is. elim (err e is) [
        | inl p ↦ absurd (nones_not_last calls e.fault p.1)
        | inr p ↦ p.0
      ] in record {
        ok = λ found. (
          (λ is. given calls pairs found ((ok found).0 is)),
          λ whole. (ok found).1 (gives calls pairs found whole),
        );
        err = fault_of_text;
        no_row = no_row;
        no_other_reader = no_other_reader;
        only = λ e is. let (row, fits, has, there) = fault_of_text e is in only_fault (bracketed kind) text pairs e.fault (row, fits, has);
        place = λ e is. place_once (bracketed kind) text pairs e.fault e.at (fault_of_text e is);
      }

  without_place : {pairs : List Pair} {replies : List Reply} {fault : Fault} {at : ℕ} → GivesFaultAt (bracketed kind) text pairs replies fault at
      → GivesFault (bracketed kind) text pairs replies fault
  without_place gives = elim gives [
    | inl p ↦ let (front, rest, is, there, read, whole) = p.0 in inl ((front, rest, is, read, whole), p.1)
    | inr p ↦ let (row, fits, has, there) = p.0 in inr ((row, fits, has), p.1)
  ]

  -- The text has at least five code units for each annotation.
  few : {A : Type 0} (calls : List A) (pairs : List Pair) (outcome : Result Parsed FaultAt)
      → ((found : Parsed) → (outcome ≡ Ok found) ↔ GivesRecord (bracketed kind) text pairs (nones calls) found)
      → ((e : FaultAt) → outcome ≡ Err e → GivesFaultAt (bracketed kind) text pairs (nones calls) e.fault e.at)
      → 5 * length pairs ≤ length text
  few calls pairs (Ok found) ok err = derived_few kind text (parsed found) pairs (given calls pairs found ((ok found).0 refl))
  few calls pairs (Err e) ok err = gives_few kind text pairs (nones calls) e.fault (without_place (err e refl))

-- The statement about a list is also true of an array and a count that are equal to those of the list.
pub lists_left : {A : Type 0} {view : A → Pair} {profile : Profile} {reader : Reader} {text : Text} {old new slots : List A} {count number : ℕ}
    {Has : Result Parsed FaultAt → Type 0}
    → slots ≡ new → number ≡ count → (outcome : Result Parsed FaultAt) × Has outcome × Lists view profile reader text old new count outcome
    → (outcome : Result Parsed FaultAt) × Has outcome × Lists view profile reader text old slots number outcome
lists_left same as_many (outcome, has, listing) = (outcome, has, rw (same, as_many) listing)

-- The text has at least five code units for each annotation that is dropped.
passed_few : (profile : Profile) (kind : CoreKind) (text : Text) (pairs : List Pair) (outcome : Result Parsed FaultAt)
    → PassesOver profile (bracketed kind) text pairs outcome → 5 * length pairs ≤ length text
passed_few profile kind text pairs (Ok found) passes = derived_few kind text (parsed found) pairs ((passes.ok found).0 refl)
passed_few profile kind text pairs (Err e) passes = let (row, fits, has, there) = passes.err e refl in fault_few kind text pairs e.fault (row, fits, has)

-- The text has at least five code units for each annotation that is listed.
pub annotations_few : {A : Type 0} {view : A → Pair} {profile : Profile} {kind : CoreKind} {old new : List A} {count : ℕ}
    {Has : Result Parsed FaultAt → Type 0} (letter : ℕ → Letter) (units : List ℕ)
    → (outcome : Result Parsed FaultAt) × Has outcome × Lists view profile (bracketed kind) (map letter units) old new count outcome
    → 5 * count ≤ length units
annotations_few {view = view} {profile = profile} {kind = kind} letter units (outcome, has, listing) =
    let few = passed_few profile kind (map letter units) (map view listing.annotations) outcome listing.read in
    omega (arith, few, listing.counted, length-map units letter, length-map listing.annotations view)

-- ---- A chain of calls that list annotations.

-- Each call returns the reply `None`, writes the annotation to the next element of the array, and counts the annotation.
abbrev pub ListsEach : {T U A F : Type 0} → (U → ℕ) → (A → Pair) → Step T U F → (F → ℕ) → (F → List A) → ℕ → Type 0
ListsEach {T} {U} {A} {F} number view step count slots limit =
    (state : F) (annotation : Annotation T U) (reply : Option (Annotation T U)) (next : F) → step state annotation reply next
    → (reply ≡ None) × (count next ≡ min (count state + 1) limit)
    × (item : A) × (view item ≡ pair_of number annotation) × (slots next ≡ slice_set (slots state) (count state) item)

-- If each call leaves a value unchanged, the chain of calls leaves it unchanged.
kept : {T U F X : Type 0} (step : Step T U F) (name : F → X)
    → ((state : F) (annotation : Annotation T U) (reply : Option (Annotation T U)) (next : F) → step state annotation reply next → name next ≡ name state)
    → (calls : Calls T U) (state last : F) → IsChain step state calls last → name state ≡ name last
kept step name each [] state last chain = ap name chain
kept step name each (call ∷ calls) state last (next, stepped, chain) =
    sym (each state call.0 call.1 next stepped) ∙ kept step name each calls next last chain

-- If the reply of each call is `None`, all replies are.
pub replies_none : {T U F : Type 0} (number : U → ℕ) {step : Step T U F} → NoReplies step → (calls : Calls T U) (state last : F)
    → IsChain step state calls last → replies_of number calls ≡ nones calls
replies_none number none [] state last chain = refl
replies_none number none (call ∷ calls) state last (next, stepped, chain) =
    let head = none state call.0 call.1 next stepped in
    let tail = replies_none number none calls next last chain in λ i. option_map (pair_of number) (head i) ∷ tail i

module _ {T U A F : Type 0} (number : U → ℕ) (view : A → Pair) (step : Step T U F) (count : F → ℕ) (slots : F → List A) (limit : ℕ)
    (each : ListsEach number view step count slots limit) where
  -- The items `before` were written first. The calls write the others after them.
  listed : (old : List A) (calls : Calls T U) (state last : F) → IsChain step state calls last → (before : List A)
      → count state ≡ length before → slots state ≡ overwritten old before → length before + length calls ≤ limit
      → (items : List A) × (map view items ≡ handed number calls)
      × (count last ≡ length (before ++ items)) × (slots last ≡ overwritten old (before ++ items))
  listed old [] state last chain before counted written fits =
      ([], refl, rw (append-nil before, ← chain) counted, rw (append-nil before, ← chain) written)
  listed old (call ∷ calls) state last (next, stepped, chain) before counted written fits =
      let (none, one_more, item, seen, set) = each state call.0 call.1 next stepped in
      let more : List A = before ++ (item ∷ []) in
      let longer : length more ≡ length before + 1 = length-append before (item ∷ []) in
      let counted_more : count next ≡ length more = omega (arith, one_more, counted, longer, fits) in
      let written_more : slots next ≡ overwritten old more = set ∙ rw (counted, written) (overwritten-more old before item) in
      let (items, shown, counted_all, written_all) = listed old calls next last chain more counted_more written_more (omega (arith, longer, fits)) in
      let whole : more ++ items ≡ before ++ (item ∷ items) = append_assoc before (item ∷ []) items in
      (item ∷ items, (λ i. seen i ∷ shown i), rw (← whole) counted_all, rw (← whole) written_all)

  -- The contract of a reader with a handler that lists the annotations.
  lists : (profile : Profile) (kind : CoreKind) (text : Text) (state last : F)
      → {X E : Type 0} (named : E → Fault) (stands : Reason → ℕ → E → Type 0) (seen : X → Parsed) (result : Result X E)
      → HandledToAt number step state last (bracketed kind) text named stands seen result
      → OnOk result (NoRowFits (bracketed kind) text) → OnOk result (InNoOther profile (bracketed kind) text)
      → count state ≡ 0 → length text ≤ limit
      → (outcome : Result Parsed FaultAt) × HasOutcome named stands seen result outcome
      × Lists view profile (bracketed kind) text (slots state) (slots last) (count last) outcome
  lists profile kind text state last {X} {E} named stands seen result h no_row no_other_reader zero fits = of_outcome result h no_row no_other_reader
    where
      none : {r : Result X E} (h : HandledToAt number step state last (bracketed kind) text named stands seen r)
          → replies_of number h.plain.calls ≡ nones h.plain.calls
      none h = replies_none number (λ state annotation reply next stepped. (each state annotation reply next stepped).0) h.plain.calls state last h.plain.chain

      -- The list of the calls that were made, with this outcome.
      listing : {r : Result X E} (h : HandledToAt number step state last (bracketed kind) text named stands seen r) (outcome : Result Parsed FaultAt)
          → ((found : Parsed) → (outcome ≡ Ok found) ↔ GivesRecord (bracketed kind) text (handed number h.plain.calls) (nones h.plain.calls) found)
          → ((e : FaultAt) → outcome ≡ Err e → GivesFaultAt (bracketed kind) text (handed number h.plain.calls) (nones h.plain.calls) e.fault e.at)
          → OnOk outcome (NoRowFits (bracketed kind) text) → OnOk outcome (InNoOther profile (bracketed kind) text)
          → Lists view profile (bracketed kind) text (slots state) (slots last) (count last) outcome
      listing h outcome ok err no_row no_other_reader =
          let calls = h.plain.calls in
          let pairs = handed number calls in
          let shorter : 5 * length pairs ≤ length text = few kind text calls pairs outcome ok err in
          let as_many : length pairs ≡ length calls = length-map calls _ in
          let (items, shown, counted, written) = listed (slots state) calls state last h.plain.chain [] zero (sym (overwritten-none (slots state)))
          (omega (arith, as_many, shorter, fits)) in
          record {
            annotations = items;
            counted = counted;
            written = written;
            read = rw shown (passes_over kind text profile calls pairs outcome ok err no_row no_other_reader);
          }

      of_outcome : (r : Result X E) (h : HandledToAt number step state last (bracketed kind) text named stands seen r)
          → OnOk r (NoRowFits (bracketed kind) text) → OnOk r (InNoOther profile (bracketed kind) text)
          → (outcome : Result Parsed FaultAt) × HasOutcome named stands seen r outcome
          × Lists view profile (bracketed kind) text (slots state) (slots last) (count last) outcome
      of_outcome (Ok x) h no_row no_other_reader = (
        Ok (seen x),
        refl,
        listing h (Ok (seen x)) (λ found. (
          (λ is. rw (← none h) ((h.plain.ok found).0 (same_ok (seen x) found is))),
          λ given. same_ok (seen x) found ((h.plain.ok found).1 (rw (none h) given)),
        )) (λ e is. absurd cc) no_row no_other_reader,
      )
      of_outcome (Err e) h no_row no_other_reader =
          let (reason, at, there, gives, because) = h.err e refl in
          let fault_at : FaultAt = record { fault = named e; at = at } in (
            Err fault_at,
            (reason, at, there, refl),
            listing h (Err fault_at) (λ found. (
              (λ is. absurd cc),
              λ given. let is : Err (named e) ≡ Ok found = (h.plain.ok found).1 (rw (none h) given) in absurd cc,
            ))
                (λ other is. let it : fault_at ≡ other = cc in rw (← it, ← none h) gives) tt tt,
          )

-- The reader had all code units of a text to read. The handler also keeps its reference to the list (`loan`), and the list keeps its
-- reference to the array (`name`).
module _ {T U A F L N X E : Type 0} {letter : ℕ → Letter} {number : U → ℕ} {step : Step T U F} {handler last : F} {named : E → Fault}
    {stands : Reason → ℕ → E → Type 0} {seen : X → Parsed} {kind : CoreKind} {parser after : UnreadUnder} {result : Result X E}
    (handles : HandlesTextTo letter number step handler last named stands seen (bracketed kind) parser result after)
    (units : List U) (rest : parser.rest ≡ map number units) (view : A → Pair) (loan : F → L) (name : F → N) (count : F → ℕ) (slots : F → List A)
    (limit : ℕ) (fits : length units ≤ limit) (none : count handler ≡ 0) (each : ListsEach number view step count slots limit)
    (keeps : (state : F) (annotation : Annotation T U) (reply : Option (Annotation T U)) (next : F) → step state annotation reply next
    → (loan next ≡ loan state) × (name next ≡ name state)) where
  pub lists_units : (loan handler ≡ loan last) × (name handler ≡ name last)
      × ((outcome : Result Parsed FaultAt) × HasOutcome named stands seen result outcome
      × Lists view parser.profile (bracketed kind) (map (λ unit. letter (number unit)) units) (slots handler) (slots last) (count last) outcome)
  lists_units =
      let h = handles.handled in
      let short : length (map letter parser.rest) ≤ limit = rw (rest, length-map (map number units) letter, length-map units number) fits in (
        kept step loan (λ state annotation reply next stepped. (keeps state annotation reply next stepped).0) h.plain.calls handler last h.plain.chain,
        kept step name (λ state annotation reply next stepped. (keeps state annotation reply next stepped).1) h.plain.calls handler last h.plain.chain,
        rw (← (same_text letter number units rest)) (lists number view step count slots limit each parser.profile kind (map letter parser.rest) handler last
            named stands seen result h handles.no_row handles.no_other_reader none short),
      )
