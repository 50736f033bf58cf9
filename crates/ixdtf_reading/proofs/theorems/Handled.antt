-- The clauses of the readers with a handler, from the result of the code for a chain of calls.
use Rattle.std.proofs.Common.{◌≡◌, ◌≢◌, ◌↔◌, ℕ, Bool, IsFalse, List, [], ◌∷◌, Option, Some, None, Result, Ok, Err, IfOk, refl, sym, ◌∙◌, ap, subst, inl, inr}
use Rattle.std.proofs.{Common.{map, option_map}, lemmas.Simd.map-map}
use Rattle.ixdtf_grammar.specs.{declared.records.{Annotation.Annotation, IxdtfParseRecord.IxdtfParseRecord}, Views.{returned_by, parsed_of}}
use Rattle.ixdtf_grammar.specs.language.{Letters.Text, Brackets.Pair, Readers.{Reader, has_brackets}, Languages.{Parsed, Found.parsed}}
use Rattle.ixdtf_grammar.specs.table.Faults.{Fault, Fault.{UnrecognizedCritical, CriticalDuplicateCalendar}, never_comes}
use Rattle.ixdtf_grammar.specs.Handlers.{Reply, first_calendar, RefusedBeside, calendar_value, pair_of}
use Rattle.ixdtf_grammar.specs.Handlers.{Calls, handed, replies_of, Step, IsChain, own_replies, Handled, HandledTo, UnhandledRecord, UnhandledFault}
use Rattle.ixdtf_grammar.specs.Laws.{GivesResult}
use Rattle.ixdtf_grammar.proofs.theorems.NoRow.{fault_comes, row_is_no_refusal}
use Rattle.ixdtf_reading.specs.reading.{Chains.{TextGives, TextRead}, Looks.Placed, Stops.fault_at, Clauses.UnhandledForm}
use Rattle.ixdtf_reading.proofs.theorems.StopFaults.{fault_of_row, fault_of_refusal}
use Rattle.ixdtf_reading.proofs.theorems.OnlyOutcome.{Accepted, accepted, gives_only}
use Rattle.ixdtf_reading.proofs.theorems.{Replies.{refused_split, each_is_none}, OneUnhandledOutcome.one_unhandled_result, OneChain.one_result}
use Rattle.ixdtf_reading.proofs.theorems.Replies.{first_calendar-nones}

-- Each reply is the value of `reply` for the annotation.
abbrev RepliesBy : {T U F : Type 0} → Step T U F → (Annotation T U → Option (Annotation T U)) → Type 0
RepliesBy {T} {U} {F} step reply =
    (state : F) (annotation : Annotation T U) (given : Option (Annotation T U)) (next : F) → step state annotation given next → given ≡ reply annotation

-- Each reply is the annotation itself.
abbrev pub OwnReplies : {T U F : Type 0} → Step T U F → Type 0
OwnReplies step = RepliesBy step (λ annotation. Some annotation)

-- Each reply is `None`.
abbrev pub NoReplies : {T U F : Type 0} → Step T U F → Type 0
NoReplies step = RepliesBy step (λ annotation. None)

module _ {T U F : Type 0} (number : U → ℕ) (step : Step T U F) (handler : F) (reader : Reader) (text : Text) (result : Result Parsed Fault) where
  -- The promise of the function that takes the handler by reference.
  abbrev pub handled_to_of : (calls : Calls T U) (last : F) → IsChain step handler calls last
      → GivesResult reader text (handed number calls) (replies_of number calls) result → HandledTo number step handler last reader text result
  handled_to_of calls last chain gives =
      let given : (other : Result Parsed Fault) → result ≡ other → GivesResult reader text (handed number calls) (replies_of number calls) other =
      λ other is. subst (GivesResult reader text _ _) is gives in
      record {
        calls = calls;
        chain = chain;
        ok = λ found. (given (Ok found), one_result reader text _ _ result (Ok found) gives);
        err = λ fault is. given (Err fault) is;
        only = λ fault is. gives_only reader text _ _ fault (given (Err fault) is);
      }

  -- The promise of a function that takes the handler by value.
  abbrev pub by_value : (last : F) → HandledTo number step handler last reader text result → Handled number step handler reader text result
  by_value last h = record { calls = h.calls; last = last; chain = h.chain; ok = h.ok; err = h.err; only = h.only }

  abbrev pub handled_of : (calls : Calls T U) (last : F) → IsChain step handler calls last → GivesResult reader text (handed number calls) (replies_of number calls) result
      → Handled number step handler reader text result
  handled_of calls last chain gives = by_value last (handled_to_of calls last chain gives)

  -- If a record was returned, the text is accepted.
  pub handled_accepted : Handled number step handler reader text result → (found : Parsed) → result ≡ Ok found → Accepted reader text
  handled_accepted h found is = let gives = (h.ok found).0 is in accepted reader text (parsed gives.read, handed number h.calls, gives.whole)

  -- The replies are the values of `reply` for the annotations that the handler got.
  replies_by : (reply : Annotation T U → Option (Annotation T U)) → RepliesBy step reply → (calls : Calls T U) (state last : F) → IsChain step state calls last
      → replies_of number calls ≡ map (λ call. option_map (pair_of number) (reply call.0)) calls
  replies_by reply by [] state last chain = refl
  replies_by reply by (call ∷ calls) state last (next, stepped, chain) =
      let head = by state call.0 call.1 next stepped in
      let tail = replies_by reply by calls next last chain in λ i. option_map (pair_of number) (head i) ∷ tail i

  -- The reply of each call is the annotation with which the handler was called.
  pub replies_own : OwnReplies step → (calls : Calls T U) (state last : F) → IsChain step state calls last
      → replies_of number calls ≡ own_replies (handed number calls)
  replies_own own calls state last chain = replies_by _ own calls state last chain ∙ sym (map-map (λ pair. Some pair) _ calls)

  gives_of : (reply : Result Parsed Fault) (h : Handled number step handler reader text reply)
      → GivesResult reader text (handed number h.calls) (replies_of number h.calls) reply
  gives_of (Ok found) h = (h.ok found).0 refl
  gives_of (Err fault) h = h.err fault refl

  -- The text gives the result, if the reply to each annotation is the annotation itself.
  given : OwnReplies step → Handled number step handler reader text result
      → (pairs : List Pair) × GivesResult reader text pairs (own_replies pairs) result
  given own h = (handed number h.calls, rw (← (replies_own own h.calls handler h.last h.chain)) (gives_of result h))

  -- The promise of a variant without a handler.
  pub unhandled_ok : OwnReplies step → Handled number step handler reader text result → (found : Parsed)
      → (result ≡ Ok found) ↔ UnhandledRecord reader text found
  unhandled_ok own h found = let (pairs, gives) = given own h in (
    (λ is. (pairs, subst (GivesResult reader text pairs (own_replies pairs)) is gives)),
    (λ other. one_unhandled_result reader text pairs other.0 result found other.1.read other.1.whole gives other.1),
  )

  pub unhandled_err : OwnReplies step → Handled number step handler reader text result → (fault : Fault) → result ≡ Err fault → UnhandledFault reader text fault
  unhandled_err own h fault is = let (pairs, gives) = given own h in (pairs, subst (GivesResult reader text pairs (own_replies pairs)) is gives)

  -- If each reply is `None`, the record has no calendar.
  pub ignored : NoReplies step → Handled number step handler reader text result → (found : Parsed) → result ≡ Ok found → found.calendar ≡ None
  ignored none h found is =
      let gives = (h.ok found).0 is in
      ap (λ read. read.calendar) gives.has
      ∙ ap (λ replies. calendar_value (first_calendar replies)) (replies_by _ none h.calls handler h.last h.chain)
      ∙ ap calendar_value (first_calendar-nones h.calls)

  -- If each reply is `None`, no reply is refused.
  pub ignored_err : NoReplies step → Handled number step handler reader text result → (fault : Fault) → result ≡ Err fault
      → (fault ≢ UnrecognizedCritical) × (fault ≢ CriticalDuplicateCalendar)
  ignored_err none h fault is = elim (h.err fault is) [
    | inl p ↦
        let last = p.1 in
        let absent = each_is_none h.calls last.earlier [] last.reply (sym (replies_by _ none h.calls handler h.last h.chain) ∙ last.split) in
        absurd (subst (λ reply. RefusedBeside (first_calendar last.earlier) reply fault) absent last.refused)
    | inr p ↦ row_is_no_refusal reader text _ fault p.0
  ]

  -- The error of a variant with a handler is one of the errors that can be returned.
  pub handled_comes : Handled number step handler reader text result → (fault : Fault) → result ≡ Err fault → IsFalse (never_comes fault)
  handled_comes h fault is = elim (h.err fault is) [
    | inl p ↦ elim (refused_split _ _ fault p.1.refused) [
      | inl same ↦ ap never_comes same.0
      | inr same ↦ ap never_comes same.0
    ]
    | inr p ↦ fault_comes reader text _ fault p.0
  ]

-- ---- with and without the position

-- The result, with the fault of a `Reason`. The first argument says whether the reader reads brackets.
abbrev pub unplaced : {A : Type 0} → Bool → Result A Placed → Result A Fault
unplaced brackets (Ok x) = Ok x
unplaced brackets (Err placed) = Err (fault_at brackets placed.0 placed.1)

pub gives_result : (reader : Reader) (text : Text) (pairs : List Pair) (replies : List Reply) (placed : Result Parsed Placed)
    → TextGives reader text pairs replies placed → GivesResult reader text pairs replies (unplaced (has_brackets reader) placed)
gives_result reader text pairs replies (Ok found) gives = gives
gives_result reader text pairs replies (Err placed) gives = elim gives [
  | inl p ↦ inl ((p.0.0, placed.1, p.0.1, p.0.2, p.0.3), rw (fault_of_refusal (has_brackets reader) placed.0 p.1.0 placed.1 p.1.2) p.1.1)
  | inr p ↦ inr ((p.0.0, p.0.1, sym (fault_of_row reader p.0.0 pairs text p.0.1) ∙ ap (λ (q : Placed). fault_at (has_brackets reader) q.0 q.1) p.0.2), p.1)
]

module _ {T U F : Type 0} (number : U → ℕ) (step : Step T U F) (handler : F) (reader : Reader) (text : Text) (placed : Result Parsed Placed) where
  abbrev pub handled : (last : F) → TextRead number step handler last reader text placed → Handled number step handler reader text (unplaced (has_brackets reader) placed)
  handled last read = handled_of number step handler reader text (unplaced (has_brackets reader) placed) read.calls last read.chain (gives_result reader text _ _ placed read.gives)

  abbrev pub handled_to : (last : F) → TextRead number step handler last reader text placed → HandledTo number step handler last reader text (unplaced (has_brackets reader) placed)
  handled_to last read = handled_to_of number step handler reader text (unplaced (has_brackets reader) placed) read.calls last read.chain (gives_result reader text _ _ placed read.gives)

-- The promise of a variant without a handler, from the result with a handler that returns each annotation.
pub unhandled_form : {T U F : Type 0} {number : U → ℕ} {step : Step T U F} {handler : F} {reader : Reader} {text : Text} {result : Result Parsed Fault}
    → Handled number step handler reader text result → OwnReplies step → UnhandledForm reader text result
unhandled_form {number} {step} {handler} {reader} {text} {result = Ok found} h own = let whole =
    handled_accepted number step handler reader text _ h found refl in record {
      ok = unhandled_ok number step handler reader text _ own h;
      err = tt;
      no_row = whole.no_row;
      no_other_reader = whole.no_other_reader;
      only = tt;
    }
unhandled_form {number} {step} {handler} {reader} {text} {result = Err fault} h own = let gives =
    unhandled_err number step handler reader text _ own h fault refl in record {
      ok = unhandled_ok number step handler reader text _ own h;
      err = gives;
      no_row = tt;
      no_other_reader = tt;
      only = (gives.0, gives_only reader text gives.0 _ fault gives.1);
    }

-- ---- a handler that returns `None`

none_seen : {X Y : Type 0} (view : X → Y) (x : Option X) → option_map view x ≡ None → x ≡ None
none_seen view None e = refl
none_seen view (Some x) e = absurd cc

-- With this handler, the record has no calendar.
pub no_calendar : {T U F E : Type 0} (named : E → Fault) (number : U → ℕ) (step : Step T U F) (handler : F) (reader : Reader) (text : Text)
    (result : Result (IxdtfParseRecord T U) E)
    → NoReplies step → Handled number step handler reader text (returned_by named (parsed_of number) result) → IfOk result (λ found. found.calendar ≡ None)
no_calendar named number step handler reader text (Ok found) none h =
    none_seen (λ units. map number units.now) found.calendar
    (ignored number step handler reader text (returned_by named (parsed_of number) (Ok found)) none h (parsed_of number found) refl)
no_calendar named number step handler reader text (Err e) none h = tt
