-- For each reader without a handler, each text has exactly one outcome.
use Rattle.std.proofs.{Common.{◌≡◌, List, [], Some, Result, Ok, Err, refl, sym, ◌∙◌, ap}, lemmas.List.map-append}
use Rattle.ixdtf_grammar.specs.{Handlers.own_replies, Widths.{UnhandledOutcome, HasWithPairs, HasAlone, HasUnhandledOutcome, OneUnhandledOutcome}}
use Rattle.ixdtf_grammar.specs.{Widths.UnhandledOutcome.{read_as, faulted}, language.{Brackets.Pair, Languages.{Parsed, Found, Derives}}, Laws.GivesResult}
use Rattle.ixdtf_grammar.specs.language.{Languages.{Derives.{as_parsed, as_dated, as_shifted, as_identified, as_named, as_lasting}, Found.parsed}, Letters.Text}
use Rattle.ixdtf_grammar.specs.{language.Readers.{Reader, CoreKind, Reader.bracketed}, table.{Before.Before, Faults.Fault, LineNames.LineName}}
use Rattle.ixdtf_grammar.specs.{table.Outcomes.{Outcome, Outcome.{derived, refused}, Holds}, Handlers.GivesRecord}
use Rattle.ixdtf_reading.proofs.{code.ReadersWithoutPairs.ReadsNoPairs, theorems.OneChain.{Replying, GivesChain, alike, only_chain}}
use Rattle.ixdtf_reading.proofs.theorems.OneOutcome.{one_outcome, same_outcome, fault_once}

-- ---- readers with brackets

-- The reply to each annotation is the annotation itself.
pub own : Replying own_replies
own = record { nothing = refl; more = λ pairs pair. (Some pair, map-append (λ pair. Some pair) pairs _) }

-- The result of a reader, as an outcome.
abbrev outcome_of : Result Parsed Fault → UnhandledOutcome
outcome_of (Ok found) = read_as (parsed found)
outcome_of (Err fault) = faulted fault

module _ (kind : CoreKind) where
  abbrev GivesOwn : Text → List Pair × Result Parsed Fault → Type 0
  GivesOwn text x = GivesChain own_replies own kind text x

  -- The chain of an outcome.
  chain_of : (text : Text) (x : UnhandledOutcome) → HasWithPairs kind text x → (c : List Pair × Result Parsed Fault) × (x ≡ outcome_of c.1) × GivesOwn text c
  chain_of text (read_as (parsed found)) h = ((h.0, Ok found), refl, h.1)
  chain_of text (faulted fault) h = ((h.0, Err fault), refl, h.1)
  chain_of text (read_as found) h = absurd h

  of_chain : (text : Text) (c : List Pair × Result Parsed Fault) → GivesOwn text c → HasWithPairs kind text (outcome_of c.1)
  of_chain text (pairs, Ok found) h = (pairs, h)
  of_chain text (pairs, Err fault) h = (pairs, h)

  -- Texts with the same outcome have the same outcome without a handler.
  alike_with_pairs : (one other : Text) (outcome : Outcome) → Holds (bracketed kind) one outcome → Holds (bracketed kind) other outcome
      → (x y : UnhandledOutcome) → HasWithPairs kind one x → HasWithPairs kind other y → x ≡ y
  alike_with_pairs one other outcome h g x y p q =
      let (c, x_is, c_gives) = chain_of one x p in
      let (d, y_is, d_gives) = chain_of other y q in
      x_is ∙ ap (λ (c : List Pair × Result Parsed Fault). outcome_of c.1) (alike own_replies own kind one other outcome h g c d c_gives d_gives) ∙ sym y_is

-- ---- readers without brackets

module _ (reader : Reader) (text : Text) where
  alone_once : (x y : UnhandledOutcome) → HasAlone reader text x → HasAlone reader text y → x ≡ y
  alone_once (read_as found) (read_as found') p q =
      let same : derived found [] ≡ derived found' [] = same_outcome reader text (derived found []) (derived found' []) p q in cc
  alone_once (read_as found) (faulted fault) p q =
      let same : derived found [] ≡ refused q.0 [] = same_outcome reader text (derived found []) (refused q.0 []) p q.1 in absurd cc
  alone_once (faulted fault) (read_as found) p q =
      let same : refused p.0 [] ≡ derived found [] = same_outcome reader text (refused p.0 []) (derived found []) p.1 q in absurd cc
  alone_once (faulted fault) (faulted fault') p q = ap faulted (fault_once reader text [] [] fault fault' p q).0

  alone_gives : ((found : Found) (pairs : List Pair) → Derives reader text found pairs → pairs ≡ [])
      → ((name : LineName) (pairs : List Pair) (before rest : Text) → Before reader name pairs before rest → pairs ≡ [])
      → (outcome : Outcome) → Holds reader text outcome → (x : UnhandledOutcome) × HasAlone reader text x
  alone_gives no_pairs none_stand (derived found pairs) h = (read_as found, rw (← (no_pairs found pairs h)) h)
  alone_gives no_pairs none_stand (refused row pairs) h =
      (faulted row.error, (row, rw (← (none_stand row.name pairs h.0 h.1 h.3)) h, refl))

derived_alone : (reader : Reader) (text : Text) (found : Found) (pairs : List Pair) → ReadsNoPairs reader → Derives reader text found pairs → pairs ≡ []
derived_alone reader text found pairs none (as_parsed h) = absurd none
derived_alone reader text found pairs none (as_dated h) = refl
derived_alone reader text found pairs none (as_shifted h) = refl
derived_alone reader text found pairs none (as_identified h) = refl
derived_alone reader text found pairs none (as_named h) = refl
derived_alone reader text found pairs none (as_lasting h) = refl

-- ---- any reader

with_pairs_outcome : (kind : CoreKind) (text : Text) → (x : UnhandledOutcome) × HasWithPairs kind text x
with_pairs_outcome kind text = let one = only_chain own_replies own kind text in (outcome_of one.0.1, of_chain kind text one.0 one.1)

pub unhandled_outcome : (reader : Reader) (text : Text) → (x : UnhandledOutcome) × HasUnhandledOutcome reader text x
unhandled_outcome (bracketed kind) text = with_pairs_outcome kind text
unhandled_outcome reader text =
    let one = one_outcome reader text in
    alone_gives reader text (λ found pairs h. derived_alone reader text found pairs tt h) (λ name pairs before rest h. h.1) one.0 one.1

unhandled_once : (reader : Reader) (text : Text) (x y : UnhandledOutcome) → HasUnhandledOutcome reader text x → HasUnhandledOutcome reader text y → x ≡ y
unhandled_once (bracketed kind) text x y p q = let one = one_outcome (bracketed kind) text in alike_with_pairs kind text text one.0 one.1 one.1 x y p q
unhandled_once reader text x y p q = alone_once reader text x y p q

pub one_unhandled_outcome : OneUnhandledOutcome
one_unhandled_outcome reader text = let outcome = unhandled_outcome reader text in
    (outcome.0, outcome.1, λ x h. unhandled_once reader text x outcome.0 h outcome.1)

-- Texts with the same outcome for a reader with brackets have the same outcome without a handler.
pub same_plain : (kind : CoreKind) (one other : Text) (outcome : Outcome) → Holds (bracketed kind) one outcome → Holds (bracketed kind) other outcome
    → (x : UnhandledOutcome) → HasUnhandledOutcome (bracketed kind) one x → HasUnhandledOutcome (bracketed kind) other x
same_plain kind one other outcome h g x p =
    let (y, q) = unhandled_outcome (bracketed kind) other in
    let same = alike_with_pairs kind one other outcome h g x y p q in rw same q

-- If the reply to each annotation is the annotation itself, a text that gives a record gives no other result.
pub one_unhandled_result : (reader : Reader) (text : Text) (xs ys : List Pair) (result : Result Parsed Fault) (found read : Parsed)
    → Derives reader text (parsed read) ys → GivesResult reader text xs (own_replies xs) result → GivesRecord reader text ys (own_replies ys) found → result ≡ Ok found
one_unhandled_result reader text xs ys result found read (as_parsed {kind = kind} d) gives other =
    let one = one_outcome (bracketed kind) text in
    ap (λ (c : List Pair × Result Parsed Fault). c.1) (alike own_replies own kind text text one.0 one.1 one.1 (xs, result) (ys, Ok found) gives other)
