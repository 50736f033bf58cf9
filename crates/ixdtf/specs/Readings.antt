-- The contracts of the private functions that read complete texts, each as one clause. No clause of a public reader refers to
-- this module.
use Rattle.std.specs.Prelude.{◌≡◌, ◌⊎◌, ℕ, Bool, true, false, ◌+◌, List, [], map, Option, option_map, Result, Ok, Err, OnOk, IfErr}
use Rattle.ixdtf_grammar.specs.{language.{Letters.{Letter, Text}, Brackets.Pair, Cores.Core, Readers.{Reader, CoreKind, has_exact_zones}, Languages.{Parsed, parsed_with}}}
use Rattle.ixdtf_grammar.specs.{table.{Faults.Fault, Outcomes.NoRowFits}, Handlers.{Step, replies_of, with_calendar, calendar_value, pair_of}}
use Rattle.ixdtf_grammar.specs.{Laws.InNoOther, Places.{HandledToAt, UnhandledFaultAt, UnhandledOnlyPlace, UnhandledReason, UnhandledOnlyReason}}
use Rattle.ixdtf_grammar.specs.declared.{reason.Reason.{Reason}, records.{Annotation.Annotation, IxdtfParseRecord.IxdtfParseRecord}}
use Rattle.ixdtf_grammar.specs.{Views.{Unread, UnreadUnder, unread_of, parsed_of, most_looks, LeavesBehind, returned_by}, Promises.most_looks_beside}
use Rattle.ixdtf_reading.specs.{declared.stop.StopAt.StopAt, reading.{Chains.{Counting, TextReadTo, PairsRead, first_pairs}, Stops.fault_of_code}}
use Rattle.ixdtf_reading.specs.reading.{Clauses.{UnhandledForm, HasNoBrackets, core_in}, Looks.{Placed, error_of}, Cores.core_at, ExactZones.bracket_by}
use Rattle.ixdtf_reading.specs.reading.Brackets.{Bracket as FirstBracket, zone_in, pairs_in}
use Rattle.ixdtf_times.specs.{declared.offsets.AfterCore.{AfterCore, TheVariants.{End, Bracket}}, TimeTypes.opens_bracket}

-- The fault of a `StopAt`.
abbrev pub fault_of_stop_at : StopAt → Fault
fault_of_stop_at why = fault_of_code why.code

-- The accesses that a core may take beyond those that its code units allow. The first argument says whether a zone after the core
-- has to be exactly one of RFC 9557.
abbrev pub core_looks : Bool → ℕ → ℕ
core_looks true count = 38
core_looks false count = count + 37

-- The function read into a record, which is `found` after `Ok`. The handler is left in the state `last`. Its replies took `spent`
-- accesses more than a reader without a handler takes.
pub record ReadsInto {T U F : Type 0} (letter : ℕ → Letter) (number : U → ℕ) (step : Step T U F) (handler last : F)
    (found : Parsed) (reader : Reader) (old : UnreadUnder) (result : Result Unit StopAt) (new : UnreadUnder) : Type 0 where
  pub spent : ℕ
  pub replied : TextReadTo number (Counting step) (handler, 0) (last, spent) (λ _. found) reader (map letter old.rest) result
  pub leaves : LeavesBehind fault_of_stop_at (most_looks old.rest + spent) (unread_of old) result (unread_of new)
  pub profile : new.profile ≡ old.profile

-- The front of the text was read: its core, and its first bracket, if it has brackets. `opens` says whether it has. `inner` is
-- what follows the first `[`.
abbrev pub FrontRead : {T U : Type 0} → (ℕ → Letter) → (U → ℕ) → CoreKind → Text → Bool → Option (Annotation T U) → IxdtfParseRecord T U → Text → Type 0
FrontRead letter number kind text false first found rest = (core_at error_of kind text ≡ Ok ((core_in found, false), rest)) × HasNoBrackets found
FrontRead letter number kind text true first found rest = (core : Core) × (inner : List ℕ) × (bracket : FirstBracket)
    × (core_at error_of kind text ≡ Ok ((core, true), map letter inner))
    × (bracket_by error_of (has_exact_zones kind) (map letter inner) ≡ Ok (bracket, rest))
    × (first_pairs (option_map (pair_of number) first) ≡ pairs_in bracket)
    × (parsed_of number found ≡ parsed_with core (zone_in bracket))

-- The front of the text is refused: its core, or its first bracket.
abbrev pub FrontRefused : CoreKind → Text → Placed → Type 0
FrontRefused kind text fault = (core_at error_of kind text ≡ Err fault)
    ⊎ ((core : Core) × (inner : Text) × (core_at error_of kind text ≡ Ok ((core, true), inner)) × (bracket_by error_of (has_exact_zones kind) inner ≡ Err fault))

-- What the function left behind. If the text ends after its core, nothing remains, and the cursor of the text was not stored.
abbrev pub after_front : Result AfterCore Reason → Unread → Unread
after_front (Ok End) new = record { rest = []; looks = new.looks }
after_front (Ok Bracket) new = new
after_front (Err stop) new = new

-- The function read the first bracket of a text after its `[`. `core` is the core of the text.
abbrev pub ReadsOpenBracket : {T U : Type 0} → (ℕ → Letter) → (U → ℕ) → Bool → Core → Unread → Result AfterCore Reason → Option (Annotation T U)
    → IxdtfParseRecord T U → Unread → Type 0
ReadsOpenBracket letter number exact core old (Ok after) first found new = (after ≡ Bracket) × ((bracket : FirstBracket)
    × (bracket_by error_of exact (map letter old.rest) ≡ Ok (bracket, map letter new.rest))
    × (first_pairs (option_map (pair_of number) first) ≡ pairs_in bracket)
    × (parsed_of number found ≡ parsed_with core (zone_in bracket)))
ReadsOpenBracket letter number exact core old (Err stop) first found new = bracket_by error_of exact (map letter old.rest) ≡ Err (stop, map letter new.rest)

-- The function read the front of a text.
abbrev pub ReadsFront : {T U : Type 0} → (ℕ → Letter) → (U → ℕ) → CoreKind → Unread → Result AfterCore Reason → Option (Annotation T U) → IxdtfParseRecord T U
    → Unread → Type 0
ReadsFront letter number kind old (Ok after) first found new = FrontRead letter number kind (map letter old.rest) (opens_bracket after) first found (map letter new.rest)
ReadsFront letter number kind old (Err stop) first found new = FrontRefused kind (map letter old.rest) (stop, map letter new.rest)

-- The function read the annotations after the first ones. The record was `old` before, and is `new` after the call.
abbrev pub PairsReadInto : {T U F : Type 0} → (U → ℕ) → Step T U F → F → F → List Pair → Text → Parsed → Parsed → Result Unit Reason → Text → Type 0
PairsReadInto number step handler last first text old new (Ok x) left =
    (calendar : Option Pair) × PairsRead number step handler last first text (Ok calendar) × (new ≡ with_calendar old (calendar_value calendar))
PairsReadInto number step handler last first text old new (Err stop) left = PairsRead number step handler last first text (Err (stop, left))

-- The function read into a record, and returned the record, or the error of a `StopAt`.
abbrev pub ReadsHandled : {T U F E : Type 0} → (ℕ → Letter) → (U → ℕ) → Step T U F → F → F → (E → Fault) → (Reason → ℕ → E → Type 0) → Reader → UnreadUnder
    → Result (IxdtfParseRecord T U) E → UnreadUnder → Type 0
ReadsHandled letter number step handler last fault stands reader old (Ok found) new =
    ReadsInto letter number step handler last (parsed_of number found) reader old (Ok tt) new
ReadsHandled letter number step handler last fault stands reader old (Err e) new = (found : Parsed) × (why : StopAt)
    × ReadsInto letter number step handler last found reader old (Err why) new × (fault e ≡ fault_of_stop_at why) × stands why.reason why.at e

-- The function read into a record, with each annotation as its own reply.
pub record ReadsUnhandled (letter : ℕ → Letter) (found : Parsed) (reader : Reader)
    (old : UnreadUnder) (result : Result Unit StopAt) (new : UnreadUnder) : Type 0 where
  pub form : UnhandledForm reader (map letter old.rest) (returned_by fault_of_stop_at (λ _. found) result)
  pub err : IfErr result (λ why. UnhandledFaultAt reader (map letter old.rest) (fault_of_stop_at why) why.at)
  pub place : IfErr result (λ why. UnhandledOnlyPlace reader (map letter old.rest) (fault_of_stop_at why) why.at)
  pub reason : IfErr result (λ why. UnhandledReason reader (map letter old.rest) why.reason)
  pub one_reason : IfErr result (λ why. UnhandledOnlyReason reader (map letter old.rest) why.reason)
  pub leaves : LeavesBehind fault_of_stop_at (most_looks old.rest) (unread_of old) result (unread_of new)
  pub profile : new.profile ≡ old.profile

-- The function read with a borrowed handler. The one chain of calls of this handler ends in the state `last`.
pub record HandlesTextTo {T U F X E : Type 0} (letter : ℕ → Letter) (number : U → ℕ) (step : Step T U F) (handler last : F)
    (fault : E → Fault) (stands : Reason → ℕ → E → Type 0) (view : X → Parsed) (reader : Reader) (old : UnreadUnder)
    (result : Result X E) (new : UnreadUnder) : Type 0 where
  -- The result is `Ok` if and only if the text and the replies give the record. It is `Err` only with the error that they give, at its
  -- position.
  pub handled : HandledToAt number step handler last reader (map letter old.rest) fault stands view result
  -- The result is `Ok` only if no row of the fault table fits the text, and no other text reader accepts it.
  pub no_row : OnOk result (NoRowFits reader (map letter old.rest))
  pub no_other_reader : OnOk result (InNoOther old.profile reader (map letter old.rest))
  -- After `Ok`, no input remains. After an error, the input is unchanged.
  pub leaves : LeavesBehind fault (most_looks_beside old.rest (replies_of number handled.plain.calls)) (unread_of old) result (unread_of new)
  pub profile : new.profile ≡ old.profile
