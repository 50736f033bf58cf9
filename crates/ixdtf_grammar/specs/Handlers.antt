-- Handlers: how the replies to the annotations of a text change the result for the text.
use Rattle.std.specs.Prelude.{◌≡◌, ◌≢◌, ◌↔◌, ◌⊎◌, ℕ, ◌+◌, Bool, IsTrue, IsFalse, nat_eq, length, List, [], ◌∷◌, ◌++◌, map, find, filter_map, codes, Option, Some, None}
use Rattle.std.specs.{Prelude.{option_map, Result, Ok, Err}, Cmp.Lexicographic.pointwise, List.FoldsTo}
use Rattle.ixdtf_grammar.specs.{declared.records.Annotation.Annotation, language.{Letters.Text, Brackets.Pair, Readers.Reader, Languages.{Parsed, Derives}}}
use Rattle.ixdtf_grammar.specs.{language.Languages.Found.parsed, table.Faults.{Fault, is_refusal, Fault.{UnrecognizedCritical, CriticalDuplicateCalendar}}}
use Rattle.ixdtf_grammar.specs.table.Outcomes.{HasFault, OnlyFault}

-- ---- replies

-- A reply is what a handler returns for one annotation: an annotation, or `None`.
abbrev pub Reply : Type 0
Reply = Option Pair

-- The key of calendars is `u-ca`.
abbrev pub calendar_key : List ℕ
calendar_key = codes "u-ca"

abbrev pub is_calendar : Pair → Bool
is_calendar pair = pointwise nat_eq pair.key calendar_key

-- This is the first calendar among the replies, or `None` if there is no calendar.
abbrev pub first_calendar : List Reply → Option Pair
first_calendar replies = find is_calendar (filter_map (λ reply. reply) replies)

-- This is the number of code units in the values of all replies.
abbrev pub value_units : List Reply → ℕ
value_units [] = 0
value_units (None ∷ replies) = value_units replies
value_units (Some pair ∷ replies) = length pair.value + value_units replies

-- The reply is refused with the error, if `first` is the first calendar among the replies before it.
abbrev pub RefusedBeside : Option Pair → Reply → Fault → Type 0
RefusedBeside first None fault = ⊥
RefusedBeside first (Some pair) UnrecognizedCritical = IsTrue pair.critical × (pair.key ≢ calendar_key)
RefusedBeside None (Some pair) CriticalDuplicateCalendar = ⊥
RefusedBeside (Some first) (Some pair) CriticalDuplicateCalendar =
    (pair.key ≡ calendar_key) × (pair.value ≢ first.value) × (IsTrue first.critical ⊎ IsTrue pair.critical)
RefusedBeside first (Some pair) fault = ⊥

-- After the earlier replies, the reply is refused with the error.
abbrev pub IsRefused : List Reply → Reply → Fault → Type 0
IsRefused earlier reply fault = RefusedBeside (first_calendar earlier) reply fault

-- No reply is refused.
pub record NoneRefused (replies : List Reply) : Type 0 where
  pub none : (earlier later : List Reply) (reply : Reply) (fault : Fault) → replies ≡ earlier ++ (reply ∷ later) → ¬ (IsRefused earlier reply fault)

-- The last reply is refused with the error, and no reply before it is refused.
pub record LastRefused (replies : List Reply) (fault : Fault) : Type 0 where
  pub earlier : List Reply
  pub reply : Reply
  pub split : replies ≡ earlier ++ (reply ∷ [])
  pub none : NoneRefused earlier
  pub refused : IsRefused earlier reply fault

-- ---- the result for a text and replies

-- This is the value of a calendar, or `None` if there is no calendar.
abbrev pub calendar_value : Option Pair → Option (List ℕ)
calendar_value calendar = option_map (λ pair. pair.value) calendar

abbrev pub with_calendar : Parsed → Option (List ℕ) → Parsed
with_calendar read calendar = record { date = read.date; time = read.time; offset = read.offset; zone = read.zone; calendar = calendar }

-- The text with these annotations and these replies gives the record: the grammar derives the text, no reply is refused, and the
-- calendar of the record is the value of the first calendar among the replies.
pub record GivesRecord (reader : Reader) (text : Text) (pairs : List Pair) (replies : List Reply) (found : Parsed) : Type 0 where
  pub read : Parsed
  pub whole : Derives reader text (parsed read) pairs
  pub accepted : NoneRefused replies
  pub has : found ≡ with_calendar read (calendar_value (first_calendar replies))

-- The grammar derives a prefix of the text, with these annotations.
abbrev pub HasFront : Reader → Text → List Pair → Type 0
HasFront reader text pairs = (front rest : Text) × (text ≡ front ++ rest) × (read : Parsed) × Derives reader front (parsed read) pairs

-- The text with these annotations and these replies gives the error. There are two cases. The last reply is refused with the
-- error, and the grammar derives a prefix with these annotations. Or the text has the error, and no reply is refused.
abbrev pub GivesFault : Reader → Text → List Pair → List Reply → Fault → Type 0
GivesFault reader text pairs replies fault =
    (HasFront reader text pairs × LastRefused replies fault) ⊎ (HasFault reader text pairs fault × NoneRefused replies)

-- The text with these annotations and these replies gives the error, and no other. If it is an error of refused replies, the last
-- reply is refused with it, and the grammar derives a prefix with these annotations. Otherwise it is the only error of the text, and
-- no reply is refused.
pub record GivesOnlyFault (reader : Reader) (text : Text) (pairs : List Pair) (replies : List Reply) (fault : Fault) : Type 0 where
  pub of_reply : IsTrue (is_refusal fault) → HasFront reader text pairs × LastRefused replies fault
  pub of_text : IsFalse (is_refusal fault) → OnlyFault reader text pairs fault × NoneRefused replies

-- ---- a handler

-- This is an annotation, with its key and its value as the numbers of their code units.
abbrev pub pair_of : {T U : Type 0} → (U → ℕ) → Annotation T U → Pair
pair_of number annotation = record { critical = annotation.critical; key = map number annotation.key.now; value = map number annotation.value.now }

-- The calls of a handler are a list. For each call, it has the annotation that the handler was called with, and the reply.
abbrev pub Calls : Type 0 → Type 0 → Type 0
Calls T U = List (Annotation T U × Option (Annotation T U))

-- These are the annotations that the handler was called with.
abbrev pub handed : {T U : Type 0} → (U → ℕ) → Calls T U → List Pair
handed number calls = map (λ call. pair_of number call.0) calls

-- These are the replies of the handler.
abbrev pub replies_of : {T U : Type 0} → (U → ℕ) → Calls T U → List Reply
replies_of number calls = map (λ call. option_map (pair_of number) call.1) calls

-- A step says which replies a handler in a state can return for an annotation, and in which state the handler is after the call.
abbrev pub Step : Type 0 → Type 0 → Type 0 → Type 1
Step T U F = F → Annotation T U → Option (Annotation T U) → F → Type 0

-- The calls were made one after the other. The first call was made in the state `handler`, and the last call left the state `last`.
abbrev pub IsChain : {T U F : Type 0} → Step T U F → F → Calls T U → F → Type 0
IsChain step handler calls last = FoldsTo (λ f call g. step f call.0 call.1 g) handler calls last

-- There is a chain of calls with these clauses: the result is `Ok` with a record exactly if the text and the replies give this
-- record. It is `Err` only with an error that the text and the replies give, and no other error is given.
pub record Handled {T U F : Type 0} (number : U → ℕ) (step : Step T U F)
    (handler : F) (reader : Reader) (text : Text) (result : Result Parsed Fault) : Type 0 where
  pub calls : Calls T U
  pub last : F
  pub chain : IsChain step handler calls last
  pub ok : (found : Parsed) → (result ≡ Ok found) ↔ GivesRecord reader text (handed number calls) (replies_of number calls) found
  pub err : (fault : Fault) → result ≡ Err fault → GivesFault reader text (handed number calls) (replies_of number calls) fault
  pub only : (fault : Fault) → result ≡ Err fault → GivesOnlyFault reader text (handed number calls) (replies_of number calls) fault

-- These clauses are for a handler that was borrowed. The caller sees the state `last` in which the handler is left. The chain of
-- calls ends in this state, so no call follows the last call of the chain. The other clauses are those of `Handled`.
pub record HandledTo {T U F : Type 0} (number : U → ℕ) (step : Step T U F)
    (handler last : F) (reader : Reader) (text : Text) (result : Result Parsed Fault) : Type 0 where
  pub calls : Calls T U
  pub chain : IsChain step handler calls last
  pub ok : (found : Parsed) → (result ≡ Ok found) ↔ GivesRecord reader text (handed number calls) (replies_of number calls) found
  pub err : (fault : Fault) → result ≡ Err fault → GivesFault reader text (handed number calls) (replies_of number calls) fault
  pub only : (fault : Fault) → result ≡ Err fault → GivesOnlyFault reader text (handed number calls) (replies_of number calls) fault

-- ---- without a handler

-- Without a handler, the reply for each annotation is the annotation itself.
abbrev pub own_replies : List Pair → List Reply
own_replies pairs = map (λ pair. Some pair) pairs

-- Without a handler, the text gives the record.
abbrev pub UnhandledRecord : Reader → Text → Parsed → Type 0
UnhandledRecord reader text found = (pairs : List Pair) × GivesRecord reader text pairs (own_replies pairs) found

-- Without a handler, the text gives the error.
abbrev pub UnhandledFault : Reader → Text → Fault → Type 0
UnhandledFault reader text fault = (pairs : List Pair) × GivesFault reader text pairs (own_replies pairs) fault

-- Without a handler, the text gives the error, and no other error.
abbrev pub UnhandledOnlyFault : Reader → Text → Fault → Type 0
UnhandledOnlyFault reader text fault = (pairs : List Pair) × GivesOnlyFault reader text pairs (own_replies pairs) fault
