-- A caller replies in order to the annotations that a reader listed, and stops at the first reply that is refused.
use Rattle.std.specs.{Prelude.{◌≡◌, ◌≢◌, ◌≤◌, ◌↔◌, ℕ, List, [], ◌∷◌, ◌++◌, map, length, take, Option, Some, None, Result, Ok, Err}, Option.option_or}
use Rattle.ixdtf_grammar.specs.declared.profile.Profile.{Profile}
use Rattle.ixdtf.specs.{language.{Brackets.Pair, Letters.Text, Languages.Parsed, Readers.{CoreKind, Reader.bracketed}}, table.Faults.Fault}
use Rattle.ixdtf.specs.{Handlers.{Reply, RefusedBeside, first_calendar, calendar_value, with_calendar, Step, Handled, handed, replies_of}, Laws.GivesResult}
use Rattle.ixdtf_c.specs.{Located.{FaultAt, unplaced}, Numbers.number_for, Listing.Lists}

-- A reply is checked, and `old` is the calendar that was kept before. The number is 0 exactly if the reply is not refused. Then the
-- first calendar is kept. Otherwise the number is the one of the error.
pub record TakesReply (old new : Option Pair) (reply : Pair) (number : ℕ) : Type 0 where
  pub accepted : (number ≡ 0) ↔ ((fault : Fault) → ¬ (RefusedBeside old (Some reply) fault))
  pub kept : number ≡ 0 → new ≡ option_or old (first_calendar (Some reply ∷ []))
  pub refused : (fault : Fault) → (number ≡ number_for fault) ↔ RefusedBeside old (Some reply) fault
  pub named : number ≢ 0 → (fault : Fault) × (number ≡ number_for fault)

-- The outcome of the reader that listed. If it is a record, the record gets the calendar that was kept.
abbrev pub with_kept : {E : Type 0} → Option Pair → Result Parsed E → Result Parsed E
with_kept kept (Ok found) = Ok (with_calendar found (calendar_value kept))
with_kept kept (Err e) = Err e

-- The outcome of these replies, which are checked in order. `kept` is the calendar that was kept before them. If a reply is refused,
-- the outcome is the error of the first such reply. Otherwise it is the outcome of the reader that listed, with the calendar that is
-- kept at the end. If a reply is `None`, no function is called for it.
abbrev pub Replied : Option Pair → List Reply → Result Parsed Fault → Result Parsed Fault → Type 0
Replied kept [] listed outcome = outcome ≡ with_kept kept listed
Replied kept (None ∷ replies) listed outcome = Replied kept replies listed outcome
Replied kept (Some reply ∷ replies) listed outcome = (number : ℕ) × (next : Option Pair) × TakesReply kept next reply number
    × (number ≡ 0 → Replied next replies listed outcome) × ((fault : Fault) → number ≡ number_for fault → outcome ≡ Err fault)

-- A reader lists the annotations of a text, and the array is long enough for all of them. There is one reply for each annotation. At
-- first, no calendar is kept. This is the outcome of the replies.
pub record ListsAndReplies {A : Type 0} (view : A → Pair) (profile : Profile) (kind : CoreKind) (text : Text)
    (pairs : List Pair) (replies : List Reply) (outcome : Result Parsed Fault) : Type 0 where
  pub old : List A
  pub new : List A
  pub count : ℕ
  pub listed : Result Parsed FaultAt
  pub lists : Lists view profile (bracketed kind) text old new count listed
  pub room : count ≤ length old
  pub all : pairs ≡ map view (take count new)
  pub each : length replies ≡ count
  pub replied : Replied None replies (unplaced listed) outcome

-- The list `front` is the beginning of the list `all`.
abbrev pub IsFront : {A : Type 0} → List A → List A → Type 0
IsFront {A} front all = (more : List A) × (all ≡ front ++ more)

-- The text gives this outcome with the first of these annotations and the replies to them.
abbrev pub ReplyingGives : {A : Type 0} → (A → Pair) → Type 0
ReplyingGives view = (profile : Profile) (kind : CoreKind) (text : Text) (pairs : List Pair) (replies : List Reply) (outcome : Result Parsed Fault) →
    ListsAndReplies view profile kind text pairs replies outcome →
    (asked : List Pair) × (given : List Reply) × IsFront asked pairs × IsFront given replies × (length given ≡ length asked)
    × GivesResult (bracketed kind) text asked given outcome

-- A reader of the same kind calls any handler, which may begin in any state. If the replies of the handler are the first of these
-- replies, the reader has the same outcome, and the handler was called for the first of these annotations.
abbrev pub ReplyingIsHandling : {T U F A : Type 0} → (A → Pair) → (U → ℕ) → Step T U F → Type 0
ReplyingIsHandling {T} {U} {F} view number step =
    (profile : Profile) (kind : CoreKind) (text : Text) (pairs : List Pair) (replies : List Reply) (outcome : Result Parsed Fault) →
    ListsAndReplies view profile kind text pairs replies outcome →
    (handler : F) (result : Result Parsed Fault) (handled : Handled number step handler (bracketed kind) text result) →
    IsFront (replies_of number handled.calls) replies →
    (result ≡ outcome) × IsFront (handed number handled.calls) pairs
