-- The position and the reason of the error that a text and the replies to its annotations give. The position is the number of code units
-- before the error.
use Rattle.std.specs.Prelude.{◌≡◌, ◌↔◌, ◌⊎◌, ℕ, List, [], ◌++◌, length, Result, Ok, Err}
use Rattle.ixdtf_grammar.specs.language.{Letters.Text, Brackets.Pair, Readers.Reader}
use Rattle.ixdtf_grammar.specs.language.Readers.Reader.{bracketed, parse_rfc3339, parse_offset, parse_identifier, parse_iana_identifier, parse_duration}
use Rattle.ixdtf_grammar.specs.{language.Languages.{Parsed, Derives, Found.parsed}, table.{Faults.Fault, Outcomes.{HasFaultAt, HasReason}, Reasons.Refuses}, Handlers.{Reply, NoneRefused, HasFront}}
use Rattle.ixdtf_grammar.specs.declared.reason.Reason.{Reason}
use Rattle.ixdtf_grammar.specs.Handlers.{LastRefused, GivesRecord, GivesOnlyFault, Calls, handed, replies_of, Step, IsChain, own_replies, HandledTo}
use Rattle.ixdtf_grammar.specs.Views.{returned_by}

-- The grammar derives the prefix of the text with `at` code units, with these annotations.
abbrev pub HasFrontTo : Reader → Text → List Pair → ℕ → Type 0
HasFrontTo reader text pairs at =
    (front rest : Text) × (text ≡ front ++ rest) × (at ≡ length front) × (read : Parsed) × Derives reader front (parsed read) pairs

-- The text with these annotations and these replies gives the error at the position. There are two cases. The last reply is refused
-- with the error, and the position is the end of the last annotation. Or a row fits at the position, and no reply is refused.
abbrev pub GivesFaultAt : Reader → Text → List Pair → List Reply → Fault → ℕ → Type 0
GivesFaultAt reader text pairs replies fault at =
    (HasFrontTo reader text pairs at × LastRefused replies fault) ⊎ (HasFaultAt reader text pairs fault at × NoneRefused replies)

-- Without a handler, the text gives the error at the position.
abbrev pub UnhandledFaultAt : Reader → Text → Fault → ℕ → Type 0
UnhandledFaultAt reader text fault at = (pairs : List Pair) × GivesFaultAt reader text pairs (own_replies pairs) fault at

-- The text with these annotations and these replies gives no other error, and no error at another position.
abbrev pub GivesOnlyPlace : Reader → Text → List Pair → List Reply → Fault → ℕ → Type 0
GivesOnlyPlace reader text pairs replies fault at =
    (other : Fault) (there : ℕ) → GivesFaultAt reader text pairs replies other there → (other ≡ fault) × (there ≡ at)

-- Without a handler, the text gives no other error, and no error at another position.
abbrev pub UnhandledOnlyPlace : Reader → Text → Fault → ℕ → Type 0
UnhandledOnlyPlace reader text fault at = (other : Fault) (there : ℕ) → UnhandledFaultAt reader text other there → (other ≡ fault) × (there ≡ at)

-- The text with these annotations and these replies gives an error with the reason. There are two cases. The last reply is refused, and
-- the reason is that of its refusal. Or a row fits whose line has the reason, and no reply is refused.
abbrev pub GivesReason : Reader → Text → List Pair → List Reply → Reason → Type 0
GivesReason reader text pairs replies reason =
    (HasFront reader text pairs × (fault : Fault) × LastRefused replies fault × Refuses reason fault)
    ⊎ (HasReason reader text pairs reason × NoneRefused replies)

-- Without a handler, the text gives an error with the reason.
abbrev pub UnhandledReason : Reader → Text → Reason → Type 0
UnhandledReason reader text reason = (pairs : List Pair) × GivesReason reader text pairs (own_replies pairs) reason

-- The text with these annotations and these replies gives no error with another reason.
abbrev pub GivesOnlyReason : Reader → Text → List Pair → List Reply → Reason → Type 0
GivesOnlyReason reader text pairs replies reason = (other : Reason) → GivesReason reader text pairs replies other → other ≡ reason

-- Without a handler, the text gives no error with another reason.
abbrev pub UnhandledOnlyReason : Reader → Text → Reason → Type 0
UnhandledOnlyReason reader text reason = (other : Reason) → UnhandledReason reader text other → other ≡ reason

-- The error agrees with a reason and a position (`stands`). The text with these annotations and these replies gives the error at this
-- position, and with this reason.
abbrev pub GivesError : {E : Type 0} → (E → Fault) → (Reason → ℕ → E → Type 0) → Reader → Text → List Pair → List Reply → E → Type 0
GivesError named stands reader text pairs replies e = (reason : Reason) × (at : ℕ) × stands reason at e
    × GivesFaultAt reader text pairs replies (named e) at × GivesReason reader text pairs replies reason

-- The error agrees with a reason and a position (`stands`). The text with these annotations and these replies gives no other error, no
-- error at another position, and none with another reason.
abbrev pub GivesOnlyError : {E : Type 0} → (E → Fault) → (Reason → ℕ → E → Type 0) → Reader → Text → List Pair → List Reply → E → Type 0
GivesOnlyError named stands reader text pairs replies e = (reason : Reason) × (at : ℕ) × stands reason at e
    × GivesOnlyPlace reader text pairs replies (named e) at × GivesOnlyReason reader text pairs replies reason

-- In the reader without a handler, the text has the error at the position.
abbrev pub HasUnhandledFaultAt : Reader → Text → Fault → ℕ → Type 0
HasUnhandledFaultAt (bracketed kind) text fault at = UnhandledFaultAt (bracketed kind) text fault at
HasUnhandledFaultAt parse_rfc3339 text fault at = HasFaultAt parse_rfc3339 text [] fault at
HasUnhandledFaultAt parse_offset text fault at = HasFaultAt parse_offset text [] fault at
HasUnhandledFaultAt parse_identifier text fault at = HasFaultAt parse_identifier text [] fault at
HasUnhandledFaultAt parse_iana_identifier text fault at = HasFaultAt parse_iana_identifier text [] fault at
HasUnhandledFaultAt (parse_duration profile) text fault at = HasFaultAt (parse_duration profile) text [] fault at

-- There is a chain of calls with these clauses: the result is `Ok` with a record exactly if the text and the replies give this
-- record. It is `Err` only with an error that they give, and with a reason and a position that agree with the error (`stands`). They give
-- no other error, no other reason, and no other position.
pub record HandledAt {T U F X E : Type 0} (number : U → ℕ) (step : Step T U F) (handler : F) (reader : Reader) (text : Text)
    (named : E → Fault) (stands : Reason → ℕ → E → Type 0) (view : X → Parsed) (result : Result X E) : Type 0 where
  pub calls : Calls T U
  pub last : F
  pub chain : IsChain step handler calls last
  pub ok : (found : Parsed) → (returned_by named view result ≡ Ok found) ↔ GivesRecord reader text (handed number calls) (replies_of number calls) found
  pub err : (e : E) → result ≡ Err e → GivesError named stands reader text (handed number calls) (replies_of number calls) e
  pub only : (e : E) → result ≡ Err e → GivesOnlyFault reader text (handed number calls) (replies_of number calls) (named e)
  pub place : (e : E) → result ≡ Err e → GivesOnlyError named stands reader text (handed number calls) (replies_of number calls) e

-- These clauses are for a handler that was borrowed. The chain of calls ends in the state `last`, in which the handler is left.
pub record HandledToAt {T U F X E : Type 0} (number : U → ℕ) (step : Step T U F) (handler last : F) (reader : Reader) (text : Text)
    (named : E → Fault) (stands : Reason → ℕ → E → Type 0) (view : X → Parsed) (result : Result X E) : Type 0 where
  pub plain : HandledTo number step handler last reader text (returned_by named view result)
  pub err : (e : E) → result ≡ Err e → GivesError named stands reader text (handed number plain.calls) (replies_of number plain.calls) e
  pub place : (e : E) → result ≡ Err e → GivesOnlyError named stands reader text (handed number plain.calls) (replies_of number plain.calls) e
