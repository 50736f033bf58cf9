-- Proves that the result of `parse` is the outcome of the text without a handler.
use Rattle.std.proofs.Common.{◌≡◌, ◌↔◌, Result, Ok, Err, IfErr, refl, ap}
use Rattle.ixdtf_grammar.specs.declared.error.ParseError.{ParseError}
use Rattle.ixdtf.specs.Handlers.{UnhandledRecord, UnhandledFault}
use Rattle.ixdtf.specs.Views.{returned}
use Rattle.ixdtf.specs.Widths.{UnhandledOutcome, HasUnhandledOutcome}
use Rattle.ixdtf.specs.Widths.UnhandledOutcome.{read_as, faulted}
use Rattle.ixdtf.specs.language.Languages.{Parsed}
use Rattle.ixdtf.specs.language.Languages.Found.{parsed}
use Rattle.ixdtf.specs.language.Letters.{Text}
use Rattle.ixdtf.specs.language.Readers.{parse}
use Rattle.ixdtf.specs.table.Faults.{Fault, fault_of}

-- This is the outcome of a result.
abbrev pub outcome_of : Result Parsed Fault → UnhandledOutcome
outcome_of (Ok found) = read_as (parsed found)
outcome_of (Err fault) = faulted fault

-- The text that was read has this outcome.
pub has_result : {X : Type 0} (view : X → Parsed) (text wanted : Text) (result : Result X ParseError) → text ≡ wanted
    → ((p : Parsed) → (returned view result ≡ Ok p) ↔ UnhandledRecord parse text p) → IfErr result (λ e. UnhandledFault parse text (fault_of e))
    → HasUnhandledOutcome parse wanted (outcome_of (returned view result))
has_result view text wanted (Ok x) same ok err = rw (← same) ((ok (view x)).0 refl)
has_result view text wanted (Err e) same ok err = rw (← same) err

pub same_result : (x y : Result Parsed Fault) → outcome_of x ≡ outcome_of y → x ≡ y
same_result (Ok x) (Ok y) is = let found : parsed x ≡ parsed y = cc in let same : x ≡ y = cc in ap Ok same
same_result (Ok x) (Err y) is = absurd cc
same_result (Err x) (Ok y) is = absurd cc
same_result (Err x) (Err y) is = let same : x ≡ y = cc in ap Err same
