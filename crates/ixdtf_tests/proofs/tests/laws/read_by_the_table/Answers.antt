use Rattle.std.proofs.Common.{◌≡◌, ◌↔◌, List, [], ◌∷◌, ◌++◌, Result, Ok, Err, IfErr, refl, sym, ap, ◌∙◌, inl, inr, map}
use Rattle.ixdtf_grammar.specs.declared.error.ParseError.{ParseError}
use Rattle.ixdtf.specs.language.Brackets.{Pair}
use Rattle.ixdtf.specs.language.Languages.{Parsed}
use Rattle.ixdtf.specs.language.Languages.Found.{parsed}
use Rattle.ixdtf.specs.language.Letters.{Text, byte_letter}
use Rattle.ixdtf.specs.language.Readers.{parse}
use Rattle.ixdtf.specs.table.Faults.{Fault, fault_of}
use Rattle.ixdtf.specs.table.Outcomes.{Holds, ExactlyOne, Begins, FrontsBegin}
use Rattle.ixdtf.specs.table.Outcomes.Outcome.{derived, refused}
use Rattle.ixdtf.specs.table.Rows.{Row, Fits}
use Rattle.ixdtf.specs.Handlers.{own_replies, LastRefused, UnhandledRecord, UnhandledFault}
use Rattle.ixdtf.specs.Views.{returned, parsed_of}
use Rattle.ixdtf_tests.proofs.tests.laws.read_by_the_table.Goals as goal
use Rattle.ixdtf_reading.proofs.theorems.Replies.{nothing_split}

-- A refused reply is a reply to some annotation.
none_refused : (pairs : List Pair) (fault : Fault) → LastRefused (own_replies pairs) fault → Begins pairs [] → ⊥
none_refused [] fault last begins = nothing_split last.earlier [] last.reply last.split
none_refused (pair ∷ pairs) fault last begins = let is : [] ≡ pair ∷ (pairs ++ begins.0) = begins.1 in absurd cc

-- If the row fits without annotations before it, `parse` returns its error, because the text has exactly one outcome.
by_the_row : {X : Type 0} (view : X → Parsed) (text : Text) (row : Row) → Fits parse row [] text → ExactlyOne (Holds parse text) → FrontsBegin
    → (result : Result X ParseError)
    → ((p : Parsed) → (returned view result ≡ Ok p) ↔ UnhandledRecord parse text p) → IfErr result (λ e. UnhandledFault parse text (fault_of e))
    → returned (λ (it : X). it) result ≡ Err row.error
by_the_row view text row fits one begins (Ok x) ok err =
    let (pairs, given) = (ok (view x)).0 refl in
    let same : derived (parsed given.read) pairs ≡ refused row [] = one.2 (derived (parsed given.read) pairs) given.whole ∙ sym (one.2 (refused row []) fits) in
    absurd cc
by_the_row view text row fits one begins (Err e) ok (pairs, inl ((front, rest, is, read, whole), last)) =
    absurd (none_refused pairs (fault_of e) last (begins parse front rest (parsed read) pairs (refused row []) whole (rw (← is) fits)))
by_the_row view text row fits one begins (Err e) ok (pairs, inr ((other, fits_too, error), none)) =
    let same : refused other pairs ≡ refused row [] = one.2 (refused other pairs) fits_too ∙ sym (one.2 (refused row []) fits) in
    let rows : other ≡ row = cc in
    ap Err (sym error ∙ ap (λ (r : Row). r.error) rows)

pub returns : goal.returns
returns c row fits =
    let text : Text = map byte_letter c.from_utf8.result.rest in
    let one = c.one_outcome.ensures in
    by_the_row (parsed_of (λ unit. unit)) text row (rw c.from_utf8.ensures.rest fits) (one.outcome parse text) one.begins c.parse.result
    c.parse.ensures.reads.ok c.parse.ensures.reads.err
