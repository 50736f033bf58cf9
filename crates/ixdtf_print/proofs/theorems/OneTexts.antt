-- What follows if each canonical text stands for its record, and each text stands for at most one record.
use Rattle.std.proofs.Common.{◌≡◌, ◌↔◌, Bool, IsTrue, map, subst}
use Rattle.ixdtf.specs.language.{Letters.{Text, Letter.Plain}, Languages.Found, Readers.Reader}
use Rattle.ixdtf.specs.Widths.{HasUnhandledOutcome, UnhandledOutcome.read_as}
use Rattle.ixdtf_reading.proofs.theorems.OneUnhandledOutcome.{one_unhandled_outcome}
use Rattle.ixdtf_print.specs.{Printing.{HasText, HasOneText, TestsText}, Shown.bytes_of}

-- A text stands for at most one record.
abbrev pub StandsForOne : {R : Type 0} → (Text → R → Type 0) → Type 0
StandsForOne {R} stands = (text : Text) (a b : R) → stands text a → stands text b → a ≡ b

-- A reader returns at most one value for a text.
pub one_found : (reader : Reader) (text : Text) (a b : Found) → HasUnhandledOutcome reader text (read_as a)
    → HasUnhandledOutcome reader text (read_as b) → a ≡ b
one_found reader text a b p q =
    let outcome = one_unhandled_outcome reader text in
    let first : read_as a ≡ outcome.0 = outcome.2 (read_as a) p in
    let second : read_as b ≡ outcome.0 = outcome.2 (read_as b) q in
    cc

pub has_one_text : {R : Type 0} {stands : Text → R → Type 0} {text_of : R → Text} → StandsForOne stands
    → ((found : R) → HasText stands found → stands (text_of found) found) → (found : R) → HasText stands found → HasOneText stands text_of found
has_one_text {R} {stands} {text_of} one reads found h =
    let same = reads found h in
    record {
      same = same;
      no_other_reading = λ other k. one (text_of found) other found k same;
      no_other_record = λ other k e. one (text_of found) other found (subst (λ t. stands t other) e (reads other k)) same;
    }

-- A test of the fields tells which records are printable.
pub tests_text : {test : Bool} {printable fields back : Type 0} {canonical : Text} → printable ↔ fields
    → (printable → map Plain (bytes_of canonical) ≡ canonical) → (printable → back) → IsTrue test ↔ fields → TestsText test printable back canonical
tests_text same shown back both = record {
  tests = (λ yes. same.1 (both.0 yes), λ p. both.1 (same.0 p));
  shown = λ yes. shown (same.1 (both.0 yes));
  kept = λ yes. back (same.1 (both.0 yes));
}
