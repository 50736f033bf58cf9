-- Theorems about the records of a reader of texts with brackets, for every kind of core.
use Rattle.std.proofs.Common.{ℕ, ◌+◌, ◌≤◌, ◌≡◌, ◌↔◌, Bool, false, IsTrue, ◌++◌, length, map, Option, sym, arith, subst}
use Rattle.std.proofs.lemmas.List.{length-append}
use Rattle.ixdtf.specs.language.{Letters.{Text, Letter.Plain}, Cores.{Core, IsCore}, Languages.Parsed, Readers.{CoreKind, has_exact_zones, Reader.bracketed}}
use Rattle.ixdtf.specs.Handlers.{UnhandledRecord}
use Rattle.ixdtf_grammar.specs.declared.records.{DateRecord.DateRecord, TimeRecord.TimeRecord, UtcOffsetRecordOrZ.UtcOffsetRecordOrZ}
use Rattle.ixdtf_print.specs.{Canonical.brackets_text, Printing.{HasText, EachIsReadBack, FitsWithin, TestsText}, Shown.bytes_of, SpelledCores.IsSpelledAs}
use Rattle.ixdtf_print.proofs.{parts.ParsedParts.{to_parts, of_parts, one_record}, theorems.ReadBack.brackets_read_back, theorems.OneTexts.{has_one_text, tests_text}}
use Rattle.ixdtf_print.proofs.theorems.{PrintableRecords.{core_in, core_of_parts, of_brackets}, DisplayedText.{ascii_of, shown_as_it_is}}

-- The cores of a reader: which of them have a text, what this text is, and how much longer it is at most than a text of the core.
pub record Written : Type 1 where
  pub kind : CoreKind
  pub has_core : Option DateRecord → Option TimeRecord → Option UtcOffsetRecordOrZ → Type 0
  pub core_text : Core → Text
  pub text_of : Parsed → Text
  pub more : ℕ
  pub any_zone : has_exact_zones kind ≡ false
  pub whole : (found : Parsed) → text_of found ≡ core_text (core_in found) ++ brackets_text found
  pub is_core : (core : Core) → has_core core.date core.time core.offset → IsCore kind (core_text core) core
  pub of_core : (text : Text) (core : Core) → IsCore kind text core → has_core core.date core.time core.offset × (length (core_text core) ≤ length text + more)

-- The reader returns the record for the text.
abbrev pub Stands : Written → Text → Parsed → Type 0
Stands w text found = UnhandledRecord (bracketed w.kind) text found

pub reads : (w : Written) (found : Parsed) → IsSpelledAs w.has_core found → Stands w (w.text_of found) found
reads w found s =
    let parts = brackets_read_back w.kind (w.core_text (core_in found)) found w.any_zone (w.is_core (core_in found) s.0) s.1 in
    subst (λ text. Stands w text found) (sym (w.whole found)) (of_parts (w.core_text (core_in found) ++ brackets_text found) found parts)

pub spelled : (w : Written) (text : Text) (found : Parsed) → Stands w text found
    → IsSpelledAs w.has_core found × (length (w.text_of found) ≤ length text + (w.more + 3))
spelled w text found given =
    let h = to_parts w.kind text found given in
    let core = w.of_core h.cores (core_in found) (core_of_parts text found h) in
    let brackets = of_brackets text found h in (
      (core.0, brackets.0),
      rw (w.whole found) (omega (arith, core.1, brackets.1, length-append (w.core_text (core_in found)) (brackets_text found))),
    )

-- ---- the laws

pub printable : (w : Written) (found : Parsed) → HasText (Stands w) found ↔ IsSpelledAs w.has_core found
printable w found = (λ h. (spelled w h.0 found h.1).0, λ s. (w.text_of found, reads w found s))

pub read_back : (w : Written) → EachIsReadBack (Stands w) w.text_of
read_back w = has_one_text (one_record w.kind) (λ found h. reads w found ((printable w found).0 h))

pub fits : (w : Written) → FitsWithin (w.more + 3) (Stands w) w.text_of
fits w text found given = (spelled w text found given).1

shown : (w : Written) (found : Parsed) → HasText (Stands w) found → map Plain (bytes_of (w.text_of found)) ≡ w.text_of found
shown w found h =
    let reading = reads w found ((printable w found).0 h) in
    shown_as_it_is (w.text_of found) (ascii_of w.kind (w.text_of found) found (to_parts w.kind (w.text_of found) found reading))

-- A test of the fields tells which records are printable.
pub tests : (w : Written) {test : Bool} {back : Type 0} (found : Parsed) → (HasText (Stands w) found → back) → IsTrue test ↔ IsSpelledAs w.has_core found
    → TestsText test (HasText (Stands w) found) back (w.text_of found)
tests w found = tests_text (printable w found) (shown w found)
