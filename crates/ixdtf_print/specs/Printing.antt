-- What each printer does, whatever records it prints.
use Rattle.std.specs.Prelude.{◌≡◌, ◌↔◌, ℕ, ◌+◌, ◌≤◌, ◌<◌, Bool, IsTrue, List, map, take, drop, length, Result, Err, IfOk, OnErr}
use Rattle.ixdtf.specs.language.Letters.{Text, Letter.Plain}
use Rattle.ixdtf_print.specs.{Shown.bytes_of, declared.error.PrintError.{PrintError, TheVariants.{NotPrintable, TooShort}}}

-- Some text stands for the record: the reader returns the record for this text.
abbrev pub HasText : {R : Type 0} → (Text → R → Type 0) → R → Type 0
HasText stands found = (text : Text) × stands text found

-- The canonical text stands for the record and for no other one, and no other record that has a text has this canonical text.
pub record HasOneText {R : Type 0} (stands : Text → R → Type 0) (text_of : R → Text) (found : R) : Type 0 where
  pub same : stands (text_of found) found
  pub no_other_reading : (other : R) → stands (text_of found) other → other ≡ found
  pub no_other_record : (other : R) → HasText stands other → text_of other ≡ text_of found → other ≡ found

-- Each record that has a text is read back from its canonical text.
abbrev pub EachIsReadBack : {R : Type 0} → (Text → R → Type 0) → (R → Text) → Type 0
EachIsReadBack {R} stands text_of = (found : R) → HasText stands found → HasOneText stands text_of found

-- The canonical text of a record has at most `more` code units more than each text that stands for the record.
abbrev pub FitsWithin : {R : Type 0} → ℕ → (Text → R → Type 0) → (R → Text) → Type 0
FitsWithin {R} more stands text_of = (text : Text) (found : R) → stands text found → length (text_of found) ≤ length text + more

-- A test of whether a record with this canonical text is printable. The canonical text of a printable record is displayed as it is, and
-- the record is read back from it.
pub record TestsText (test : Bool) (printable read_back : Type 0) (canonical : Text) : Type 0 where
  pub tests : IsTrue test ↔ printable
  pub shown : IsTrue test → map Plain (bytes_of canonical) ≡ canonical
  pub kept : IsTrue test → read_back

-- A printer of a record with this canonical text writes it to the beginning of a slice, if the record is printable and the slice
-- is long enough. Otherwise the slice is unchanged.
pub record PrintsOrRefuses (printable : Type 0) (canonical : Text) (old new : List ℕ) (result : Result ℕ PrintError) : Type 0 where
  pub count : IfOk result (λ n. n ≡ length canonical)
  pub fits : IfOk result (λ n. n ≤ length new)
  pub text : IfOk result (λ n. map Plain (take n new) ≡ canonical)
  pub rest : IfOk result (λ n. drop n new ≡ drop n old)
  pub not_printable : (result ≡ Err NotPrintable) ↔ ¬ printable
  pub too_short : (result ≡ Err TooShort) ↔ (printable × (length old < length canonical))
  pub unchanged : OnErr result (new ≡ old)
