-- What a printer returns and writes.
use Rattle.std.specs.Prelude.{◌≡◌, ◌≢◌, ◌↔◌, ℕ, ◌≤◌, ◌<◌, ◌^◌, ◌-◌, List, [], Option, Some, None, IfSome, length, map, min, take, drop}
use Rattle.std.specs.Prelude.{Result, Err, IfOk, OnErr}
use Rattle.ixdtf.specs.language.{Letters.{Letter, Text}, Languages.Parsed}
use Rattle.ixdtf_c.specs.Instants.{offset_fraction}
use Rattle.ixdtf_print.specs.{Spelled.HasDigits, declared.error.PrintError.{PrintError, TheVariants.{NotPrintable, TooShort}}}

-- The fractions of the time and of the offset, if they are present, are valid (`HasDigits`).
abbrev pub HaveDigits : Parsed → Type 0
HaveDigits found = IfSome found.time (λ it. HasDigits it.fraction) × IfSome found.offset (λ shift. HasDigits (offset_fraction shift))

-- The text of a value, or the empty text if the value is absent.
abbrev pub text_where : {R : Type 0} → (R → Text) → Option R → Text
text_where text_of None = []
text_where text_of (Some found) = text_of found

-- What a printer of the library does with a value that has this canonical text, if it writes code units of the type `U`. It writes
-- the text to the beginning of a slice, if the value is printable and the slice is long enough. Otherwise the slice is unchanged.
-- `letter` says what a code unit stands for.
pub record PrintsText {U : Type 0} (letter : U → Letter) (printable : Type 0) (canonical : Text) (old new : List U) (result : Result ℕ PrintError) : Type 0 where
  pub count : IfOk result (λ n. n ≡ length canonical)
  pub fits : IfOk result (λ n. n ≤ length new)
  pub text : IfOk result (λ n. map letter (take n new) ≡ canonical)
  pub rest : IfOk result (λ n. drop n new ≡ drop n old)
  pub not_printable : (result ≡ Err NotPrintable) ↔ ¬ printable
  pub too_short : (result ≡ Err TooShort) ↔ (printable × (length old < length canonical))
  pub unchanged : OnErr result (new ≡ old)

-- What a printer for C does with a value that has this canonical text. It returns 0 if the value is printable and the array is long enough,
-- 101 if the value is not printable, and 102 if it is printable and the array is too short. After 0, the text is in the first code units of
-- the array, and the other code units are unchanged. After 101 or 102, all code units are unchanged. After 102, the count is the length of
-- the text, or the greatest `usize` if the length is greater. `letter` says what a code unit of the array stands for.
pub record GivesText {U : Type 0} (letter : U → Letter) (printable : Type 0) (canonical : Text) (old new : List U) (count_old count_new number : ℕ) : Type 0 where
  pub printed : (number ≡ 0) ↔ (printable × (length canonical ≤ length old))
  pub not_printable : (number ≡ 101) ↔ ¬ printable
  pub too_short : (number ≡ 102) ↔ (printable × (length old < length canonical))
  pub count : number ≡ 0 → count_new ≡ length canonical
  pub fits : number ≡ 0 → count_new ≤ length new
  pub text : number ≡ 0 → map letter (take count_new new) ≡ canonical
  pub rest : number ≡ 0 → drop count_new new ≡ drop count_new old
  pub unchanged : number ≢ 0 → new ≡ old
  pub uncounted : number ≡ 101 → count_new ≡ count_old
  pub needed : number ≡ 102 → count_new ≡ min (length canonical) (2 ^ 64 - 1)
