-- Proves which bytes a printed text has.
use Rattle.std.proofs.Common.{◌≡◌, ◌≤◌, ◌<◌, ◌∙◌, ◌+◌, ℕ, List, [], ◌∷◌, ◌++◌, length, map, take, codes, Result, Ok, Err, IfOk, refl, sym, ap, arith, append_assoc}
use Rattle.std.proofs.lemmas.List.{length-map}
use Rattle.ixdtf.specs.{Handlers.UnhandledRecord, table.Faults.fault_of, language.{Digits.padded_digits, Letters.{Text, byte_letter}, Languages.{Found, Parsed, Found.parsed}, Readers.{CoreKind, Reader.bracketed}}}
use Rattle.ixdtf_grammar.specs.{Promises.ReadsText, Views.UnreadUnder}
use Rattle.ixdtf_buffers.specs.Adding.{Adds}
use Rattle.ixdtf_print.specs.declared.error.PrintError.{PrintError, TheVariants.{NotPrintable, TooShort}}
use Rattle.ixdtf_print.specs.{Printing.{FitsWithin, HasText, PrintsOrRefuses}, Prints.Prints, Shown.code_point}
use Rattle.ixdtf_print.proofs.code.PutBytes.{front_of_new}
use Rattle.ixdtf_answers.specs.{Answer.{Gives, letters, read_answer_of}, Fields.nine_digits_of, Parts.{HasPrinted, IsPrinted}, Word.reader_of, declared.word.Word.Word}

-- If bytes stand for a text, the bytes of this text are these bytes.
pub spelled_bytes : (bytes : List ℕ) (text : Text) → map byte_letter bytes ≡ text → map code_point text ≡ bytes
spelled_bytes bytes text e = ap (λ (t : Text). map code_point t) (sym e) ∙ back bytes
  where
    back : (bytes : List ℕ) → map code_point (map byte_letter bytes) ≡ bytes
    back [] = refl
    back (byte ∷ bytes) = ap (λ (t : List ℕ). byte ∷ t) (back bytes)

-- If the canonical text is shorter than the array, the printer writes it to the beginning of the array and returns its length.
printed_front : {printable : Type 0} {canonical : Text} {old new : List ℕ} {count : ℕ} (result : Result ℕ PrintError)
    → PrintsOrRefuses printable canonical old new result → printable → length canonical < length old → IfOk result (λ n. count ≡ n)
    → (count ≡ length canonical) × (take count new ≡ map code_point canonical)
printed_front {canonical = canonical} {new = new} (Ok n) prints is fits counted =
    rw counted (prints.count, sym (spelled_bytes (take n new) canonical prints.text))
printed_front (Err NotPrintable) prints is fits counted = absurd (prints.not_printable.0 refl is)
printed_front (Err TooShort) prints is fits counted = absurd (omega (arith, (prints.too_short.0 refl).1, fits))

-- The reader of the word accepted the text, and the canonical text of its value is at the beginning of the array.
pub has_printed : (word : Word) (text : List ℕ) (found : Found) (canonical : Text) (room : List ℕ) (count : ℕ) → Gives (reader_of word) (letters text) found
    → codes "ok " ++ map code_point canonical ≡ read_answer_of word found → length canonical < 4352
    → (count ≡ length canonical) × (take count room ≡ map code_point canonical) → HasPrinted word text room count
has_printed word text found canonical room count gives answer short (counted, front) = record {
  found = found;
  gives = gives;
  fits = omega (arith, counted, short);
  answer = rw front answer;
}

-- As above, if a printer wrote the canonical text. The array has room for it, because it is hardly longer than the text.
pub is_printed : (word : Word) (text : List ℕ) (found : Found) (canonical : Text) {printable : Type 0} {old new : List ℕ} {count : ℕ} {result : Result ℕ PrintError}
    → Gives (reader_of word) (letters text) found → codes "ok " ++ map code_point canonical ≡ read_answer_of word found
    → length canonical ≤ length (letters text) + 255 → length text ≤ 4096 → 4352 ≤ length old → printable → PrintsOrRefuses printable canonical old new result
    → IfOk result (λ n. count ≡ n) → IsPrinted word text new (Ok count)
is_printed word text found canonical {result = result} gives answer fits few room is prints counted =
    let short : length canonical < 4352 = omega (arith, fits, few, length-map text byte_letter) in
    let front = printed_front result prints is (omega (arith, room, short)) counted in
    record { ok = has_printed word text found canonical _ _ gives answer short front; err = tt }

-- As above, if a reader of records returned the record. Its canonical text has at most `more` code units more than the text.
pub record_printed : {X : Type 0} {view : X → Parsed} {kind : CoreKind} {before after : UnreadUnder} {x : X} {old new : List ℕ} {count : ℕ} {result : Result ℕ PrintError}
    → (word : Word) (text : List ℕ) (text_of : Parsed → Text) (more : ℕ) → reader_of word ≡ bracketed kind → before.rest ≡ text
    → ReadsText byte_letter fault_of view (bracketed kind) before (Ok x) after → FitsWithin more (UnhandledRecord (bracketed kind)) text_of → more ≤ 255
    → codes "ok " ++ map code_point (text_of (view x)) ≡ read_answer_of word (parsed (view x)) → length text ≤ 4096 → 4352 ≤ length old
    → PrintsOrRefuses (HasText (UnhandledRecord (bracketed kind)) (view x)) (text_of (view x)) old new result → IfOk result (λ n. count ≡ n) → IsPrinted word text new (Ok count)
record_printed {view = view} {kind = kind} {x = x} word text text_of more reader rest reads fits few answer short room prints counted =
    let found = view x in
    let given : UnhandledRecord (bracketed kind) (letters text) found = rw (← rest) ((reads.ok found).0 refl) in
    is_printed word text (parsed found) (text_of found) (rw reader given) answer (omega (arith, fits (letters text) found given, few)) short room (letters text, given) prints counted

-- Nine digits were printed after the added bytes, so they were added too.
pub adds_digits : {old mid new : List ℕ} {at from to : ℕ} {first : List ℕ} (number : ℕ) → Adds old mid at from first → from ≤ length mid
    → Prints mid new from to (padded_digits 9 number) → Adds old new at to (first ++ nine_digits_of number)
adds_digits {first = first} number a inside p = record {
  is = front_of_new _ _ _ _ _ p inside ∙ rw (a.is, ← spelled_bytes p.bytes (padded_digits 9 number) p.spelled) (append_assoc _ first _);
}
