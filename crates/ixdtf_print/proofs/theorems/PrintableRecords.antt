-- The records that have a text are those whose fields have texts, and the canonical text is one of these texts.
use Rattle.std.proofs.Common.{ℕ, ◌+◌, ◌<◌, ◌≤◌, ◌↔◌, Bool, IsTrue, List, ◌++◌, length, map, Option, Some, None, sym, ap, inl, inr, arith, append-nil, subst}
use Rattle.std.proofs.lemmas.List.{length-append, length-map}
use Rattle.ixdtf.specs.language.{Letters.{Letter, Text, byte_letter}, Cores.{Core, core_of, OptionalOffset, IsDateTimeCore, IsCore}, Languages.Parsed, Readers.{parse, CoreKind, has_exact_zones, CoreKind.date_time}}
use Rattle.ixdtf.specs.Handlers.{UnhandledRecord}
use Rattle.ixdtf_grammar.specs.declared.records.{TimeRecord.TimeRecord, UtcOffsetRecordOrZ.UtcOffsetRecordOrZ}
use Rattle.ixdtf_print.specs.Canonical.{date_text, time_text, offset_text, brackets_text, optional_date_text, core_text, canonical_text}
use Rattle.ixdtf_print.specs.{Printable.{IsPrintable, IsReadBack}, Printed.FitsArray, Printing.TestsText, Spelled.{HasDay, HasTime, HasBrackets, IsSpelled}}
use Rattle.ixdtf_print.proofs.{parts.ParsedParts.{HasParts, to_parts, of_parts, one_record}, theorems.{DisplayedText.shown_is_canonical, OneTexts.tests_text, ReadBack.canonical_reads_back}, parts.DerivedDates.of_date}
use Rattle.ixdtf_print.proofs.parts.DerivedTimes.{of_time, of_offset, of_bracket, of_pairs}

abbrev text_of : Core → Text
text_of core = optional_date_text core.date ++ (time_text core.time ++ offset_text core.offset)

abbrev Spells : Core → Text → Type 0
Spells core text = HasDay core.date × HasTime core.time core.offset × (length (text_of core) ≤ length text + 11)

pub with_time : (time : TimeRecord) (offset : Option UtcOffsetRecordOrZ) (text : Text) → OptionalOffset text offset
    → HasTime (Some time) None → HasTime (Some time) offset × (length (offset_text offset) ≤ length text + 3)
with_time time None text h at = (at, omega arith)
with_time time (Some offset) text h at = let whole = of_offset text offset h in ((at, whole.0), whole.1)

of_core : (text : Text) (core : Core) → IsDateTimeCore text core → Spells core text
of_core text core (inl (date, is_date, has)) =
    let whole = of_date text date is_date in
    rw has (whole.0, tt, rw (append-nil (date_text date)) (omega (arith, whole.1)))
of_core text core (inr h) =
    let date = of_date h.dates h.date h.is_date in
    let time = of_time h.times h.time h.is_time in
    let offset = with_time h.time h.offset h.offsets h.is_offset time.0 in
    rw (h.has, h.is) (
      date.0,
      offset.0,
      omega (
        arith,
        date.1,
        time.1,
        offset.1,
        length-append (date_text h.date) (time_text (Some h.time) ++ offset_text h.offset),
        length-append (time_text (Some h.time)) (offset_text h.offset),
        length-append {A = Letter},
        ap length h.separates.1,
      ),
    )

-- The brackets of a record that a text gives have texts, which are not much longer than those of the text.
pub of_brackets : {kind : CoreKind} (text : Text) (found : Parsed) (h : HasParts kind text found)
    → HasBrackets found × (length h.cores + length (brackets_text found) ≤ length text + 3)
of_brackets {kind = kind} text found h =
    let zone = of_bracket (has_exact_zones kind) h.zones h.zone h.is_bracket in
    let calendar = of_pairs h.pair_texts h.pairs h.are_pairs in
    subst (λ read. HasBrackets read × (length h.cores + length (brackets_text read) ≤ length text + 3)) (sym h.has)
    ((zone.0, calendar.0), rw h.is (omega (arith, zone.1, calendar.1, length-append {A = Letter})))

-- The core of a record.
abbrev pub core_in : Parsed → Core
core_in found = core_of found.date found.time found.offset

pub core_of_parts : {kind : CoreKind} (text : Text) (found : Parsed) (h : HasParts kind text found) → IsCore kind h.cores (core_in found)
core_of_parts {kind = kind} text found h = subst (IsCore kind h.cores) (sym (ap core_in h.has)) h.is_core

pub of_record : (text : Text) (found : Parsed) → HasParts date_time text found → IsSpelled found × (length (canonical_text found) ≤ length text + 14)
unfolding canonical_text core_text
of_record text found h =
    let core = of_core h.cores (core_in found) (core_of_parts text found h) in
    let brackets = of_brackets text found h in (
      record { date = core.0; time = core.1; zone = brackets.0.0; calendar = brackets.0.1 },
      omega (arith, core.2, brackets.1, length-append (core_text found) (brackets_text found)),
    )

-- If an array has space for the parsed text, 14 more bytes and a newline, the canonical text and a newline fit into it.
pub read_fits : (size : ℕ) (bytes : List ℕ) (found : Parsed) → UnhandledRecord parse (map byte_letter bytes) found → length bytes + 14 < size → FitsArray size found
read_fits size bytes found given room =
    let spell : ℕ → Letter = λ n. byte_letter n in
    let most = (of_record (map byte_letter bytes) found (to_parts date_time (map byte_letter bytes) found given)).1 in
    omega (arith, most, length-map bytes spell)

pub printable_iff : (found : Parsed) → IsPrintable found ↔ IsSpelled found
printable_iff found = (
  λ p. (of_record p.0 found (to_parts date_time p.0 found p.1)).0,
  λ s. (canonical_text found, of_parts (canonical_text found) found (canonical_reads_back found s)),
)

-- The canonical text of a printable record gives the record.
canonical_is_read : (found : Parsed) → IsPrintable found → UnhandledRecord parse (canonical_text found) found
canonical_is_read found p = of_parts (canonical_text found) found (canonical_reads_back found ((printable_iff found).0 p))

pub is_read_back : (found : Parsed) → IsPrintable found → IsReadBack found
is_read_back found is =
    let same = canonical_is_read found is in
    record {
      same = same;
      no_other_record = λ other h e. one_record date_time (canonical_text found) other found (subst (λ t. UnhandledRecord parse t other) e (canonical_is_read other h)) same;
    }

-- A test of the fields tells which records are printable.
pub tests_printable : {test : Bool} (found : Parsed) → IsTrue test ↔ IsSpelled found
    → TestsText test (IsPrintable found) (IsReadBack found) (canonical_text found)
tests_printable found =
    tests_text (printable_iff found) (λ is. shown_is_canonical found ((printable_iff found).0 is)) (is_read_back found)
