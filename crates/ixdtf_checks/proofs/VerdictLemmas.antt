-- Proves which verdict follows from the result of a reader.
use Rattle.std.proofs.Common.{◌≡◌, ℕ, ◌≤◌, subst, le-ltb, Bool, true, false, if◌then◌else◌, List, [], ◌∷◌, ◌++◌, length, Option, Some, None, inl, inr, refl, sym, ap, ◌∙◌, true≢false, arith, length-append}
use Rattle.std.proofs.lemmas.{List.{length-map}, Str.{IsUtf8-from_is_utf8, is_utf8-from_IsUtf8}}
use Rattle.std.specs.Str.{is_utf8}
use Rattle.ixdtf_explanations.specs.LocatedTexts.{pointed_text}
use Rattle.ixdtf_buffers.specs.Lines.{newline}
use Rattle.ixdtf_grammar.specs.{declared.profile.Profile.Profile, Places.HasUnhandledFaultAt}
use Rattle.ixdtf_explanations.specs.declared.located.LocatedError.{LocatedError}
use Rattle.ixdtf_explanations.specs.declared.part.WrongPart.{WrongPart}
use Rattle.ixdtf_grammar.specs.Widths.{byte_text}
use Rattle.ixdtf_grammar.specs.language.{Letters.{Text, Letter, byte_letter}, Readers.{Reader}}
use Rattle.ixdtf_grammar.specs.language.Readers.Reader.{bracketed, parse_rfc3339, parse_offset, parse_identifier, parse_iana_identifier, parse_duration}
use Rattle.ixdtf_grammar.specs.table.Faults.{Fault}
use Rattle.ixdtf_explanations.specs.LocatedFaults.{fault_of_located}
use Rattle.ixdtf_instants.specs.declared.instant.Instant.{Instant}
use Rattle.ixdtf_checks.specs.{Errors.HasError, Seen.lines_at, Kinds.{has_offset, reader_of}, Parts.{Text as Part, line_in}, Refusals.IsRefusal}
use Rattle.ixdtf_checks.specs.{Verdicts.{Cause, Verdict, ShowsPart, IsOrderVerdict, IsShortVerdict, IsTextVerdict, IsUnread, IsVerdict, Verdict.{accepted, printed, skipped, refused}}, declared.kind.Kind.Kind}
use Rattle.ixdtf_checks.specs.declared.request.{Request.Request, Task.TheVariants.{Check, Print}}

-- The position of an error is at most the length of the text.
at_most : (reader : Reader) (text : Text) (fault : Fault) (at : ℕ) → HasUnhandledFaultAt reader text fault at → at ≤ length text
at_most (bracketed kind) text fault at (pairs, given) = elim given [
  | inl p ↦ (let ((front, rest, whole, is, read, derived), last) = p in omega (arith, is, ap length whole, length-append front rest))
  | inr p ↦ (let ((row, fits, error, sum), none) = p in omega (arith, sum))
]
at_most parse_rfc3339 text fault at (row, fits, error, sum) = omega (arith, sum)
at_most parse_offset text fault at (row, fits, error, sum) = omega (arith, sum)
at_most parse_identifier text fault at (row, fits, error, sum) = omega (arith, sum)
at_most parse_iana_identifier text fault at (row, fits, error, sum) = omega (arith, sum)
at_most (parse_duration profile) text fault at (row, fits, error, sum) = omega (arith, sum)

pub at_within : (reader : Reader) (bytes : List ℕ) (error : LocatedError) → HasError reader (byte_text bytes) error → error.at ≤ length bytes
at_within reader bytes error has =
    let spell : ℕ → Letter = λ n. byte_letter n in
    omega (arith, at_most reader (byte_text bytes) (fault_of_located error) error.at has.0, length-map bytes spell)

-- These are the lines under the message.
pub shows_part : (bytes : List ℕ) (part : WrongPart) → ShowsPart bytes part (lines_at part.begin part.end bytes)
shows_part bytes part = go (is_utf8 bytes) refl
  where
    go : (test : Bool) → is_utf8 bytes ≡ test → ShowsPart bytes part (if test then pointed_text bytes part.begin part.end ++ newline ∷ [] else [])
    go true is = inl (IsUtf8-from_is_utf8 bytes is, refl)
    go false is = inr ((λ good. true≢false (sym (is_utf8-from_IsUtf8 bytes good) ∙ is)), refl)

-- If a reader refuses a text, the verdict has a cause and no instant.
refused_for : (with_offset : Bool) (reader : Reader) (text : Part) (verdict : Verdict) → IsRefusal with_offset reader text verdict
    → (cause : Cause) × (verdict ≡ refused None cause) × IsUnread with_offset reader text cause
refused_for with_offset reader text (accepted instant) none = absurd none
refused_for with_offset reader text (printed canonical) none = absurd none
refused_for with_offset reader text skipped none = absurd none
refused_for with_offset reader text (refused None cause) is = (cause, refl, is)
refused_for with_offset reader text (refused (Some instant) cause) none = absurd none

-- If the reader refuses the text, this is the verdict of a check.
pub check_refused : (kind : Kind) (profile : Profile) (last : Option Instant) (text : Part) (verdict : Verdict)
    → IsRefusal (has_offset kind) (reader_of kind profile) text verdict → IsTextVerdict (Check kind) profile last text verdict
check_refused kind profile last text verdict is =
    let (cause, same, unread) = refused_for (has_offset kind) (reader_of kind profile) text verdict is in rw same unread

-- If the reader refuses the text, this is the verdict when the canonical text is asked for.
pub print_refused : (kind : Kind) (profile : Profile) (last : Option Instant) (text : Part) (verdict : Verdict)
    → IsRefusal (has_offset kind) (reader_of kind profile) text verdict → IsTextVerdict (Print kind) profile last text verdict
print_refused kind profile last text verdict is =
    let (cause, same, unread) = refused_for (has_offset kind) (reader_of kind profile) text verdict is in rw same unread

-- If the reader refuses the text, this is the verdict on a text that has to name an instant.
pub order_refused : (reader : Reader) (last : Option Instant) (text : Part) (verdict : Verdict)
    → IsRefusal true reader text verdict → IsOrderVerdict reader last text verdict
order_refused reader last text verdict is = let (cause, same, unread) = refused_for true reader text verdict is in rw same (inl unread)

-- The verdict on a line that is not too long.
pub short_verdict : (request : Request) (is_first : Bool) (last : Option Instant) (line text : List ℕ) (verdict : Verdict) → length line ≤ 65536 → line ≡ text
    → IsShortVerdict request is_first last (line_in is_first line) verdict → IsVerdict request is_first last text verdict
short_verdict request is_first last line text verdict few same is =
    subst (λ t. IsVerdict request is_first last t verdict) same (rw (le-ltb 65536 (length line) few) is)
