-- Proves what follows from the result of a reader, for the canonical text of its value.
use Rattle.std.proofs.{Common.{◌≡◌, ℕ, ◌≤◌, ◌<◌, List, length, map, Ok, Err, refl, arith}, lemmas.List.length-map}
use Rattle.ixdtf_grammar.specs.{Handlers.UnhandledRecord, Views.UnreadUnder, Widths.byte_text}
use Rattle.ixdtf_explanations.specs.declared.located.LocatedError.{LocatedError}
use Rattle.ixdtf_explanations.specs.LocatedPromises.{ReadsTextAt}
use Rattle.ixdtf_grammar.specs.language.{Languages.Parsed, Letters.{Text, byte_letter}, Readers.{CoreKind, Reader, Reader.bracketed}, ZoneNames.Zone}
use Rattle.ixdtf_print.specs.{Canonical.zone_text, Printing.{HasText, FitsWithin}, Zones.{IsIdentifier, IsPrintableZone}}
use Rattle.ixdtf_print.proofs.theorems.PrintableZones.{zone_fits}
use Rattle.ixdtf_checks.specs.{Canonicals.PrintsCanonical, Errors.HasError}

-- The reader returned the value for the text. So the value is printable, and its canonical text fits into the buffer.
pub ready : {R : Type 0} {stands : Text → R → Type 0} (text_of : R → Text) (more : ℕ) (bytes : List ℕ) {found : R} → FitsWithin more stands text_of → more ≤ 255
    → length bytes ≤ 65536 → stands (byte_text bytes) found → HasText stands found × (length (text_of found) < 65792)
ready text_of more bytes {found = found} fits few short given =
    ((byte_text bytes, given), omega (arith, fits (byte_text bytes) found given, length-map bytes byte_letter, few, short))

-- The same is true of a time zone.
pub zone_ready : (bytes : List ℕ) {zone : Zone} → length bytes ≤ 65536 → IsIdentifier (byte_text bytes) zone → IsPrintableZone zone × (length (zone_text zone) < 65792)
zone_ready bytes short given = ready zone_text 3 bytes zone_fits (omega arith) short given

module _ {R : Type 0} {reader : Reader} {stands : Text → R → Type 0} {text_of : R → Text} {bytes canonical : List ℕ} where
  -- The reader returned a value for the text, and the canonical text of this value was printed.
  pub printed_text : (found : R) → stands (byte_text bytes) found → map byte_letter canonical ≡ text_of found → PrintsCanonical reader stands text_of bytes (Ok tt) canonical
  printed_text found given prints = record { ok = (found, given, prints); err = tt }

  -- The reader refused the text. `unread` is the text that the parser has.
  pub refused_text : {unread : List ℕ} {error : LocatedError} → unread ≡ bytes → HasError reader (byte_text unread) error
      → PrintsCanonical reader stands text_of bytes (Err error) canonical
  refused_text same has = record { ok = tt; err = rw (← same) has }

module _ {X : Type 0} {view : X → Parsed} {kind : CoreKind} {old new : UnreadUnder} {bytes : List ℕ} where
  -- A reader of records returned this record for the text.
  pub record_given : {x : X} → old.rest ≡ bytes → ReadsTextAt byte_letter view (bracketed kind) old (Ok x) new → UnhandledRecord (bracketed kind) (byte_text bytes) (view x)
  record_given {x = x} rest reads = rw (← rest) ((reads.ok (view x)).0 refl)

  -- A reader of records refused the text.
  pub record_refused : {error : LocatedError} {R : Type 0} {stands : Text → R → Type 0} {text_of : R → Text} {canonical : List ℕ} → old.rest ≡ bytes
      → ReadsTextAt byte_letter view (bracketed kind) old (Err error) new → PrintsCanonical (bracketed kind) stands text_of bytes (Err error) canonical
  record_refused rest reads = refused_text rest (reads.err, reads.reason)
