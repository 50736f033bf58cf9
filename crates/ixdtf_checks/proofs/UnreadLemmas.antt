-- Proves what a report says about a text that a reader refuses.
use Rattle.std.proofs.Common.{◌≡◌, ℕ, ◌+◌, ◌≤◌, Bool, false, List, length, take, drop, refl, sym, ap, subst, ◌∙◌, arith, length-append}
use Rattle.std.proofs.lemmas.List.{length-take, length-take-le, take-append-le, take-take, take_all}
use Rattle.std.specs.Prelude.{◌&&◌, min}
use Rattle.ixdtf_buffers.specs.Adding.{Adds}
use Rattle.ixdtf_grammar.specs.ReasonNames.{reason_name}
use Rattle.ixdtf_explanations.specs.Messages.{IsMessage, message_text}
use Rattle.ixdtf_explanations.specs.Parts.{IsPart, extent_of}
use Rattle.ixdtf_explanations.specs.declared.located.LocatedReason.{LocatedReason}
use Rattle.ixdtf_explanations.specs.declared.message.Message.{Message}
use Rattle.ixdtf_explanations.specs.declared.part.WrongPart.{WrongPart}
use Rattle.ixdtf_checks.specs.{Parts.{Text, width_of}, Seen.lines_at, Spaced.is_spaced, Verdicts.{Explains}}
use Rattle.ixdtf_checks.proofs.VerdictLemmas.{shows_part}

-- The index after what is added to an array is not before the index at which it begins.
pub adds_after : (a b : List ℕ) (i j : ℕ) (xs : List ℕ) → i ≤ length a → Adds a b i j xs → i ≤ j
adds_after a b i j xs within p =
    let long : length (take i a) ≡ i = length-take-le i a within in
    let whole : length (take j b) ≡ i + length xs = ap length p.is ∙ length-append (take i a) xs ∙ ap (λ n. n + length xs) long in
    let cut : length (take j b) ≡ min j (length b) = length-take j b in
    omega (arith, whole, cut)

-- What is added to an array leaves the bytes before it as they were.
pub adds_keeps : (a b : List ℕ) (i j : ℕ) (xs : List ℕ) → i ≤ length a → Adds a b i j xs → take i b ≡ take i a
adds_keeps a b i j xs within p =
    let long : length (take i a) ≡ i = length-take-le i a within in
    let shorter : i ≤ length (take i a) = omega (arith, long) in
    sym (take-take i j b (adds_after a b i j xs within p)) ∙ ap (take i) p.is ∙ take-append-le i (take i a) xs shorter
    ∙ take_all i (take i a) (omega (arith, long))

-- If two arrays are equal up to an index, they are equal up to each earlier index.
pub take_shorter : (a b : List ℕ) (i j : ℕ) → i ≤ j → take j a ≡ take j b → take i a ≡ take i b
take_shorter a b i j less same = sym (take-take i j a less) ∙ ap (take i) same ∙ take-take i j b less

-- If the part that is wrong begins with no space before an offset, a report says this about the text.
pub explained : (has_offset : Bool) (text : Text) (error : LocatedReason) (part : WrongPart) (message : Message) (column end : ℕ) → error.at ≤ length text.bytes
    → IsPart (extent_of error.reason) text.bytes (min error.at (length text.bytes)) part → (has_offset && is_spaced (drop part.begin text.bytes)) ≡ false
    → IsMessage error.reason text.bytes (min error.at (length text.bytes)) message
    → column ≡ text.start + width_of text part.begin + 1 → end ≡ text.start + width_of text part.end + 1
    → Explains has_offset text error (record {
      column = column;
      end = end;
      reason = reason_name error.reason;
      message = message_text message;
      lines = lines_at part.begin part.end text.bytes;
    })
explained has_offset text error part message column end within is_part unspaced is_message begins ends =
    let least : min error.at (length text.bytes) ≡ error.at = omega (arith, within) in
    let is : IsMessage error.reason text.bytes error.at message = subst (λ at. IsMessage error.reason text.bytes at message) least is_message in
    record {
      part = part;
      is_part = subst (λ at. IsPart (extent_of error.reason) text.bytes at part) least is_part;
      column = begins;
      end = ends;
      says = rw unspaced (refl, (message, is, refl));
      shows = shows_part text.bytes part;
    }
