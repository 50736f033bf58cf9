-- The code units of the canonical texts of durations and offsets are from 1 to 126, so these texts are the same in both widths.
use Rattle.ixdtf_grammar.specs.declared.records.UtcOffsetRecord.TheVariants as offsets
use Rattle.ixdtf_grammar.specs.declared.records.UtcOffsetRecordOrZ.TheVariants as stands
use Rattle.std.proofs.Common.{ℕ, ◌<◌, ◌≤◌, ◌≡◌, IsTrue, List, ◌∷◌, ◌++◌, map, Option, Result, Ok, Err, IfOk, OnOk, refl, arith}
use Rattle.ixdtf_grammar.specs.declared.{profile.Profile.TheVariants.Crate, records.DurationParseRecord.DurationParseRecord}
use Rattle.ixdtf_grammar.specs.declared.records.{Sign.{Sign, TheVariants.{Positive, Negative}}, UtcOffsetRecord.UtcOffsetRecord}
use Rattle.ixdtf.specs.language.{Letters.Letter.Plain, Fractions.FractionParts}
use Rattle.ixdtf.specs.Widths.{is_shared, wide_text}
use Rattle.ixdtf_grammar.proofs.parts.Classes.{AllOf, all_append, all_digits}
use Rattle.ixdtf_print.specs.Canonical.{two_digits, minutes_text, seconds_text, fraction_text, clock_text, mark_of}
use Rattle.ixdtf_print.specs.{Durations.{duration_text, IsDurationReadBack}, Offsets.{utc_offset_text, IsOffsetReadBack}, Spelled.{IsClock, IsShift}}
use Rattle.ixdtf_print.proofs.parts.PaddedDigits.{two_are}
use Rattle.ixdtf_print.proofs.theorems.{DisplayedDurations.{shared_digit, shared_fraction, shared_duration}, DisplayedText.same_in_both}
use Rattle.ixdtf_print.proofs.theorems.{PrintableDurations.printable_duration, PrintableOffsets.printable_offset}

-- ---- offsets

shared_pair : (n : ℕ) → n < 100 → AllOf is_shared (two_digits n)
shared_pair n small = all_digits shared_digit 2 (two_digits n) (two_are n small).0

pub shared_minutes : (h m : ℕ) → h ≤ 23 → m ≤ 59 → AllOf is_shared (minutes_text h m)
unfolding minutes_text
shared_minutes h m hour minute =
    all_append is_shared (two_digits h) _ (shared_pair h (omega (arith, hour))) (refl, shared_pair m (omega (arith, minute)))

shared_clock : (h m s : ℕ) (fraction : Option FractionParts) → IsClock 59 h m s fraction → AllOf is_shared (clock_text h m s fraction)
unfolding clock_text seconds_text
shared_clock h m s fraction at =
    let second = shared_pair s (omega (arith, at.second)) in
    let minute = all_append is_shared (two_digits m) (Plain 58 ∷ two_digits s) (shared_pair m (omega (arith, at.minute))) (refl, second) in
    let hour = all_append is_shared (two_digits h) (Plain 58 ∷ (two_digits m ++ (Plain 58 ∷ two_digits s))) (shared_pair h (omega (arith, at.hour))) (refl, minute) in
    all_append is_shared _ (fraction_text fraction) hour (shared_fraction fraction at.fraction)

pub shared_mark : (s : Sign) → IsTrue (is_shared (mark_of s))
shared_mark Positive = refl
shared_mark Negative = refl

pub shared_offset : (offset : UtcOffsetRecord) → IsShift (stands.Offset offset) → AllOf is_shared (utc_offset_text offset)
shared_offset (offsets.MinutePrecision offset) at = (shared_mark offset.sign, shared_minutes offset.hour offset.minute at.0 at.1)
shared_offset (offsets.FullPrecisionOffset offset) at =
    let minutes = offset.minute_precision_offset in
    (shared_mark minutes.sign, shared_clock minutes.hour minutes.minute offset.second offset.fraction at)

-- ---- the printed text

pub on_ok : {A E : Type 0} {known : Type 0} {before after : A → Type 0} (result : Result A E) → OnOk result known → IfOk result before
    → (known → (a : A) → before a → after a) → IfOk result after
on_ok (Ok a) k h f = f k a h
on_ok (Err e) k h f = tt

pub wide_duration : {E : Type 0} (units : ℕ → List ℕ) (duration : DurationParseRecord) (result : Result ℕ E) → OnOk result (IsDurationReadBack duration)
    → IfOk result (λ n. map Plain (units n) ≡ duration_text duration) → IfOk result (λ n. wide_text (units n) ≡ duration_text duration)
wide_duration units duration result back text =
    on_ok result back text (λ read n is.
    same_in_both (units n) (duration_text duration)
    (shared_duration duration ((printable_duration duration).0 (duration_text duration, (read Crate).same))) is)

pub wide_offset : {E : Type 0} (units : ℕ → List ℕ) (offset : UtcOffsetRecord) (result : Result ℕ E) → OnOk result (IsOffsetReadBack offset)
    → IfOk result (λ n. map Plain (units n) ≡ utc_offset_text offset) → IfOk result (λ n. wide_text (units n) ≡ utc_offset_text offset)
wide_offset units offset result back text =
    on_ok result back text (λ read n is.
    same_in_both (units n) (utc_offset_text offset)
    (shared_offset offset ((printable_offset offset).0 (utc_offset_text offset, read.same))) is)
