-- Both hyphens of a date can be present or absent without a difference. If only one of them is present, the text is refused.
use Rattle.std.proofs.Common.{◌≡◌, ◌∷◌, ◌++◌, [], refl, sym, ◌∙◌, ap, inl, inr, append_assoc}
use Rattle.ixdtf_grammar.specs.{declared.records.DateRecord.DateRecord, Laws.{HyphensSayNothing, OneHyphenIsRefused, IsDateParts}}
use Rattle.ixdtf_grammar.specs.{Widths.{UnhandledOutcome, HasUnhandledOutcome, UnhandledOutcome.faulted}, language.{Dates.DateText, Digits.decimal}}
use Rattle.ixdtf_grammar.specs.{language.{Letters.{Text, digit, Letter.Plain}, Readers.{parse, CoreKind.date_time}}, table.Faults.Fault.DateSeparator}
use Rattle.ixdtf_grammar.specs.table.{LineNames.{of_date, DateLine, DateLine.{after_hyphened_month, after_basic_month}}, Rows.{front_of, Stops, Place.other}}
use Rattle.ixdtf_grammar.specs.table.{Before.BeforeDate, Lines.date_line}
use Rattle.ixdtf_reading.specs.reading.{Cores.date_time_core_at, Dates.date_of, Looks.row_of, Wholes.{row_behind, bracketed_text_at, outcome}}
use Rattle.ixdtf_reading.proofs.{theorems.{OneOutcome.outcome_holds, OneUnhandledOutcome.same_plain, Replies.NoneRefused-nothing}, to_reading.Dates.over_date}
use Rattle.ixdtf_reading.proofs.code.DigitClasses.{digit_no_hyphen}

-- The date of these parts.
abbrev date_with : (years months days : Text) → IsDateParts years months days → DateRecord
date_with years months days h = date_of h.0.0 h.1.0 (decimal days)

plain_shape : (years months days : Text) (h : IsDateParts years months days) → DateText (years ++ (months ++ days)) (date_with years months days h)
plain_shape years months days h =
    inl (record { years = years; months = months; days = days; is = refl; year = h.0.1; month = h.1.1; day = (h.2, refl) })

hyphened_shape : (years months days : Text) (h : IsDateParts years months days)
    → DateText (years ++ (Plain 45 ∷ (months ++ (Plain 45 ∷ days)))) (date_with years months days h)
hyphened_shape years months days h =
    inr (record { years = years; months = months; days = days; is = refl; year = h.0.1; month = h.1.1; day = (h.2, refl) })

-- Reading gives the same result after two texts of the same date.
alike_read : (first second rest : Text) (date : DateRecord) → DateText first date → DateText second date
    → outcome parse (first ++ rest) ≡ outcome parse (second ++ rest)
unfolding bracketed_text_at date_time_core_at
alike_read first second rest date h g = rw ((over_date (row_behind []) first date h).over rest, (over_date (row_behind []) second date g).over rest) refl

alike_plain : (first second : Text) → outcome parse first ≡ outcome parse second → (x : UnhandledOutcome) → HasUnhandledOutcome parse first x
    → HasUnhandledOutcome parse second x
alike_plain first second same = same_plain date_time first second (outcome parse first) (outcome_holds parse first) (rw same (outcome_holds parse second))

pub hyphens_say_nothing : HyphensSayNothing
hyphens_say_nothing years months days rest h x =
    let plain : (years ++ (months ++ days)) ++ rest ≡ years ++ (months ++ (days ++ rest)) = simp append_assoc in
    let hyphened : (years ++ (Plain 45 ∷ (months ++ (Plain 45 ∷ days)))) ++ rest ≡ years ++ (Plain 45 ∷ (months ++ (Plain 45 ∷ (days ++ rest)))) =
    simp append_assoc in
    let alike = alike_read _ _ rest _ (plain_shape years months days h) (hyphened_shape years months days h) in
    let same = ap (outcome parse) (sym plain) ∙ alike ∙ ap (outcome parse) hyphened in
    (alike_plain _ _ same x, alike_plain _ _ (sym same) x)

-- The row of a table line of dates, before any annotation, is the outcome.
refused_at : (l : DateLine) (front rest text : Text) → BeforeDate date_time l [] → text ≡ front ++ rest → front_of (date_line l) front
    → Stops (date_line l) (other rest) DateSeparator rest → HasUnhandledOutcome parse text (faulted DateSeparator)
refused_at l front rest text first is f at =
    ([], inr ((row_of (of_date l) (other rest) DateSeparator, ([], text, refl, (first, refl), (front, rest, is, f, at)), refl), NoneRefused-nothing))

pub one_hyphen_is_refused : OneHyphenIsRefused
one_hyphen_is_refused years months days rest ((y, year), (m, month), (c, more, is, digit, others)) = (
  refused_at after_hyphened_month (years ++ (Plain 45 ∷ months)) (days ++ rest) _ refl (simp append_assoc)
      (years, Plain 45 ∷ months, refl, (y, year), (Plain 45 ∷ [], months, refl, (45, refl, refl), (m, month)))
      (c, more ++ rest, ap (λ t. t ++ rest) is, digit_no_hyphen c digit, refl, refl),
  refused_at after_basic_month (years ++ months) (Plain 45 ∷ (days ++ rest)) _ refl (simp append_assoc) (years, months, refl, (y, year), (m, month))
      (45, days ++ rest, refl, refl, refl, refl),
)
