-- Proves that each refused text has an explanation: an error has a position, a reason and a part of the text that is wrong.
use Rattle.std.proofs.Common.{◌≡◌, ℕ, zero, suc, ◌+◌, ◌-◌, ◌<◌, ◌≤◌, min, Bool, true, false, IsTrue, IsFalse, List, [], length, Option, Some, None, slice_index_or}
use Rattle.std.proofs.Common.{refl, sym, ◌∙◌, ap, subst, inl, inr, arith, length-append, ⊎_elim}
use Rattle.std.proofs.lemmas.{Bool.cases_lt, List.length-map}
use Rattle.ixdtf_grammar.specs.declared.reason.Reason.TheVariants as reasons
use Rattle.ixdtf_grammar.specs.declared.reason.Reason.{Reason}
use Rattle.ixdtf_explanations.specs.declared.part.WrongPart.{WrongPart}
use Rattle.ixdtf_grammar.specs.{Handlers.{Reply, first_calendar, RefusedBeside, UnhandledFault}, Widths.{HasUnhandledOutcome, UnhandledOutcome.{read_as, faulted}}, language.Languages.Found}
use Rattle.ixdtf_explanations.specs.Parts.{IsPart, RunsBack, RunsOn, HasNoOpening, IsLastOpening, extent_of, of_number}
use Rattle.ixdtf_grammar.specs.{Places.{HasUnhandledFaultAt, UnhandledFaultAt, UnhandledReason}, language.{Brackets.Pair, Letters.{Class, Letter, Text, byte_letter, digit, opening}}}
use Rattle.ixdtf_grammar.specs.language.Readers.{CoreKind, Reader, Reader.{bracketed, parse_rfc3339, parse_offset, parse_identifier, parse_iana_identifier, parse_duration}}
use Rattle.ixdtf_grammar.specs.table.{Faults.{Fault, Fault.{UnrecognizedCritical, CriticalDuplicateCalendar}}, Outcomes.{HasFault, HasFaultAt, HasReason}, Reasons.reason_of}
use Rattle.ixdtf_grammar.specs.table.{Reasons.{Refuses as RefusesReply}, Rows.left_at}
use Rattle.ixdtf_reading.proofs.theorems.OneUnhandledOutcome.{one_unhandled_outcome}
use Rattle.ixdtf_reading.proofs.theorems.RowPlaces.{left_fits}
use Rattle.ixdtf_answers.specs.{Answer.{ExplainsRefusal, Gives, IsExplanation, IsOutcome, Refuses, letters, refusal_of}, Errors.RefusesAt, Word.reader_of, declared.word.Word.Word}

-- ---- the position and the reason

-- The position and the reason of the row that fits.
row_refuses : (reader : Reader) (text : Text) (pairs : List Pair) (fault : Fault) → HasFault reader text pairs fault
    → (at : ℕ) × (reason : Reason) × HasFaultAt reader text pairs fault at × HasReason reader text pairs reason
row_refuses reader text pairs fault (row, fits, has) =
    let short = left_fits reader row pairs text fits in
    (length text - length (left_at row.place), reason_of row.name, (row, fits, has, omega (arith, short)), (row, fits, refl))

-- The reason of a refused reply.
reply_reason : (first : Option Pair) (reply : Reply) (fault : Fault) → RefusedBeside first reply fault → (reason : Reason) × RefusesReply reason fault
reply_reason first None fault h = absurd h
reply_reason first (Some pair) UnrecognizedCritical h = (reasons.UnrecognizedCritical, inl (refl, refl))
reply_reason first (Some pair) CriticalDuplicateCalendar h = (reasons.CriticalDuplicateCalendar, inr (refl, refl))
reply_reason first (Some pair) fault h = absurd h

bracketed_refuses : (kind : CoreKind) (text : Text) (fault : Fault) → UnhandledFault (bracketed kind) text fault
    → (at : ℕ) × (reason : Reason) × UnhandledFaultAt (bracketed kind) text fault at × UnhandledReason (bracketed kind) text reason
bracketed_refuses kind text fault (pairs, inl h) =
    let front = h.0 in
    let last = h.1 in
    let because = reply_reason (first_calendar last.earlier) last.reply fault last.refused in (
      length front.0,
      because.0,
      (pairs, inl ((front.0, front.1, front.2, refl, front.3, front.4), last)),
      (pairs, inl (front, fault, last, because.1)),
    )
bracketed_refuses kind text fault (pairs, inr h) =
    let row = row_refuses (bracketed kind) text pairs fault h.0 in
    (row.0, row.1, (pairs, inr (row.2, h.1)), (pairs, inr (row.3, h.1)))

pub refuses_at : (reader : Reader) (text : Text) (fault : Fault) → HasUnhandledOutcome reader text (faulted fault) → (at : ℕ) × (reason : Reason) × RefusesAt reader text at reason
refuses_at (bracketed kind) text fault h = let p = bracketed_refuses kind text fault h in (p.0, p.1, (fault, p.2, p.3))
refuses_at parse_rfc3339 text fault h = let p = row_refuses parse_rfc3339 text [] fault h in (p.0, p.1, (fault, p.2, p.3))
refuses_at parse_offset text fault h = let p = row_refuses parse_offset text [] fault h in (p.0, p.1, (fault, p.2, p.3))
refuses_at parse_identifier text fault h = let p = row_refuses parse_identifier text [] fault h in (p.0, p.1, (fault, p.2, p.3))
refuses_at parse_iana_identifier text fault h = let p = row_refuses parse_iana_identifier text [] fault h in (p.0, p.1, (fault, p.2, p.3))
refuses_at (parse_duration profile) text fault h = let p = row_refuses (parse_duration profile) text [] fault h in (p.0, p.1, (fault, p.2, p.3))

-- The position of an error is at most the length of the text.
at_most : (reader : Reader) (text : Text) (fault : Fault) (at : ℕ) → HasUnhandledFaultAt reader text fault at → at ≤ length text
at_most (bracketed kind) text fault at (pairs, given) = elim given [
  | inl p ↦ (let ((front, rest, whole, is, read, derived), last) = p in omega (arith, is, ap length whole, length-append front rest))
  | inr p ↦ (let ((row, fits, error, sum), none) = p in omega (arith, sum))
]
at_most parse_rfc3339 text fault at (row, fits, error, sum) = omega (arith, sum)
at_most parse_offset text fault at (row, fits, error, sum) = omega (arith, sum)
at_most parse_identifier text fault at (row, fits, error, sum) = omega (arith, sum)
at_most parse_iana_identifier text fault at (row, fits, error, sum) = omega (arith, sum)
at_most (parse_duration profile) text fault at (row, fits, error, sum) = omega (arith, sum)

pub at_within : (reader : Reader) (bytes : List ℕ) (at : ℕ) (reason : Reason) → RefusesAt reader (letters bytes) at reason → at ≤ length bytes
at_within reader bytes at reason refuses =
    let spell : ℕ → Letter = λ n. byte_letter n in
    omega (arith, at_most reader (letters bytes) refuses.0 at refuses.1, length-map bytes spell)

-- ---- the part that is wrong

-- If the statement is true from `begin` up to `end`, and at the index before or after, it is true with this index.
one_after : (P : ℕ → Type 0) (begin end : ℕ) → ((i : ℕ) → begin ≤ i → i < end → P i) → P end → (i : ℕ) → begin ≤ i → i < suc end → P i
one_after P begin end others here i from before = ⊎_elim
    (λ less. others i from less)
    (λ more. let same : end ≡ i = omega (arith, more, before) in subst P same here)
    (cases_lt i end)

one_before : (P : ℕ → Type 0) (begin end : ℕ) → P begin → ((i : ℕ) → begin + 1 ≤ i → i < end → P i) → (i : ℕ) → begin ≤ i → i < end → P i
one_before P begin end here others i from before = ⊎_elim
    (λ less. let same : begin ≡ i = omega (arith, less, from) in subst P same here)
    (λ more. others i more before)
    (cases_lt i (begin + 1))

-- One byte more, which is in the class or not.
back_more : (class : Class) (text : List ℕ) (end : ℕ) (test : Bool) → class (slice_index_or text end 0) ≡ test → (begin : ℕ) × RunsBack class text begin end
    → (begin : ℕ) × RunsBack class text begin (suc end)
back_more class text end true is run = (
  run.0,
  record {
    within = omega (arith, run.1.within);
    inside = one_after (λ i. IsTrue (class (slice_index_or text i 0))) run.0 end run.1.inside is;
    longest = run.1.longest;
  },
)
back_more class text end false is run = (
  suc end,
  record {
    within = omega arith;
    inside = λ i from before. absurd (omega (arith, from, before));
    longest = λ some. let same : end ≡ suc end - 1 = omega arith in subst (λ i. IsFalse (class (slice_index_or text i 0))) same is;
  },
)

runs_back : (class : Class) (text : List ℕ) (end : ℕ) → (begin : ℕ) × RunsBack class text begin end
runs_back class text zero = (
  zero,
  record {
    within = omega arith;
    inside = λ i from before. absurd (omega (arith, before));
    longest = λ some. absurd (omega (arith, some));
  },
)
runs_back class text (suc end) = back_more class text end (class (slice_index_or text end 0)) refl (runs_back class text end)

-- The first byte is in the class or not.
on_more : (class : Class) (text : List ℕ) (begin : ℕ) → begin < length text → (test : Bool) → class (slice_index_or text begin 0) ≡ test
    → (end : ℕ) × RunsOn class text (begin + 1) end → (end : ℕ) × RunsOn class text begin end
on_more class text begin before true is run = (
  run.0,
  record {
    within = (omega (arith, run.1.within.0), run.1.within.1);
    inside = one_before (λ i. IsTrue (class (slice_index_or text i 0))) begin run.0 is run.1.inside;
    longest = run.1.longest;
  },
)
on_more class text begin before false is run = (
  begin,
  record {
    within = (omega arith, omega (arith, before));
    inside = λ i from below. absurd (omega (arith, from, below));
    longest = λ some. is;
  },
)

-- `more` is the number of bytes from `begin` on.
runs_on : (class : Class) (text : List ℕ) (more begin : ℕ) → begin + more ≡ length text → (end : ℕ) × RunsOn class text begin end
runs_on class text zero begin whole = (
  begin,
  record {
    within = (omega arith, omega (arith, whole));
    inside = λ i from before. absurd (omega (arith, from, before));
    longest = λ some. absurd (omega (arith, some, whole));
  },
)
runs_on class text (suc more) begin whole =
    on_more class text begin (omega (arith, whole)) (class (slice_index_or text begin 0)) refl (runs_on class text more (begin + 1) (omega (arith, whole)))

-- One byte more, which is a `[` or not.
opening_more : (text : List ℕ) (end : ℕ) (test : Bool) → opening (slice_index_or text end 0) ≡ test → (begin : ℕ) × IsLastOpening text begin end
    → (begin : ℕ) × IsLastOpening text begin (suc end)
opening_more text end true is last = (end, inl (omega arith, is, λ i from before. absurd (omega (arith, from, before))))
opening_more text end false is last =
    let passed : (begin : ℕ) → HasNoOpening text begin end → HasNoOpening text begin (suc end) =
    λ begin none. one_after (λ i. IsFalse (opening (slice_index_or text i 0))) begin end none is in (
      last.0,
      elim last.1 [
        | inl p ↦ inl (omega (arith, p.0), p.1, passed (last.0 + 1) p.2)
        | inr p ↦ inr (p.0, passed 0 p.1)
      ],
    )

last_opening : (text : List ℕ) (end : ℕ) → (begin : ℕ) × IsLastOpening text begin end
last_opening text zero = (zero, inr (refl, λ i from before. absurd (omega (arith, before))))
last_opening text (suc end) = opening_more text end (opening (slice_index_or text end 0)) refl (last_opening text end)

two_digits : (text : List ℕ) (at : ℕ) → (part : WrongPart) × ((part.begin ≡ at - 2) × (part.end ≡ at))
two_digits text at = (record { begin = at - 2; end = at }, (refl, refl))

front : (text : List ℕ) (at : ℕ) → (part : WrongPart) × ((part.begin ≡ 0) × (part.end ≡ at))
front text at = (record { begin = 0; end = at }, (refl, refl))

number : (text : List ℕ) (at : ℕ) → at ≤ length text → (part : WrongPart) × (RunsBack of_number text part.begin at × RunsOn digit text at part.end)
number text at within =
    let back = runs_back of_number text at in
    let on = runs_on digit text (length text - at) at (omega (arith, within)) in
    (record { begin = back.0; end = on.0 }, (back.1, on.1))

group : (text : List ℕ) (at : ℕ) → (part : WrongPart) × (RunsBack of_number text part.begin (at - 1) × (part.end ≡ at))
group text at = let back = runs_back of_number text (at - 1) in (record { begin = back.0; end = at }, (back.1, refl))

number_before_unit : (text : List ℕ) (at : ℕ) → (part : WrongPart) × (RunsBack of_number text part.begin (at - 1) × (part.end ≡ at - 1))
number_before_unit text at = let back = runs_back of_number text (at - 1) in (record { begin = back.0; end = at - 1 }, (back.1, refl))

bracket : (text : List ℕ) (at : ℕ) → (part : WrongPart) × (IsLastOpening text part.begin at × (part.end ≡ at))
bracket text at = let last = last_opening text at in (record { begin = last.0; end = at }, (last.1, refl))

-- For a reason without a line of its own, the part is the byte at the position.
wrong_part : (reason : Reason) (text : List ℕ) (at : ℕ) → at ≤ length text → (part : WrongPart) × IsPart (extent_of reason) text at part
wrong_part reasons.MinusZeroYear text at within = front text at
wrong_part reasons.MonthRange text at within = two_digits text at
wrong_part reasons.DayRange text at within = two_digits text at
wrong_part reasons.MonthDayMonthRange text at within = two_digits text at
wrong_part reasons.MonthDayRange text at within = two_digits text at
wrong_part reasons.TimeReadsAsMonthDay text at within = front text at
wrong_part reasons.TimeReadsAsYearMonth text at within = front text at
wrong_part reasons.HourRange text at within = two_digits text at
wrong_part reasons.MinuteRange text at within = two_digits text at
wrong_part reasons.SecondRange text at within = two_digits text at
wrong_part reasons.OffsetHourRange text at within = two_digits text at
wrong_part reasons.OffsetMinuteRange text at within = two_digits text at
wrong_part reasons.OffsetSecondRange text at within = two_digits text at
wrong_part reasons.ZoneOffsetHourRange text at within = two_digits text at
wrong_part reasons.ZoneOffsetMinuteRange text at within = two_digits text at
wrong_part reasons.ZoneOffsetSecondRange text at within = two_digits text at
wrong_part reasons.MonthFieldRange text at within = two_digits text at
wrong_part reasons.DayFieldRange text at within = two_digits text at
wrong_part reasons.HourFieldRange text at within = two_digits text at
wrong_part reasons.MinuteFieldRange text at within = two_digits text at
wrong_part reasons.SecondFieldRange text at within = two_digits text at
wrong_part reasons.OffsetHourFieldRange text at within = two_digits text at
wrong_part reasons.OffsetMinuteFieldRange text at within = two_digits text at
wrong_part reasons.FirstNameForm text at within = bracket text at
wrong_part reasons.FirstOffsetForm text at within = bracket text at
wrong_part reasons.DateGroupRange text at within = number text at within
wrong_part reasons.TimeGroupRange text at within = number text at within
wrong_part reasons.DateUnitOrder text at within = group text at
wrong_part reasons.TimeUnitOrder text at within = group text at
wrong_part reasons.DateUnitRange text at within = number_before_unit text at
wrong_part reasons.UnrecognizedCritical text at within = bracket text at
wrong_part reasons.CriticalDuplicateCalendar text at within = bracket text at
wrong_part reason text at within = (record { begin = at; end = min (at + 1) (length text) }, (refl, refl))

-- ---- the explanation

pub explained : (reader : Reader) (text : List ℕ) (fault : Fault) → Refuses reader (letters text) fault → (answer : List ℕ) × ExplainsRefusal reader text answer
explained reader text fault refused =
    let (at, reason, refuses) = refuses_at reader (letters text) fault refused in
    let (part, is_part) = wrong_part reason text at (at_within reader text at reason refuses) in
    (refusal_of at part reason, record { at = at; reason = reason; refuses = refuses; part = part; is_part = is_part; is = refl })

-- The reader accepts the text, so the answer of the word is the answer to an accepted text.
pub accepted : (word : Word) (text answer : List ℕ) → (found : Found) × Gives (reader_of word) (letters text) found → IsOutcome word text answer → IsExplanation word text answer
accepted word text answer given (inl is) = inl is
accepted word text answer (found, gives) (inr (fault, refused, is)) =
    let (outcome, has, only) = one_unhandled_outcome (reader_of word) (letters text) in
    let same : read_as found ≡ faulted fault = only (read_as found) gives ∙ sym (only (faulted fault) refused) in
    absurd cc
