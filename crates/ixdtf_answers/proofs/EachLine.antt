-- Proves that each line has an answer.
use Rattle.std.proofs.Common.{◌≡◌, ◌≢◌, ◌⊎◌, ℕ, ◌+◌, Bool, true, false, List, [], ◌∷◌, ◌++◌, length, take, drop, Option, Some, None, MatchOption, position}
use Rattle.std.proofs.{Common.{refl, sym, ap, subst, true≢false, ◌∙◌, inl, inr, append_assoc, nat_lt, arith}, lemmas.Slice.Eq.bytes_eq-Decides}
use Rattle.std.specs.Bool.{MatchBool}
use Rattle.ixdtf.specs.Widths.{UnhandledOutcome, HasUnhandledOutcome, UnhandledOutcome.{read_as, faulted}}
use Rattle.ixdtf_reading.proofs.theorems.OneUnhandledOutcome.{one_unhandled_outcome}
use Rattle.ixdtf_answers.specs.Answer.{line_limit, too_long, unknown_reader, is_space, letters, read_answer_of, error_answer_of, IsOutcome, IsExplanation}
use Rattle.ixdtf_answers.specs.{Answer.{IsNamedExplanation, IsExplainAnswer, IsReaderAnswer, IsAnswer}, Run.AreAnswers, Word.{name_of, reader_of, explain, IsNoWord}, declared.word.Word.Word}
use Rattle.ixdtf_answers.specs.declared.word.Word.TheVariants.{Parse, YearMonth, MonthDay, Time, Offset, Zone, Iana, Duration, StrictMonthDay, StrictTime}
use Rattle.ixdtf_answers.specs.declared.word.Word.TheVariants.{StrictDuration, Canonical, Rfc3339, ZoneName, Rfc9557, CanonicalOffset, CanonicalZone, CanonicalDuration, Instant, CanonicalTime, CanonicalYearMonth, CanonicalMonthDay}
use Rattle.ixdtf_buffers.specs.Lines.{newline}
use Rattle.ixdtf_answers.proofs.ExplainLemmas.{explained}

-- Each text has an outcome: the reader accepts it or returns an error.
outcome_answer : (word : Word) (text : List ℕ) → (answer : List ℕ) × IsOutcome word text answer
outcome_answer word text = let outcome = one_unhandled_outcome (reader_of word) (letters text) in go outcome.0 outcome.1
  where
    go : (outcome : UnhandledOutcome) → HasUnhandledOutcome (reader_of word) (letters text) outcome → (answer : List ℕ) × IsOutcome word text answer
    go (read_as found) has = (read_answer_of word found, inl (found, has, refl))
    go (faulted fault) has = (error_answer_of fault, inr (fault, has, refl))

-- Each text has an explanation: the reader accepts it, or the answer says why it does not.
explanation : (word : Word) (text : List ℕ) → (answer : List ℕ) × IsExplanation word text answer
explanation word text = let outcome = one_unhandled_outcome (reader_of word) (letters text) in go outcome.0 outcome.1
  where
    go : (outcome : UnhandledOutcome) → HasUnhandledOutcome (reader_of word) (letters text) outcome → (answer : List ℕ) × IsExplanation word text answer
    go (read_as found) has = (read_answer_of word found, inl (found, has, refl))
    go (faulted fault) has = let refusal = explained (reader_of word) text fault has in (refusal.0, inr refusal.1)

-- Two lists of bytes are equal, or they are not.
same_bytes : (xs ys : List ℕ) → (xs ≡ ys) ⊎ (xs ≢ ys)
same_bytes xs ys = by_test _ (bytes_eq-Decides xs ys)
  where
    by_test : (test : Bool) → (test ≡ true → xs ≡ ys) × (xs ≡ ys → test ≡ true) → (xs ≡ ys) ⊎ (xs ≢ ys)
    by_test true p = inl (p.0 refl)
    by_test false p = inr (λ same. true≢false (sym (p.1 same)))

-- None of these words has the name.
abbrev NoneOf : List ℕ → List Word → Type 0
NoneOf name [] = Unit {0}
NoneOf name (word ∷ words) = (name ≢ name_of word) × NoneOf name words

word_among : (name : List ℕ) (words : List Word) → ((word : Word) × (name ≡ name_of word)) ⊎ NoneOf name words
word_among name [] = inr tt
word_among name (word ∷ words) = elim (same_bytes name (name_of word)) [
  | inl is ↦ inl (word, is)
  | inr other ↦ elim (word_among name words) [ inl p ↦ inl p | inr none ↦ inr (other, none) ]
]

abbrev all_words : List Word
all_words = Parse ∷ YearMonth ∷ MonthDay ∷ Time ∷ Offset ∷ Zone ∷ Iana ∷ Duration ∷ StrictMonthDay ∷ StrictTime ∷ StrictDuration ∷ Canonical ∷ Rfc3339 ∷ ZoneName ∷ Rfc9557 ∷ CanonicalOffset ∷ CanonicalZone ∷ CanonicalDuration ∷ Instant ∷ CanonicalTime ∷ CanonicalYearMonth ∷ CanonicalMonthDay ∷ []

no_word : (name : List ℕ) → NoneOf name all_words → IsNoWord name
no_word name none word is = grind arith

word_or_none : (name : List ℕ) → ((word : Word) × (name ≡ name_of word)) ⊎ IsNoWord name
word_or_none name = elim (word_among name all_words) [ inl p ↦ inl p | inr none ↦ inr (no_word name none) ]

named_explanation : (name text : List ℕ) → (answer : List ℕ) × IsNamedExplanation name text answer
named_explanation name text = elim (word_or_none name) [
  | inl p ↦ (let answer = explanation p.0 text in (answer.0, inl (p.0, p.1, answer.1)))
  | inr none ↦ (unknown_reader, inr (none, refl))
]

explain_answer : (bytes : List ℕ) → (answer : List ℕ) × IsExplainAnswer bytes answer
explain_answer bytes = go (position is_space bytes)
  where
    go : (at : Option ℕ) → (answer : List ℕ) × MatchOption at (answer ≡ unknown_reader) (λ place. IsNamedExplanation (take place bytes) (drop (place + 1) bytes) answer)
    go None = (unknown_reader, refl)
    go (Some place) = named_explanation (take place bytes) (drop (place + 1) bytes)

-- The answer to a line whose name is not that of a word.
other_answer : (name text : List ℕ) → IsNoWord name → (answer : List ℕ) × IsReaderAnswer name text answer
other_answer name text none = elim (same_bytes name explain) [
  | inl is ↦ (let answer = explain_answer text in (answer.0, inr (inl (is, answer.1))))
  | inr other ↦ (unknown_reader, inr (inr (none, other, refl)))
]

reader_answer : (name text : List ℕ) → (answer : List ℕ) × IsReaderAnswer name text answer
reader_answer name text = elim (word_or_none name) [
  | inl p ↦ (let answer = outcome_answer p.0 text in (answer.0, inl (p.0, p.1, answer.1)))
  | inr none ↦ other_answer name text none
]

each_answer : (line : List ℕ) → (answer : List ℕ) × IsAnswer line answer
each_answer line = go (nat_lt line_limit (length line)) (position is_space line)
  where
    go : (test : Bool) (at : Option ℕ) → (answer : List ℕ) × MatchBool test (answer ≡ too_long)
        (MatchOption at (answer ≡ unknown_reader) (λ place. IsReaderAnswer (take place line) (drop (place + 1) line) answer))
    go true at = (too_long, refl)
    go false None = (unknown_reader, refl)
    go false (Some place) = reader_answer (take place line) (drop (place + 1) line)

-- All lines have answers.
pub all_answers : (lines : List (List ℕ)) → (bytes : List ℕ) × AreAnswers lines bytes
all_answers [] = ([], refl)
all_answers (line ∷ lines) =
    let answer = each_answer line in
    let others = all_answers lines in
    (answer.0 ++ newline ∷ others.0, (answer.0, others.0, answer.1, refl, others.1))

-- The answers to some lines, and then to others, are the answers to all of these lines.
pub AreAnswers-append : (lines others : List (List ℕ)) (bytes more : List ℕ) → AreAnswers lines bytes → AreAnswers others more
    → AreAnswers (lines ++ others) (bytes ++ more)
AreAnswers-append [] others bytes more none rest = subst (λ (t : List ℕ). AreAnswers others (t ++ more)) (sym none) rest
AreAnswers-append (line ∷ lines) others bytes more (answer, bytes_after, is, whole, after) rest = (
  answer,
  bytes_after ++ more,
  is,
  ap (λ (t : List ℕ). t ++ more) whole
      ∙ append_assoc answer (newline ∷ bytes_after) more,
  AreAnswers-append lines others bytes_after more after rest,
)
