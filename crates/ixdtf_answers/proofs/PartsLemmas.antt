-- Proves which bytes the functions write for an answer.
use Rattle.std.proofs.Common.{◌≡◌, ℕ, ◌≤◌, length, take, Bool, List, [], ◌∷◌, ◌++◌, Option, Some, None, Result, Ok, Err, codes, inl, inr, refl, ap, append_assoc}
use Rattle.std.proofs.lemmas.List.{append-nil}
use Rattle.ixdtf_grammar.specs.{declared.error.ParseError.ParseError, Views.UnreadUnder, Promises.ReadsText}
use Rattle.ixdtf.specs.{table.{ErrorTexts.message_of, Faults.{Fault, fault_of}}, language.{Languages.{Parsed, Found, Found.parsed}, Letters.byte_letter}}
use Rattle.ixdtf.specs.language.{Brackets.ZoneNote, Readers.{CoreKind, Reader.bracketed}, ZoneNames.{Zone, Zone.{Name, Offset}}}
use Rattle.ixdtf_buffers.specs.declared.{error.RunError.RunError, output.Output.Output}
use Rattle.ixdtf_buffers.specs.{Adding.Adds, Lines.newline, Output.Puts}
use Rattle.ixdtf_print.proofs.theorems.ShortErrors.{message_short}
use Rattle.ixdtf_answers.specs.{Answer.{Gives, Refuses, letters, read_answer_of, error_answer_of}}
use Rattle.ixdtf_answers.specs.{Word.{reader_of}, declared.word.Word.Word, Parts.{PutsOutcome, HasPrinted, IsReturned, zone_front_of, zone_name_of, zone_field_front_of, zone_field_name_of}}
use Rattle.ixdtf_answers.specs.Fields.{zone_text_of, zone_field_of, date_field_of, time_field_of, offset_field_of, calendar_field_of, record_fields_of}

module _ {K : Type 0} {contents : K → Option (List ℕ)} {failed : K → Type 0} {x y : Output K} {r : Result (Unit {0}) RunError} where
  -- The answer to an accepted text was written.
  pub puts_found : (word : Word) (text : List ℕ) (found : Found) → Gives (reader_of word) (letters text) found
      → Puts contents failed x y r (read_answer_of word found ++ newline ∷ []) → PutsOutcome contents failed x y r word text
  puts_found word text found given puts = record { answer = read_answer_of word found; is = inl (found, given, refl); puts = puts }

  -- The answer to a refused text was written.
  pub puts_refused : (word : Word) (text : List ℕ) (fault : Fault) → Refuses (reader_of word) (letters text) fault
      → Puts contents failed x y r (error_answer_of fault ++ newline ∷ []) → PutsOutcome contents failed x y r word text
  puts_refused word text fault refused puts = record { answer = error_answer_of fault; is = inr (fault, refused, refl); puts = puts }

-- This is the result that a reader of records returned.
pub record_returned : {X : Type 0} {view : X → Parsed} {old new : UnreadUnder} (word : Word) (kind : CoreKind) (text : List ℕ) (result : Result X ParseError)
    → reader_of word ≡ bracketed kind → old.rest ≡ text → ReadsText byte_letter fault_of view (bracketed kind) old result new
    → IsReturned (λ x. parsed (view x)) word text result
record_returned {view = view} word kind text (Ok x) reader rest reads = record { ok = rw (reader, ← rest) ((reads.ok (view x)).0 refl); err = tt }
record_returned word kind text (Err e) reader rest reads = record { ok = tt; err = rw (reader, ← rest) reads.err }

-- The message of an error that the reader of the word returns is short.
pub refused_short : (word : Word) (text : List ℕ) (fault : Fault) → Refuses (reader_of word) (letters text) fault → length (message_of fault) ≤ 69
refused_short word text fault refused = message_short (reader_of word) (letters text) fault refused

module _ {K : Type 0} {contents : K → Option (List ℕ)} {failed : K → Type 0} {x y : Output K} {r : Result (Unit {0}) RunError} where
  -- If the bytes are equal, the same bytes were written.
  pub puts_same : {xs ys : List ℕ} → xs ≡ ys → Puts contents failed x y r xs → Puts contents failed x y r ys
  puts_same e puts = rw (← e) puts

-- The answer has the canonical text that was printed to the beginning of the array, and a newline after it.
pub printed_line : {word : Word} {text old new : List ℕ} {count end : ℕ} (has : HasPrinted word text old count) → Adds old new count end (newline ∷ [])
    → codes "ok " ++ take end new ≡ read_answer_of word has.found ++ newline ∷ []
printed_line has adds = rw (adds.is, ← has.answer) refl

-- The field of a zone is the part up to its name, and the name.
pub zone_whole : (critical : Bool) (zone : Zone) → zone_front_of critical zone ++ zone_name_of zone ≡ zone_text_of critical zone
zone_whole critical (Name name) = refl
zone_whole critical (Offset offset) = append-nil _

pub zone_field_whole : (note : Option ZoneNote) → zone_field_front_of note ++ zone_field_name_of note ≡ zone_field_of note
zone_field_whole None = refl
zone_field_whole (Some note) = zone_whole note.critical note.zone

regroup : (a b c d e z f t : List ℕ) → d ++ e ≡ z → (a ++ (b ++ (c ++ d))) ++ (e ++ (f ++ t)) ≡ (a ++ (b ++ (c ++ (z ++ f)))) ++ t
regroup a b c d e z f t is = rw (← is) (simp append_assoc)

-- The fields of a record are the fields up to the name of its zone, this name, and the rest.
pub record_whole : (p : Parsed) (calendar : Option (List ℕ)) (front name tail : List ℕ) → p.calendar ≡ calendar
    → front ≡ codes "ok" ++ (date_field_of p.date ++ (time_field_of p.time ++ (offset_field_of p.offset ++ zone_field_front_of p.zone)))
    → name ≡ zone_field_name_of p.zone
    → front ++ (name ++ (calendar_field_of calendar ++ tail)) ≡ codes "ok" ++ (record_fields_of p ++ tail)
record_whole p calendar front name tail is_calendar is_front is_name =
    rw (is_front, is_name, ← is_calendar) (ap (λ (t : List ℕ). codes "ok" ++ t)
    (regroup (date_field_of p.date) (time_field_of p.time) (offset_field_of p.offset) (zone_field_front_of p.zone) (zone_field_name_of p.zone) (zone_field_of p.zone)
    (calendar_field_of p.calendar) tail (zone_field_whole p.zone)))
