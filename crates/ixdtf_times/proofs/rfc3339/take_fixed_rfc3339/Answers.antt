use Rattle.ixdtf_times.proofs.rfc3339.take_fixed_rfc3339.Goals as goal
use Rattle.ixdtf_times.proofs.rfc3339.take_fixed_rfc3339.Goals.{then-remaining-lt19-via-then-remaining-lt19}
use Rattle.ixdtf_times.proofs.rfc3339.take_fixed_rfc3339.Goals.{then-remaining-lt19-via-else-remaining-lt19+then-byte_at-eq32}
use Rattle.std.proofs.{Common.{◌≡◌, ℕ, Bool, false, true, IsTrue, IfSome, Option, Some, None, map, nat_eq, ◌||◌, sym, ap, ◌∙◌, refl, arith}, lemmas.List.length-map}
use Rattle.ixdtf_grammar.specs.{declared.records.DateRecord.DateRecord, language.{Letters.{Text, time_letter, date_time_separator}, FixedPlaces.FixedDateTime}}
use Rattle.ixdtf_reading.specs.reading.{Looks.error_of, FixedPlaces.byte_place, DateTimes.{after_whole_second_at, open_end, date_time_by}}
use Rattle.ixdtf_reading.proofs.code.FixedDateTimes.{fixed_date_time, separator_is}
use Rattle.ixdtf_times.specs.{declared.time.WholeTime.WholeTime, TimeTypes.time_to_second}
use Rattle.ixdtf_times.proofs.code.ThroughSecond.{none_if_short, none_without_letter, none_if_unfixed}

-- A separator that is no space is `T` or `t`.
letter_unless_space : (c : ℕ) → IsTrue (date_time_separator c) → nat_eq c 32 ≡ false → IsTrue (time_letter c)
letter_unless_space c separates other = one_of (nat_eq c 84) (nat_eq c 116) (nat_eq c 32) separates other
  where
    one_of : (capital small space : Bool) → IsTrue (capital || small || space) → space ≡ false → IsTrue (capital || small)
    one_of true small space is none = refl
    one_of false true space is none = refl
    one_of false false true is none = absurd cc
    one_of false false false is none = is

-- If the separator is no space, what was found in the fixed columns is what the reading function reads.
found_read : (text rest : Text) (found : Option (DateRecord × WholeTime)) → nat_eq (byte_place 10 text) 32 ≡ false
    → IfSome found (λ x. FixedDateTime text x.0 (time_to_second x.1) rest)
    → IfSome found (λ x. date_time_by error_of open_end text ≡ after_whole_second_at error_of open_end x.0 x.1.hour x.1.minute x.1.second rest)
found_read text rest None other there = tt
found_read text rest (Some x) other there =
    let place = separator_is text x.0 (time_to_second x.1) rest there in
    let separates : IsTrue (date_time_separator (byte_place 10 text)) = ap date_time_separator place ∙ there.separates in
    fixed_date_time open_end text x.0 (time_to_second x.1) rest (letter_unless_space _ separates other) there

pub returns-clause-read : goal.returns-clause-read
returns-clause-read g c =
    let text = map g.T.EncodingType.letter c.args.cursor.now.rest in
    let other : nat_eq (byte_place 10 text) 32 ≡ false = ap (λ byte. nat_eq byte 32) (sym c.byte_at.ensures.there) ∙ c.if-byte_at-eq32.false-raw in
    found_read text _ c.take_fixed_date_time.result other (rw c.byte_at.ensures.rest at c.take_fixed_date_time.ensures.at_place)

-- The text is too short, or has a space after the date.
pub returns-then-remaining-lt19-clause-none : goal.returns-then-remaining-lt19-clause-none
returns-then-remaining-lt19-clause-none g c none =
    let letter = g.T.EncodingType.letter in
    let units = c.args.cursor.now.rest in
    let text = map letter units in
    elim c.then-remaining-lt19.branch [
      | then-remaining-lt19-via-then-remaining-lt19 w ↦ none_if_short text (omega (arith, length-map units letter))
      | then-remaining-lt19-via-else-remaining-lt19+then-byte_at-eq32 w ↦ none_without_letter text (ap time_letter (sym w.byte_at.ensures.there ∙ w.if-byte_at-eq32.true))
    ]

pub returns-clause-none : goal.returns-clause-none
returns-clause-none g c none = none_if_unfixed (map g.T.EncodingType.letter c.args.cursor.now.rest)
    (rw c.byte_at.ensures.rest at c.take_fixed_date_time.ensures.none none)
