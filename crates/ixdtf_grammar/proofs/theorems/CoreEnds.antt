-- The end of a core: a core has only code units of `core_unit`, and after it the text ends or a `[` follows.
use Rattle.std.proofs.Common.{◌≡◌, ℕ, suc, Bool, true, false, IsTrue, List, [], ◌∷◌, ◌++◌, Option, Some, None, refl, ◌∙◌, inl, inr, arith}
use Rattle.std.proofs.{Common.append_assoc, lemmas.Bool.Decides.nat_tests}
use Rattle.ixdtf_grammar.specs.declared.records.{DateRecord.DateRecord, TimeRecord.TimeRecord, UtcOffsetRecordOrZ.UtcOffsetRecordOrZ}
use Rattle.ixdtf_grammar.specs.language.{Letters.{Text, opening}, Fractions.{FractionParts, IsFraction}, Offsets.IsSigned}
use Rattle.ixdtf_grammar.specs.language.DateTimes.{FullDateText, OptionalSecfrac, IsPartialTime, IsTimeOffset}
use Rattle.ixdtf_grammar.specs.language.{Dates.DateText, Times.{Clock, Clock as clocks, TimeShape, SecondText, ClockOf}}
use Rattle.ixdtf_grammar.specs.language.{Times.TimeShape.{hours, basic_minutes, colon_minutes, seconds, fractions}, Brackets.{ZoneNote, Opens, Pair, IsTail}}
use Rattle.ixdtf_grammar.specs.language.{Cores.{Core, OptionalOffset, IsDateTimeCore, IsDateTime, TimeMark, MarkedTime, IsCore}, Readers.CoreKind}
use Rattle.ixdtf_grammar.specs.language.Readers.CoreKind.{date_time, internet_date_time, year_month, month_day, time_of_day}
use Rattle.ixdtf_grammar.proofs.parts.Classes.{all_append, PlainOf, plain_nothing, one_of, ◌or_else◌}
use Rattle.ixdtf_grammar.proofs.parts.CoreLetters.{core_unit, AllInside, CoreEnds, of_sign, in_digits, in_year, in_year_month, in_month_day}

-- ---- the text after a core

opening_is : (c : ℕ) → IsTrue (opening c) → c ≡ 91
opening_is c h = grind (arith, nat_tests, h)

opens_end : (start more : Text) (critical : Bool) → Opens start critical → CoreEnds (start ++ more)
opens_end start more true h = let same : h.3.0 ≡ 91 = opening_is h.3.0 h.3.2 in inr (h.1 ++ more, rw (h.2, h.3.1, same) refl)
opens_end start more false h = let same : h.0 ≡ 91 = opening_is h.0 h.2 in inr (more, rw (h.1, same) refl)

pub tail_ends : (exact : Bool) (text : Text) (zone : Option ZoneNote) (pairs : List Pair) → IsTail exact text zone pairs → CoreEnds text
tail_ends exact text None [] h = inl (h.2 ∙ rw (h.3, h.4) refl)
tail_ends exact text None (pair ∷ pairs) h = let p = h.4.3 in rw (h.2, h.3, h.4.2, p.is, append_assoc) (opens_end p.start _ pair.critical p.opens)
tail_ends exact text (Some note) pairs h = let z = h.3.0 in rw (h.2, z.is, append_assoc) (opens_end z.start _ note.critical z.opens)

-- ---- the parts of cores

pub in_date : (text : Text) (date : DateRecord) → DateText text date → AllInside text
in_date text date (inl h) =
    rw h.is (all_append _ h.years _ (in_year h.years date.year h.year)
    (all_append _ h.months _ (in_digits 2 h.months h.month.0.0) (in_digits 2 h.days h.day.0)))
in_date text date (inr h) =
    rw h.is (all_append _ h.years _ (in_year h.years date.year h.year)
    (refl, all_append _ h.months _ (in_digits 2 h.months h.month.0.0) (refl, in_digits 2 h.days h.day.0)))

in_seconds : (clock : Clock) (text : Text) (time : TimeRecord) → SecondText clock text time → AllInside text
in_seconds clock text time (inl h) =
    rw h.is (all_append _ h.hs _ (in_digits 2 h.hs h.hour.0) (all_append _ h.ms _ (in_digits 2 h.ms h.minute.0) (in_digits 2 h.ss h.second.0)))
in_seconds clock text time (inr h) =
    rw h.is (all_append _ h.hs _ (in_digits 2 h.hs h.hour.0) (refl, all_append _ h.ms _ (in_digits 2 h.ms h.minute.0) (refl, in_digits 2 h.ss h.second.0)))

pub in_fraction : (text : Text) (fraction : FractionParts) → IsFraction text fraction → AllInside text
in_fraction text fraction h = let mark : IsTrue (core_unit h.mark) = grind (arith, nat_tests, h.marks) in rw h.is (mark, in_digits (suc h.some.0) h.ds h.some.1)

pub in_clock : (clock : Clock) (shape : TimeShape) (text : Text) (time : TimeRecord) → ClockOf clock shape text time → AllInside text
in_clock clock hours text time h = in_digits 2 text h.hour.0
in_clock clock basic_minutes text time h = rw h.is (all_append _ h.hs _ (in_digits 2 h.hs h.hour.0) (in_digits 2 h.ms h.minute.0))
in_clock clock colon_minutes text time h = rw h.is (all_append _ h.hs _ (in_digits 2 h.hs h.hour.0) (refl, in_digits 2 h.ms h.minute.0))
in_clock clock seconds text time h = in_seconds clock text time h
in_clock clock fractions text time h = rw h.is (all_append _ h.whole _ (in_seconds clock h.whole _ h.second) (in_fraction h.part h.fraction h.is_fraction))

pub in_signed : {O : Type 0} (clock : Clock) (record_of : ℕ → TimeShape → TimeRecord → O) (text : Text) (offset : O) → IsSigned clock record_of text offset
    → AllInside text
in_signed clock record_of text offset h = rw h.is (of_sign h.c h.sign, in_clock clock h.shape h.body h.time h.clock)

in_offset : (text : Text) (offset : Option UtcOffsetRecordOrZ) → OptionalOffset text offset → AllInside text
in_offset text None h = rw h tt
in_offset text (Some offset) (inl h) = in_signed _ _ text h.0 h.1
in_offset text (Some offset) (inr h) = (one_of (λ c z. grind (arith, nat_tests, z))).plain text h.0

in_time_mark : PlainOf core_unit TimeMark
in_time_mark = plain_nothing or_else one_of (λ c h. grind (arith, nat_tests, h))

-- ---- date-times of RFC 3339

pub in_full_date : (text : Text) (date : DateRecord) → FullDateText text date → AllInside text
in_full_date text date h =
    rw h.is (all_append _ h.years _ (in_digits 4 h.years h.year.0)
    (refl, all_append _ h.months _ (in_digits 2 h.months h.month.0.0) (refl, in_digits 2 h.days h.day.0)))

in_secfrac : (text : Text) (fraction : Option FractionParts) → OptionalSecfrac text fraction → AllInside text
in_secfrac text None h = rw h tt
in_secfrac text (Some fraction) h = rw h.is (refl, in_digits (suc h.some.0) h.ds h.some.1)

in_partial_time : (text : Text) (time : TimeRecord) → IsPartialTime text time → AllInside text
in_partial_time text time h =
    rw h.is (all_append _ h.hs _ (in_digits 2 h.hs h.hour.0) (
      refl,
      all_append _ h.ms _ (in_digits 2 h.ms h.minute.0)
          (refl, all_append _ h.ss _ (in_digits 2 h.ss h.second.0) (in_secfrac h.part time.fraction h.fraction)),
    ))

in_time_offset : (text : Text) (offset : UtcOffsetRecordOrZ) → IsTimeOffset text offset → AllInside text
in_time_offset text offset (inl h) = let zulu = h.0 in rw zulu.1 (grind (arith, nat_tests, zulu.2), tt)
in_time_offset text offset (inr (minutes, h, is)) =
    rw h.is (of_sign h.c h.signed, all_append _ h.hs _ (in_digits 2 h.hs h.hour.0) (refl, in_digits 2 h.ms h.minute.0))

pub in_internet_date_time : (text : Text) (core : Core) → IsDateTime text core → AllInside text
in_internet_date_time text core h =
    let letter = h.separates in
    rw h.is (all_append _ h.dates _ (in_full_date h.dates h.date h.is_date.0)
    (all_append _ h.letters _ (rw letter.1 (grind (arith, nat_tests, letter.2), tt))
    (all_append _ h.times _ (in_partial_time h.times h.time h.is_time) (in_time_offset h.offsets h.offset h.is_offset))))

-- ---- cores

in_date_time : (text : Text) (core : Core) → IsDateTimeCore text core → AllInside text
in_date_time text core (inl h) = in_date text h.0 h.1.0
in_date_time text core (inr h) =
    rw h.is (all_append _ h.dates _ (in_date h.dates h.date h.is_date.0)
    (all_append _ h.separator _ ((one_of (λ c t. grind (arith, nat_tests, t))).plain _ h.separates)
    (all_append _ h.times _ (in_clock clocks.Time h.is_time.0 h.times h.time h.is_time.1) (in_offset h.offsets h.offset h.is_offset))))

pub in_marked_time : (text : Text) (core : Core) → MarkedTime text core → AllInside text
in_marked_time text core h =
    rw h.is (all_append _ h.marks _ (in_time_mark.plain _ h.mark)
    (all_append _ h.times _ (in_clock clocks.Time h.is_time.0 h.times h.time h.is_time.1) (in_offset h.offsets h.offset h.is_offset)))

-- A core has only code units of `core_unit`.
pub core_inside : (kind : CoreKind) (text : Text) (core : Core) → IsCore kind text core → AllInside text
core_inside date_time text core h = in_date_time text core h
core_inside internet_date_time text core h = in_internet_date_time text core h
core_inside year_month text core h = in_year_month text h.0 h.1
core_inside (month_day profile) text core h = in_month_day text h.0 h.1.0
core_inside (time_of_day profile) text core h = in_marked_time text core h.0
