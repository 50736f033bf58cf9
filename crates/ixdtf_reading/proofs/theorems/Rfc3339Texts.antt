-- The texts of `parse_rfc3339` are those of the productions of RFC 3339 section 5.6. `parse` reads them with the same result.
use Rattle.std.proofs.Common.{◌≡◌, ℕ, IsTrue, [], ◌∷◌, ◌++◌, Option, Some, None, pos, refl, sym, ◌∙◌, inl, inr, arith, append_assoc, append-nil}
use Rattle.std.proofs.lemmas.Bool.{eqb-true, Decides.nat_tests}
use Rattle.ixdtf_grammar.specs.declared.records.{DateRecord.DateRecord, TimeRecord.TimeRecord, MinutePrecisionOffset.MinutePrecisionOffset}
use Rattle.ixdtf_grammar.specs.declared.records.UtcOffsetRecordOrZ.{UtcOffsetRecordOrZ, TheVariants.{Offset, Z}}
use Rattle.ixdtf_grammar.specs.declared.records.UtcOffsetRecord.TheVariants.{MinutePrecision}
use Rattle.ixdtf_grammar.specs.language.{Letters.{Text, time_letter, date_time_separator, Letter.Plain}, Shapes.{one, nothing, ◌either◌}, Digits.decimal}
use Rattle.ixdtf_grammar.specs.language.{Dates.IsDate, Times.{Clock as clocks, IsTime, TimeShape.{colon_minutes, seconds, fractions}}, Fractions.{FractionParts, fraction_of}}
use Rattle.ixdtf_grammar.specs.language.{Offsets.{minutes_of, IsOffsetOrZ}, Cores.{Core, core_of, IsDateTimeCore, IsDateTime}, Readers.{parse, Reader.parse_rfc3339}}
use Rattle.ixdtf_grammar.specs.language.Languages.{Parsed, parsed_with, Derives, Derives.{as_parsed, as_dated}, Found.{parsed, dated}}
use Rattle.ixdtf_grammar.specs.language.DateTimes.{IsFullDate, IsSecfrac, OptionalSecfrac, IsPartialTime, IsNumOffset, IsTimeOffset}
use Rattle.ixdtf_grammar.specs.language.Rfc3339.{FullDate, WholeTime, SecondFraction, TimeOffset, IsRfcDateTime}
use Rattle.ixdtf_grammar.specs.{Handlers.UnhandledRecord, Rfc3339Laws.{DerivesDateTimesAlone, ParseReadsTheSame}}
use Rattle.ixdtf_grammar.proofs.parts.Texts.{signed_text, colon_minutes_text, colon_seconds_text, date_and_time, bracketed_text}
use Rattle.ixdtf_reading.specs.reading.{Dates.date_of, Times.time_of, DateTimes.num_offset}
use Rattle.ixdtf_reading.proofs.theorems.Replies.{NoneRefused-nothing}

-- ---- from the productions of the section to the reader

full_date : (text : Text) (d : FullDate text) → IsFullDate text (date_of (pos (decimal d.years)) d.month d.day)
full_date text d = (
  record { years = d.years; months = d.months; days = d.days; is = d.is; year = (d.is_year, refl); month = d.is_month; day = d.is_day },
  (d.from_one, d.in_month),
)

partial_time : (whole part : Text) → WholeTime whole → (nothing either SecondFraction) part → (time : TimeRecord) × IsPartialTime (whole ++ part) time
partial_time whole part t (inl empty) = (
  time_of t.3.0 t.4.4.3.0 t.4.4.4.4.0 None,
  record {
    hs = t.0;
    ms = t.4.4.0;
    ss = t.4.4.4.1;
    part = part;
    is = rw (t.2, t.4.2, t.4.3, t.4.4.2, t.4.4.4.2, t.4.4.4.3) (simp append_assoc);
    hour = t.3.1;
    minute = t.4.4.3.1;
    second = t.4.4.4.4.1;
    fraction = empty;
  },
)
partial_time whole part t (inr f) = (
  time_of t.3.0 t.4.4.3.0 t.4.4.4.4.0 (Some (fraction_of f.0)),
  record {
    hs = t.0;
    ms = t.4.4.0;
    ss = t.4.4.4.1;
    part = part;
    is = rw (t.2, t.4.2, t.4.3, t.4.4.2, t.4.4.4.2, t.4.4.4.3) (simp append_assoc);
    hour = t.3.1;
    minute = t.4.4.3.1;
    second = t.4.4.4.4.1;
    fraction = record { ds = f.0; is = f.2; some = (f.1, f.3); value = refl };
  },
)

time_offset : (text : Text) → TimeOffset text → (offset : UtcOffsetRecordOrZ) × IsTimeOffset text offset
time_offset text (inl z) = (Z, inl (z, refl))
time_offset text (inr o) =
    let signs = o.3 in
    let body = o.4 in
    let offset : MinutePrecisionOffset = num_offset signs.0 body.3.0 body.4.4.0 in
    let is : IsNumOffset text offset = record {
      c = signs.0;
      hs = body.0;
      ms = body.4.1;
      is = o.2 ∙ rw (signs.1, body.2, body.4.2, body.4.3) refl;
      signed = signs.2;
      hour = body.3.1;
      minute = body.4.4.1;
      value = refl;
    } in
    (Offset (MinutePrecision offset), inr (offset, is, refl))

date_time : (text : Text) → IsRfcDateTime text → (core : Core) × IsDateTime text core
date_time text d =
    let after = d.4.4 in
    let time = partial_time after.0 after.4.0 after.3 after.4.3 in
    let offset = time_offset after.4.1 after.4.4 in (
      core_of (Some (date_of (pos (decimal d.3.years)) d.3.month d.3.day)) (Some time.0) (Some offset.0),
      record {
        dates = d.0;
        letters = d.4.0;
        times = after.0 ++ after.4.0;
        offsets = after.4.1;
        date = date_of (pos (decimal d.3.years)) d.3.month d.3.day;
        time = time.0;
        offset = offset.0;
        is = d.2 ∙ rw (d.4.2, after.2, after.4.2) (simp append_assoc);
        is_date = full_date d.0 d.3;
        separates = d.4.3;
        is_time = time.1;
        is_offset = offset.1;
        has = refl;
      },
    )

-- ---- from the reader to the productions of the section

full_date_back : (text : Text) (date : DateRecord) → IsFullDate text date → FullDate text
full_date_back text date (d, h) = record {
  years = d.years;
  months = d.months;
  days = d.days;
  month = date.month;
  day = date.day;
  is = d.is;
  is_year = d.year.0;
  is_month = d.month;
  is_day = d.day;
  from_one = h.0;
  in_month = rw d.year.1 at h.1;
}

secfrac_back : (part : Text) (fraction : Option FractionParts) → OptionalSecfrac part fraction → (nothing either SecondFraction) part
secfrac_back part None h = inl h
secfrac_back part (Some fraction) h = inr (h.ds, h.some.0, h.is, h.some.1)

time_offset_back : (text : Text) (offset : UtcOffsetRecordOrZ) → IsTimeOffset text offset → TimeOffset text
time_offset_back text offset (inl h) = inl h.0
time_offset_back text offset (inr (minutes, o, is)) = inr (
  Plain o.c ∷ [],
  o.hs ++ (Plain 58 ∷ o.ms),
  o.is,
  (o.c, refl, o.signed),
  (o.hs, Plain 58 ∷ o.ms, refl, (minutes.hour, o.hour), (Plain 58 ∷ [], o.ms, refl, refl, (minutes.minute, o.minute))),
)

date_time_back : (text : Text) (core : Core) → IsDateTime text core → IsRfcDateTime text
date_time_back text core d =
    let t = d.is_time in
    let whole : WholeTime (t.hs ++ (Plain 58 ∷ (t.ms ++ (Plain 58 ∷ t.ss)))) = (
      t.hs,
      Plain 58 ∷ (t.ms ++ (Plain 58 ∷ t.ss)),
      refl,
      (d.time.hour, t.hour),
      (
        Plain 58 ∷ [],
        t.ms ++ (Plain 58 ∷ t.ss),
        refl,
        refl,
        (t.ms, Plain 58 ∷ t.ss, refl, (d.time.minute, t.minute), (Plain 58 ∷ [], t.ss, refl, refl, (d.time.second, t.second))),
      ),
    ) in (
      d.dates,
      d.letters ++ (d.times ++ d.offsets),
      d.is,
      full_date_back d.dates d.date d.is_date,
      (
        d.letters,
        d.times ++ d.offsets,
        refl,
        d.separates,
        (
          t.hs ++ (Plain 58 ∷ (t.ms ++ (Plain 58 ∷ t.ss))),
          t.part ++ d.offsets,
          rw t.is (simp append_assoc),
          whole,
          (t.part, d.offsets, refl, secfrac_back t.part d.time.fraction t.fraction, time_offset_back d.offsets d.offset d.is_offset),
        ),
      ),
    )

pub derives_date_times_alone : DerivesDateTimesAlone
derives_date_times_alone text = (
  λ is. let core = date_time text is in (parsed_with core.0 None, as_dated (core.0, core.1, refl)),
  λ found. by_record found.0 found.1,
)
  where
    by_record : (found : Parsed) → Derives parse_rfc3339 text (dated found) [] → IsRfcDateTime text
    by_record found (as_dated h) = date_time_back text h.0 h.1

-- ---- in `parse`

is_time : (text : Text) (time : TimeRecord) → IsPartialTime text time → IsTime text time
is_time text time t = by_fraction time.fraction refl t.fraction
  where
    by_fraction : (fraction : Option FractionParts) → time.fraction ≡ fraction → OptionalSecfrac t.part fraction → IsTime text time
    by_fraction None none empty =
        (seconds, inr (colon_seconds_text t.hs t.ms t.ss (t.is ∙ rw (empty, append-nil) refl) refl t.hour t.minute t.second none))
    by_fraction (Some fraction) some part = (
      fractions,
      record {
        whole = t.hs ++ (Plain 58 ∷ (t.ms ++ (Plain 58 ∷ t.ss)));
        part = t.part;
        fraction = fraction;
        is = t.is ∙ simp append_assoc;
        second = inr (colon_seconds_text t.hs t.ms t.ss refl refl t.hour t.minute t.second refl);
        is_fraction = record { mark = 46; ds = part.ds; is = part.is; marks = refl; some = part.some; value = part.value };
        value = some;
      },
    )

is_offset : (text : Text) (offset : UtcOffsetRecordOrZ) → IsTimeOffset text offset → IsOffsetOrZ text offset
is_offset text offset (inl h) = inr h
is_offset text offset (inr (minutes, o, is)) =
    let same : minutes_of o.c (time_of minutes.hour minutes.minute 0 None) ≡ minutes =
    λ i. record { sign = sym o.value i; hour = minutes.hour; minute = minutes.minute } in
    inl (
      MinutePrecision minutes,
      rw (← same) (signed_text o.c (o.hs ++ (Plain 58 ∷ o.ms)) colon_minutes (time_of minutes.hour minutes.minute 0 None) o.is o.signed
          (colon_minutes_text o.hs o.ms refl o.hour o.minute refl refl)),
      is,
    )

separates : (c : ℕ) → IsTrue (time_letter c) → IsTrue (date_time_separator c)
separates c h = grind (arith, nat_tests, h)

pub date_time_core : (text : Text) (core : Core) → IsDateTime text core → IsDateTimeCore text core
date_time_core text core d =
    let (full, in_month) = d.is_date in
    let is_date : IsDate d.dates d.date =
    (inr (record { years = full.years; months = full.months; days = full.days; is = full.is; year = inl full.year; month = full.month; day = full.day }), in_month) in
    let separator = d.separates in
    rw d.has (inr (date_and_time d.dates d.letters d.times d.offsets d.date d.time (Some d.offset) d.is is_date
    (separator.0, separator.1, separates separator.0 separator.2) (is_time d.times d.time d.is_time) (is_offset d.offsets d.offset d.is_offset)))

pub parse_reads_the_same : ParseReadsTheSame
parse_reads_the_same text found (as_dated (core, d, is)) =
    let derived : Derives parse text (parsed (parsed_with core None)) [] =
    as_parsed (bracketed_text text [] core None [] (sym (append-nil text)) (date_time_core text core d) ([], [], refl, refl, refl)) in
    ([], record { read = parsed_with core None; whole = derived; accepted = NoneRefused-nothing; has = rw is refl })
