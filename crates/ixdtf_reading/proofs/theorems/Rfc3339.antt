-- The grammar of `parse` derives a record from every date-time of RFC 3339 section 5.6.
use Rattle.ixdtf_grammar.specs.language.{Readers.parse, Times.{Clock as clocks, IsTime, SecondText, ColonMinuteText}}
use Rattle.ixdtf_grammar.specs.language.{Times.TimeShape.{colon_minutes, seconds, fractions}, Letters.{Text, time_letter, date_time_separator}}
use Rattle.ixdtf_grammar.specs.language.{Shapes.{nothing, ◌either◌}, Digits.decimal, Fractions.{FractionParts, fraction_of}, Dates.IsDate}
use Rattle.ixdtf_grammar.specs.language.{Offsets.{offset_of, IsOffsetOrZ}, Cores.{core_of, IsDateTimeCore}, Languages.{Parsed, parsed_with, Derives}}
use Rattle.ixdtf_grammar.specs.language.Languages.{Derives.as_parsed, Found.parsed}
use Rattle.ixdtf_grammar.specs.{language.Rfc3339.{FullDate, WholeTime, SecondFraction, TimeOffset, IsRfcDateTime}, declared.records.DateRecord.DateRecord}
use Rattle.ixdtf_grammar.specs.declared.records.{TimeRecord.TimeRecord, UtcOffsetRecordOrZ.{UtcOffsetRecordOrZ, TheVariants.{Offset, Z}}}
use Rattle.ixdtf_grammar.specs.{Handlers.UnhandledRecord, Laws.EveryDateTimeIsRead}
use Rattle.ixdtf_grammar.proofs.parts.Texts.{signed_text, colon_minutes_text, colon_seconds_text, date_and_time, bracketed_text}
use Rattle.std.proofs.Common.{ℕ, IsTrue, [], ◌++◌, Some, None, pos, refl, sym, ◌∙◌, false, inl, inr, arith, append_assoc, append-nil}
use Rattle.std.proofs.lemmas.Bool.Decides.{nat_tests}
use Rattle.ixdtf_reading.specs.reading.{Dates.date_of, Times.time_of}
use Rattle.ixdtf_reading.proofs.theorems.Replies.{NoneRefused-nothing}

full_date : (text : Text) → FullDate text → (date : DateRecord) × IsDate text date
full_date text d = (
  date_of (pos (decimal d.years)) d.month d.day,
  (
    inr (record { years = d.years; months = d.months; days = d.days; is = d.is; year = inl (d.is_year, refl); month = d.is_month; day = d.is_day }),
    (d.from_one, d.in_month),
  ),
)

separates : (c : ℕ) → IsTrue (time_letter c) → IsTrue (date_time_separator c)
separates c h = grind (arith, nat_tests, h)

-- The text of an hour, a minute and a second is that of a time.
whole_time : (text : Text) (t : WholeTime text) → SecondText clocks.Time text (time_of t.3.0 t.4.4.3.0 t.4.4.4.4.0 None)
whole_time text t =
    inr (colon_seconds_text t.0 t.4.4.0 t.4.4.4.1 (t.2 ∙ rw (t.4.2, t.4.3, t.4.4.2, t.4.4.4.2, t.4.4.4.3) refl) refl t.3.1 t.4.4.3.1 t.4.4.4.4.1 refl)

is_time : (whole part : Text) → WholeTime whole → (nothing either SecondFraction) part → (time : TimeRecord) × IsTime (whole ++ part) time
is_time whole part t (inl none) = (time_of t.3.0 t.4.4.3.0 t.4.4.4.4.0 None, (seconds, rw (none, append-nil whole) (whole_time whole t)))
is_time whole part t (inr f) =
    let fraction : FractionParts = fraction_of f.0 in (
      time_of t.3.0 t.4.4.3.0 t.4.4.4.4.0 _,
      (
        fractions,
        record {
          whole = whole;
          part = part;
          fraction = fraction;
          is = refl;
          second = whole_time whole t;
          is_fraction = record { mark = 46; ds = f.0; is = f.2; marks = refl; some = (f.1, f.3); value = refl };
          value = refl;
        },
      ),
    )

is_offset : (text : Text) → TimeOffset text → (offset : UtcOffsetRecordOrZ) × IsOffsetOrZ text offset
is_offset text (inl z) = (Z, inr (z, refl))
is_offset text (inr o) =
    let sign = o.3 in
    let body = o.4 in
    let time : TimeRecord = time_of body.3.0 body.4.4.0 0 None in
    let minutes : ColonMinuteText o.1 time =
    colon_minutes_text body.0 body.4.1 (body.2 ∙ rw (body.4.2, body.4.3) refl) body.3.1 body.4.4.1 refl refl in (
      Offset (offset_of sign.0 false time),
      inl (offset_of sign.0 false time, signed_text sign.0 o.1 colon_minutes time (o.2 ∙ rw sign.1 refl) sign.2 minutes, refl),
    )

-- Every date-time is derived, without annotations.
pub rfc_3339_derives : (text : Text) → IsRfcDateTime text → (found : Parsed) × Derives parse text (parsed found) []
rfc_3339_derives text d =
    let date = full_date d.0 d.3 in
    let separator = d.4.3 in
    let after = d.4.4 in
    let time = is_time after.0 after.4.0 after.3 after.4.3 in
    let offset = is_offset after.4.1 after.4.4 in
    let core = core_of (Some date.0) (Some time.0) (Some offset.0) in
    let is_core : IsDateTimeCore text core = inr (date_and_time d.0 d.4.0 (after.0 ++ after.4.0) after.4.1 date.0 time.0 (Some offset.0)
    (d.2 ∙ rw (d.4.2, after.2, after.4.2) (simp append_assoc)) date.1 (separator.0, separator.1, separates separator.0 separator.2) time.1 offset.1) in
    (parsed_with core None, as_parsed (bracketed_text text [] core None [] (sym (append-nil text)) is_core ([], [], refl, refl, refl)))

-- Without annotations, no reply is refused, and there is no calendar.
unhandled : (text : Text) (found : Parsed) → Derives parse text (parsed found) [] → UnhandledRecord parse text found
unhandled text found (as_parsed d) = ([], record { read = found; whole = as_parsed d; accepted = NoneRefused-nothing; has = rw d.has refl })

pub every_date_time_is_read : EveryDateTimeIsRead
every_date_time_is_read text is = let (found, d) = rfc_3339_derives text is in (found, d, unhandled text found d)
