-- The times that have a text are those whose fields have texts, and the canonical text is one of these texts.
use Rattle.std.proofs.Common.{◌+◌, ◌≤◌, ◌≡◌, ◌↔◌, Bool, IsTrue, [], ◌++◌, length, Option, Some, None, refl, inl, arith}
use Rattle.std.proofs.lemmas.List.{length-append}
use Rattle.ixdtf_grammar.specs.declared.profile.Profile.{Profile, TheVariants.Crate}
use Rattle.ixdtf_grammar.specs.declared.records.{DateRecord.DateRecord, TimeRecord.TimeRecord, UtcOffsetRecordOrZ.UtcOffsetRecordOrZ}
use Rattle.ixdtf.specs.language.{Letters.{Letter, Text, colon}, Cores.{Core, core_of, IsTimeCore}, Languages.Parsed, Readers.CoreKind.time_of_day}
use Rattle.ixdtf_reading.specs.reading.FixedPlaces.{byte_place}
use Rattle.ixdtf_reading.proofs.parts.Fronts.{no_front_at_colon}
use Rattle.ixdtf_print.specs.{Canonical.{two_digits, seconds_text, clock_text, offset_text, brackets_text}, Printing.{HasText, TestsText}, SpelledCores.{HasLoneTime, IsSpelledAs}}
use Rattle.ixdtf_print.specs.Times.{unmarked_time_text, time_core_text, lone_time_text, IsTimeText, IsPrintableTime, IsTimeReadBack, TimeFits, TimeIsReadBack}
use Rattle.ixdtf_print.proofs.{parts.DerivedTimes.of_time, theorems.ReadBack.{is_time, timed}, theorems.PrintableRecords.with_time}
use Rattle.ixdtf_print.proofs.theorems.BracketedRecords.{Written, tests, printable, read_back, fits}

abbrev text_of : Core → Text
text_of core = unmarked_time_text core.time ++ offset_text core.offset

-- The third code unit is a colon, so the text does not begin as a month-day or a year-month.
has_colon : (time : TimeRecord) (more : Text) → IsTrue (colon (byte_place 2 (unmarked_time_text (Some time) ++ more)))
unfolding clock_text seconds_text two_digits
has_colon time more = refl

pub is_core : (profile : Profile) (date : Option DateRecord) (time : Option TimeRecord) (offset : Option UtcOffsetRecordOrZ) → HasLoneTime date time offset
    → IsTimeCore profile (unmarked_time_text time ++ offset_text offset) (core_of date time offset)
is_core profile None None offset h = absurd h
is_core profile None (Some time) offset h = (
  record {
    marks = [];
    times = unmarked_time_text (Some time);
    offsets = offset_text offset;
    time = time;
    offset = offset;
    is = refl;
    mark = inl refl;
    is_time = is_time time (timed time offset h).0;
    is_offset = (timed time offset h).1;
    has = refl;
  },
  no_front_at_colon profile _ (has_colon time (offset_text offset)),
)
is_core profile (Some date) time offset h = absurd h

pub of_core : (profile : Profile) (text : Text) (core : Core) → IsTimeCore profile text core
    → HasLoneTime core.date core.time core.offset × (length (text_of core) ≤ length text + 9)
of_core profile text core (h, none) =
    let time = of_time h.times h.time h.is_time in
    let offset = with_time h.time h.offset h.offsets h.is_offset time.0 in
    rw (h.has, h.is) (
      offset.0,
      omega (arith, time.1, offset.1, length-append (unmarked_time_text (Some h.time)) (offset_text h.offset), length-append {A = Letter}),
    )

pub is_whole : (found : Parsed) → lone_time_text found ≡ text_of (core_of found.date found.time found.offset) ++ brackets_text found
unfolding lone_time_text time_core_text
is_whole found = refl

-- The cores of `parse_time`.
abbrev pub lone_time : Profile → Written
lone_time profile = record {
  kind = time_of_day profile;
  any_zone = refl;
  has_core = HasLoneTime;
  core_text = text_of;
  text_of = lone_time_text;
  more = 9;
  whole = is_whole;
  is_core = λ core h. is_core profile core.date core.time core.offset h;
  of_core = of_core profile;
}

pub time_is_read_back : TimeIsReadBack
time_is_read_back profile found h other =
    let spelled = (printable (lone_time profile) found).0 h in
    read_back (lone_time other) found ((printable (lone_time other) found).1 spelled)

-- A record that `parse_time` returns under some profile is printable.
pub time_printable : (profile : Profile) (found : Parsed) → HasText (IsTimeText profile) found → IsPrintableTime found
time_printable profile found h = (printable (lone_time Crate) found).1 ((printable (lone_time profile) found).0 h)

pub time_fits : TimeFits
time_fits profile = fits (lone_time profile)

-- A test of the fields tells which records are printable.
pub tests_time : {test : Bool} (found : Parsed) → IsTrue test ↔ IsSpelledAs HasLoneTime found
    → TestsText test (IsPrintableTime found) (IsTimeReadBack found) (lone_time_text found)
tests_time found = tests (lone_time Crate) found (time_is_read_back Crate found)
