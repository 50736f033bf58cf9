-- The structs for 16-bit text.
use Rattle.std.specs.Prelude.{◌≡◌, ℕ, map, Option}
use Rattle.ixdtf_grammar.specs.declared.records.Annotation.{Annotation as Read}
use Rattle.ixdtf.specs.{language.Brackets.Pair, Handlers.calendar_key}
use Rattle.ixdtf_c.specs.{declared.wide.{Zone.Zone, Record.Record, Annotation.Annotation, Calendar.Calendar}, Crossing.{Contents, ZoneContents}}
use Rattle.ixdtf_c.specs.Standing.{where_there}

abbrev pub zone_contents : Zone → ZoneContents
zone_contents z = record {
  name = map (λ unit. unit) z.name.now;
  form = z.form;
  is_critical = z.is_critical;
  is_negative = z.is_negative;
  hour = z.hour;
  minute = z.minute;
}

abbrev pub contents : Record → Contents
contents r = record {
  date = r.date;
  time = r.time;
  offset = r.offset;
  zone = zone_contents r.zone;
  calendar = map (λ unit. unit) r.calendar.now;
  has_calendar = r.has_calendar;
  location = r.location.now;
  place = r.place;
}

-- The record is unchanged, also its slices, except for the location and the position of an error.
abbrev pub SameButError : Record → Record → Type 0
SameButError old new = new ≡ record old { location = new.location; place = new.place }

abbrev pub annotation_by : Annotation → Pair
annotation_by a = record { critical = a.is_critical; key = map (λ unit. unit) a.key.now; value = map (λ unit. unit) a.value.now }

-- The struct that is written for an annotation of the library.
abbrev pub annotation_for : {T : Type 0} → Read T ℕ → Annotation
annotation_for a = record { key = a.key; value = a.value; is_critical = a.critical }

-- The calendar that was kept, as an annotation with the key `u-ca`. It is `None` if none was kept.
abbrev pub calendar_by : Calendar → Option Pair
calendar_by c = where_there c.is_there (record { critical = c.is_critical; key = calendar_key; value = map (λ unit. unit) c.value.now })
