-- The struct of durations.
use Rattle.std.specs.Prelude.{◌≡◌}
use Rattle.ixdtf_c.specs.{declared.duration_struct.Duration.Duration, Crossing.DurationContents}

abbrev pub contents : Duration → DurationContents
contents d = record {
  days = d.days;
  hours = d.hours;
  minutes = d.minutes;
  seconds = d.seconds;
  fraction = d.fraction;
  years = d.years;
  months = d.months;
  weeks = d.weeks;
  fraction_digits = d.fraction_digits;
  time_form = d.time_form;
  has_date = d.has_date;
  is_negative = d.is_negative;
  location = d.location.now;
  place = d.place;
}

-- The duration is unchanged, except for the location and the position of an error.
abbrev pub SameButError : Duration → Duration → Type 0
SameButError old new = new ≡ record old { location = new.location; place = new.place }
