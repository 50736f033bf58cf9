-- What functions compute from the fields of a record.
use Rattle.std.specs.Prelude.{◌≡◌, ℕ, ◌+◌, ◌*◌, ◌<◌, ◌≤◌, ◌^◌, ℤ, pos, neg_ℤ, nat_eq, if◌then◌else◌, Option, Some, None}
use Rattle.ixdtf.specs.language.Fractions.{FractionParts}
use Rattle.ixdtf_c.specs.{declared.part_structs.{Offset.Offset}, Crossing.DurationContents, Standing.fraction_by}

-- The seconds in the hours and the minutes of an offset.
abbrev pub clock_seconds : Offset → ℕ
clock_seconds o = 3600 * o.hour + 60 * o.minute

-- The whole seconds of an offset, without its sign. Form 2 has hours and minutes, and form 3 has hours, minutes and seconds. Every
-- other form counts as 0.
abbrev pub offset_seconds : Offset → ℕ
offset_seconds o =
    if nat_eq o.form 2 then clock_seconds o
    else (if nat_eq o.form 3 then clock_seconds o + o.second
    else 0)

-- How many seconds local time is ahead of UTC. A fraction of a second is dropped.
abbrev pub seconds_ahead : Offset → ℤ
seconds_ahead o = if o.is_negative then neg_ℤ (pos (offset_seconds o)) else pos (offset_seconds o)

-- The number of seconds in the last duration unit of a time. The forms 1, 2 and 3 are hours, minutes and seconds. Every other
-- form has no duration unit, and gives 0.
abbrev pub unit_seconds : ℕ → ℕ
unit_seconds form =
    if nat_eq form 1 then 3600
    else (if nat_eq form 2 then 60
    else (if nat_eq form 3 then 1
    else 0))

-- The fraction of the last duration unit. It is `None` if there is no such unit, or no fraction.
abbrev pub last_fraction : DurationContents → Option FractionParts
last_fraction d = if nat_eq (unit_seconds d.time_form) 0 then None else fraction_by d.fraction_digits d.fraction

-- The nanoseconds are exactly this fraction of a duration unit of `seconds` seconds. This is never true of a fraction with more than
-- 18 digits, because only the first 18 are known.
abbrev pub AreExactly : ℕ → Option FractionParts → ℕ → Type 0
AreExactly seconds None nanoseconds = nanoseconds ≡ 0
AreExactly seconds (Some fraction) nanoseconds =
    (fraction.count ≤ 18) × (fraction.value < 10 ^ fraction.count)
    × (nanoseconds * 10 ^ fraction.count ≡ fraction.value * (seconds * 10 ^ 9))

-- The nanoseconds are exactly the fraction of the last duration unit of the duration.
abbrev pub AreLastFraction : DurationContents → ℕ → Type 0
AreLastFraction d nanoseconds = AreExactly (unit_seconds d.time_form) (last_fraction d) nanoseconds
