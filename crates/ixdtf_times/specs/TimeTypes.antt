-- The meaning of the types of the code for times.
use Rattle.ixdtf_times.specs.declared.offsets.AfterCore.TheVariants as afters
use Rattle.ixdtf_times.specs.declared.time.Clock.TheVariants as code_clocks
use Rattle.ixdtf_times.specs.declared.time.TimeShape.TheVariants as code_shapes
use Rattle.ixdtf_times.specs.declared.time.ClockLine.TheVariants as code_lines
use Rattle.std.specs.Prelude.{Bool, true, false, None}
use Rattle.ixdtf_grammar.specs.{declared.records.TimeRecord.TimeRecord, language.Times.{Clock, TimeShape, Clock as clocks, TimeShape as shapes}}
use Rattle.ixdtf_times.specs.declared.{time.{Clock.{Clock as CodeClock}, ClockLine.{ClockLine as CodeClockLine}, TimeShape.{TimeShape as CodeTimeShape}, WholeTime.WholeTime}}
use Rattle.ixdtf_grammar.specs.table.LineNames.{ClockLine, ClockLine as lines}
use Rattle.ixdtf_times.specs.declared.offsets.AfterCore.{AfterCore}
use Rattle.ixdtf_reading.specs.reading.Times.{OpenTime, time_of}

abbrev pub clock_of : CodeClock → Clock
clock_of code_clocks.Time = clocks.Time
clock_of code_clocks.Offset = clocks.Offset
clock_of code_clocks.MinuteOffset = clocks.MinuteOffset

abbrev pub clock_line_of : CodeClockLine → ClockLine
clock_line_of code_lines.HourStart = lines.hour_start
clock_line_of code_lines.HourDigit = lines.hour_digit
clock_line_of code_lines.HourRange = lines.hour_range
clock_line_of code_lines.AfterHour = lines.after_hour
clock_line_of code_lines.MinuteDigits = lines.minute_digits
clock_line_of code_lines.MinuteRange = lines.minute_range
clock_line_of code_lines.AfterBasicMinute = lines.after_basic_minute
clock_line_of code_lines.AfterColonMinute = lines.after_colon_minute
clock_line_of code_lines.SecondDigits = lines.second_digits
clock_line_of code_lines.SecondRange = lines.second_range
clock_line_of code_lines.AfterSecond = lines.after_second
clock_line_of code_lines.FractionStart = lines.fraction_start
clock_line_of code_lines.AfterFraction = lines.after_fraction

abbrev pub shape_of : CodeTimeShape → TimeShape
shape_of code_shapes.Hours = shapes.hours
shape_of code_shapes.BasicMinutes = shapes.basic_minutes
shape_of code_shapes.ColonMinutes = shapes.colon_minutes
shape_of code_shapes.Seconds = shapes.seconds
shape_of code_shapes.Fractions = shapes.fractions

-- The record of a time that ends with its second.
abbrev pub time_to_second : WholeTime → TimeRecord
time_to_second time = time_of time.hour time.minute time.second None

-- A time that was written, and the parts that it has.
abbrev pub open_time_of : TimeRecord → CodeTimeShape → OpenTime
open_time_of time shape = (shape_of shape, time)

-- Whether a bracket follows a core.
abbrev pub opens_bracket : AfterCore → Bool
opens_bracket afters.End = false
opens_bracket afters.Bracket = true
