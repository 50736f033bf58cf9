-- The fault of a row is that of its `Reason`, by what follows the prefix of its line.
use Rattle.ixdtf_grammar.specs.declared.reason.Reason.{Reason}
use Rattle.std.proofs.Common.{◌≡◌, ℕ, Bool, List, [], ◌∷◌, refl, sym, ap, ◌∙◌, inl, inr}
use Rattle.ixdtf_grammar.specs.{declared.profile.Profile.{Profile, TheVariants.Crate}, language.{Letters.{Text, Letter.{Plain, Bad}}, Times.{Clock, Clock.{Time, Offset, MinuteOffset}}, Durations.{Half as halves}}}
use Rattle.ixdtf_grammar.specs.language.{Brackets.Pair, Readers.{Reader, has_brackets}}
use Rattle.ixdtf_grammar.specs.table.{Faults.Fault, Lines.{Line, line_of, Line.{line, scanned, whole}, Ending.{error}}, Rows.{Row, Place, Stops, Fits, left_at, Place.{end, other, bad, anywhere}}}
use Rattle.ixdtf_grammar.specs.table.DateTimeFronts.Field.{month_field, day_field, hour_field, minute_field, second_field, offset_hour_field, offset_minute_field}
use Rattle.ixdtf_grammar.specs.table.LineNames.{LineName, CoreLine.{dates, year_months, month_days, times}, LineName.{of_core, of_clock, of_offset, of_date_time, of_zone, of_bracket, of_pair, of_duration}}
use Rattle.ixdtf_grammar.specs.table.LineNames.DateLine.{year_start, year_digits, extended_year_digits, minus_zero_year, after_year, month_digits, month_range, after_hyphened_month, after_basic_month, day_digits, day_range, after_date}
use Rattle.ixdtf_grammar.specs.table.LineNames.YearMonthLine.{after_year_in_year_month, after_year_month}
use Rattle.ixdtf_grammar.specs.table.LineNames.MonthDayLine.{month_day_start, month_day_hyphen, month_day_month_digits, month_day_month_range, after_month_day_month, month_day_day_digits, month_day_range, after_month_day}
use Rattle.ixdtf_grammar.specs.table.LineNames.TimeLine.{time_start, time_reads_as_month_day, time_reads_as_year_month}
use Rattle.ixdtf_grammar.specs.table.LineNames.ClockLine.{hour_start, hour_digit, hour_range, after_hour, minute_digits, minute_range, after_basic_minute, after_colon_minute, second_digits, second_range, after_second, fraction_start, after_fraction}
use Rattle.ixdtf_grammar.specs.table.LineNames.OffsetLine.{offset_start, after_zulu}
use Rattle.ixdtf_grammar.specs.table.LineNames.DateTimeLine.{four_digits, after_four_digits, field_digits, field_range, after_field, after_point, after_secfrac, after_utc}
use Rattle.ixdtf_grammar.specs.table.LineNames.ZoneLine.{identifier_start, zone_name_start, in_zone_name, after_zone_slash}
use Rattle.ixdtf_grammar.specs.table.LineNames.BracketLine.{first_bracket_start, first_critical_start, first_bracket_scan, first_dots_form, first_name_form, first_offset_form, after_bracket}
use Rattle.ixdtf_grammar.specs.table.LineNames.PairLine.{key_start, critical_key_start, in_key, value_start, in_value, after_value_hyphen}
use Rattle.ixdtf_grammar.specs.table.LineNames.DurationLine.{duration_start, after_duration_sign, after_duration_designator, after_date_groups, after_time_designator, after_time_groups, after_fraction_group, group_digits, group_value_range, unit_order, date_unit_range, group_fraction_start, group_fraction_digits}
use Rattle.ixdtf_reading.specs.{reading.Stops.{reason_of, end_fault, line_fault, fault_at, Refuses}}

-- If a row of the line fits at a text, its fault is that of the line at this text.
stops_fault : (l : Line) (place : Place) (e : Fault) (rest : Text) → Stops l place e rest → line_fault l (left_at place) ≡ e
stops_fault (line front goes_on at_end at_other) (end left) e rest h =
    ap (line_fault (line front goes_on at_end at_other)) (h.2 ∙ h.0) ∙ ap end_fault h.1
stops_fault (line front goes_on at_end at_other) (other left) e rest h = ap (line_fault (line front goes_on at_end at_other)) (h.5 ∙ h.2) ∙ sym h.4
stops_fault (line front goes_on at_end at_other) (bad left) e rest h = ap (line_fault (line front goes_on at_end at_other)) (h.3 ∙ h.1) ∙ sym h.2
stops_fault (line front goes_on at_end at_other) (anywhere left) e rest h = absurd h
stops_fault (scanned front d) (end left) e rest h = ap (line_fault (scanned front d)) (h.2 ∙ h.0) ∙ sym h.1
stops_fault (scanned front d) (bad left) e rest h = ap (line_fault (scanned front d)) (h.3 ∙ h.1) ∙ sym h.2
stops_fault (scanned front d) (other left) e rest h = absurd h
stops_fault (scanned front d) (anywhere left) e rest h = absurd h
stops_fault (whole front d) (anywhere left) e rest h = sym h.0
stops_fault (whole front d) (end left) e rest h = absurd h
stops_fault (whole front d) (other left) e rest h = absurd h
stops_fault (whole front d) (bad left) e rest h = absurd h

-- The lines differ only in their prefixes.
abbrev DifferInFronts : Line → Line → Type 0
DifferInFronts (line front goes_on at_end at_other) (line other_front other_goes_on other_end other_other) =
    (goes_on ≡ other_goes_on) × (at_end ≡ other_end) × (at_other ≡ other_other)
DifferInFronts (whole front fault) (whole other_front other_fault) = fault ≡ other_fault
DifferInFronts one another = ⊥

same_stops : (l m : Line) → DifferInFronts l m → (place : Place) (e : Fault) (rest : Text) → Stops l place e rest → Stops m place e rest
same_stops (line front goes_on at_end at_other) (line other_front g t o) same (end left) e rest h = (h.0, sym same.1 ∙ h.1, h.2)
same_stops (line front goes_on at_end at_other) (line other_front g t o) same (other left) e rest h =
    (h.0, h.1, h.2, ap (λ f. f h.0) (sym same.0) ∙ h.3, h.4 ∙ ap (λ f. f h.0) same.2, h.5)
same_stops (line front goes_on at_end at_other) (line other_front g t o) same (bad left) e rest h = h
same_stops (line front goes_on at_end at_other) (line other_front g t o) same (anywhere left) e rest h = absurd h
same_stops (whole front d) (whole other_front f) same (anywhere left) e rest h = (h.0 ∙ same, h.1)
same_stops (whole front d) (whole other_front f) same (end left) e rest h = absurd h
same_stops (whole front d) (whole other_front f) same (other left) e rest h = absurd h
same_stops (whole front d) (whole other_front f) same (bad left) e rest h = absurd h
same_stops (line front goes_on at_end at_other) (scanned other_front f) same place e rest h = absurd same
same_stops (line front goes_on at_end at_other) (whole other_front f) same place e rest h = absurd same
same_stops (scanned front d) m same place e rest h = absurd same
same_stops (whole front d) (line other_front g t o) same place e rest h = absurd same
same_stops (whole front d) (scanned other_front f) same place e rest h = absurd same

row_fault : (brackets : Bool) (name : LineName) (place : Place) (e : Fault) (rest : Text) → Stops (line_of brackets name) place e rest
    → fault_at brackets (reason_of name) (left_at place) ≡ e
row_fault brackets (of_core (dates year_start)) place e rest h = stops_fault (line_of brackets (of_core (dates year_start))) place e rest h
row_fault brackets (of_core (dates year_digits)) place e rest h = stops_fault (line_of brackets (of_core (dates year_digits))) place e rest h
row_fault brackets (of_core (dates extended_year_digits)) place e rest h = stops_fault (line_of brackets (of_core (dates extended_year_digits))) place e rest h
row_fault brackets (of_core (dates minus_zero_year)) place e rest h = stops_fault (line_of brackets (of_core (dates minus_zero_year))) place e rest h
row_fault brackets (of_core (dates after_year)) place e rest h = stops_fault (line_of brackets (of_core (dates after_year))) place e rest h
row_fault brackets (of_core (dates month_digits)) place e rest h = stops_fault (line_of brackets (of_core (dates month_digits))) place e rest h
row_fault brackets (of_core (dates month_range)) place e rest h = stops_fault (line_of brackets (of_core (dates month_range))) place e rest h
row_fault brackets (of_core (dates after_hyphened_month)) place e rest h = stops_fault (line_of brackets (of_core (dates after_hyphened_month))) place e rest h
row_fault brackets (of_core (dates after_basic_month)) place e rest h = stops_fault (line_of brackets (of_core (dates after_basic_month))) place e rest h
row_fault brackets (of_core (dates day_digits)) place e rest h = stops_fault (line_of brackets (of_core (dates day_digits))) place e rest h
row_fault brackets (of_core (dates day_range)) place e rest h = stops_fault (line_of brackets (of_core (dates day_range))) place e rest h
row_fault brackets (of_core (dates after_date)) place e rest h = stops_fault (line_of brackets (of_core (dates after_date))) place e rest h
row_fault brackets (of_core (year_months after_year_in_year_month)) place e rest h = stops_fault (line_of brackets (of_core (year_months after_year_in_year_month))) place e rest h
row_fault brackets (of_core (year_months after_year_month)) place e rest h = stops_fault (line_of brackets (of_core (year_months after_year_month))) place e rest h
row_fault brackets (of_core (month_days month_day_start)) place e rest h = stops_fault (line_of brackets (of_core (month_days month_day_start))) place e rest h
row_fault brackets (of_core (month_days month_day_hyphen)) place e rest h = stops_fault (line_of brackets (of_core (month_days month_day_hyphen))) place e rest h
row_fault brackets (of_core (month_days month_day_month_digits)) place e rest h = stops_fault (line_of brackets (of_core (month_days month_day_month_digits))) place e rest h
row_fault brackets (of_core (month_days month_day_month_range)) place e rest h = stops_fault (line_of brackets (of_core (month_days month_day_month_range))) place e rest h
row_fault brackets (of_core (month_days after_month_day_month)) place e rest h = stops_fault (line_of brackets (of_core (month_days after_month_day_month))) place e rest h
row_fault brackets (of_core (month_days month_day_day_digits)) place e rest h = stops_fault (line_of brackets (of_core (month_days month_day_day_digits))) place e rest h
row_fault brackets (of_core (month_days (month_day_range profile))) place e rest h =
    stops_fault (line_of brackets (of_core (month_days (month_day_range Crate)))) place e rest (same_stops (line_of brackets (of_core (month_days (month_day_range profile)))) (line_of brackets (of_core (month_days (month_day_range Crate)))) refl place e rest h)
row_fault brackets (of_core (month_days (after_month_day profile))) place e rest h =
    stops_fault (line_of brackets (of_core (month_days (after_month_day Crate)))) place e rest (same_stops (line_of brackets (of_core (month_days (after_month_day profile)))) (line_of brackets (of_core (month_days (after_month_day Crate)))) (refl, refl, refl) place e rest h)
row_fault brackets (of_core (times time_start)) place e rest h = stops_fault (line_of brackets (of_core (times time_start))) place e rest h
row_fault brackets (of_core (times (time_reads_as_month_day profile))) place e rest h =
    stops_fault (line_of brackets (of_core (times (time_reads_as_month_day Crate)))) place e rest (same_stops (line_of brackets (of_core (times (time_reads_as_month_day profile)))) (line_of brackets (of_core (times (time_reads_as_month_day Crate)))) refl place e rest h)
row_fault brackets (of_core (times time_reads_as_year_month)) place e rest h = stops_fault (line_of brackets (of_core (times time_reads_as_year_month))) place e rest h
row_fault brackets (of_clock Time hour_start) place e rest h = stops_fault (line_of brackets (of_clock Time hour_start)) place e rest h
row_fault brackets (of_clock Time hour_digit) place e rest h = stops_fault (line_of brackets (of_clock Time hour_digit)) place e rest h
row_fault brackets (of_clock Time hour_range) place e rest h = stops_fault (line_of brackets (of_clock Time hour_range)) place e rest h
row_fault brackets (of_clock Time after_hour) place e rest h = stops_fault (line_of brackets (of_clock Time after_hour)) place e rest h
row_fault brackets (of_clock Time minute_digits) place e rest h = stops_fault (line_of brackets (of_clock Time minute_digits)) place e rest h
row_fault brackets (of_clock Time minute_range) place e rest h = stops_fault (line_of brackets (of_clock Time minute_range)) place e rest h
row_fault brackets (of_clock Time after_basic_minute) place e rest h = stops_fault (line_of brackets (of_clock Time after_basic_minute)) place e rest h
row_fault brackets (of_clock Time after_colon_minute) place e rest h = stops_fault (line_of brackets (of_clock Time after_colon_minute)) place e rest h
row_fault brackets (of_clock Time second_digits) place e rest h = stops_fault (line_of brackets (of_clock Time second_digits)) place e rest h
row_fault brackets (of_clock Time second_range) place e rest h = stops_fault (line_of brackets (of_clock Time second_range)) place e rest h
row_fault brackets (of_clock Time after_second) place e rest h = stops_fault (line_of brackets (of_clock Time after_second)) place e rest h
row_fault brackets (of_clock Time fraction_start) place e rest h = stops_fault (line_of brackets (of_clock Time fraction_start)) place e rest h
row_fault brackets (of_clock Time after_fraction) place e rest h = stops_fault (line_of brackets (of_clock Time after_fraction)) place e rest h
row_fault brackets (of_clock Offset hour_start) place e rest h = stops_fault (line_of brackets (of_clock Offset hour_start)) place e rest h
row_fault brackets (of_clock Offset hour_digit) place e rest h = stops_fault (line_of brackets (of_clock Offset hour_digit)) place e rest h
row_fault brackets (of_clock Offset hour_range) place e rest h = stops_fault (line_of brackets (of_clock Offset hour_range)) place e rest h
row_fault brackets (of_clock Offset after_hour) place e rest h = stops_fault (line_of brackets (of_clock Offset after_hour)) place e rest h
row_fault brackets (of_clock Offset minute_digits) place e rest h = stops_fault (line_of brackets (of_clock Offset minute_digits)) place e rest h
row_fault brackets (of_clock Offset minute_range) place e rest h = stops_fault (line_of brackets (of_clock Offset minute_range)) place e rest h
row_fault brackets (of_clock Offset after_basic_minute) place e rest h = stops_fault (line_of brackets (of_clock Offset after_basic_minute)) place e rest h
row_fault brackets (of_clock Offset after_colon_minute) place e rest h = stops_fault (line_of brackets (of_clock Offset after_colon_minute)) place e rest h
row_fault brackets (of_clock Offset second_digits) place e rest h = stops_fault (line_of brackets (of_clock Offset second_digits)) place e rest h
row_fault brackets (of_clock Offset second_range) place e rest h = stops_fault (line_of brackets (of_clock Offset second_range)) place e rest h
row_fault brackets (of_clock Offset after_second) place e rest h = stops_fault (line_of brackets (of_clock Offset after_second)) place e rest h
row_fault brackets (of_clock Offset fraction_start) place e rest h = stops_fault (line_of brackets (of_clock Offset fraction_start)) place e rest h
row_fault brackets (of_clock Offset after_fraction) place e rest h = stops_fault (line_of brackets (of_clock Offset after_fraction)) place e rest h
row_fault brackets (of_clock MinuteOffset hour_start) place e rest h = stops_fault (line_of brackets (of_clock MinuteOffset hour_start)) place e rest h
row_fault brackets (of_clock MinuteOffset hour_digit) place e rest h = stops_fault (line_of brackets (of_clock MinuteOffset hour_digit)) place e rest h
row_fault brackets (of_clock MinuteOffset hour_range) place e rest h = stops_fault (line_of brackets (of_clock MinuteOffset hour_range)) place e rest h
row_fault brackets (of_clock MinuteOffset after_hour) place e rest h = stops_fault (line_of brackets (of_clock MinuteOffset after_hour)) place e rest h
row_fault brackets (of_clock MinuteOffset minute_digits) place e rest h = stops_fault (line_of brackets (of_clock MinuteOffset minute_digits)) place e rest h
row_fault brackets (of_clock MinuteOffset minute_range) place e rest h = stops_fault (line_of brackets (of_clock MinuteOffset minute_range)) place e rest h
row_fault brackets (of_clock MinuteOffset after_basic_minute) place e rest h = stops_fault (line_of brackets (of_clock MinuteOffset after_basic_minute)) place e rest h
row_fault brackets (of_clock MinuteOffset after_colon_minute) place e rest h = stops_fault (line_of brackets (of_clock MinuteOffset after_colon_minute)) place e rest h
row_fault brackets (of_clock MinuteOffset second_digits) place e rest h = stops_fault (line_of brackets (of_clock MinuteOffset second_digits)) place e rest h
row_fault brackets (of_clock MinuteOffset second_range) place e rest h = stops_fault (line_of brackets (of_clock MinuteOffset second_range)) place e rest h
row_fault brackets (of_clock MinuteOffset after_second) place e rest h = stops_fault (line_of brackets (of_clock MinuteOffset after_second)) place e rest h
row_fault brackets (of_clock MinuteOffset fraction_start) place e rest h = stops_fault (line_of brackets (of_clock MinuteOffset fraction_start)) place e rest h
row_fault brackets (of_clock MinuteOffset after_fraction) place e rest h = stops_fault (line_of brackets (of_clock MinuteOffset after_fraction)) place e rest h
row_fault brackets (of_offset offset_start) place e rest h = stops_fault (line_of brackets (of_offset offset_start)) place e rest h
row_fault brackets (of_offset after_zulu) place e rest h = stops_fault (line_of brackets (of_offset after_zulu)) place e rest h
row_fault brackets (of_date_time four_digits) place e rest h = stops_fault (line_of brackets (of_date_time four_digits)) place e rest h
row_fault brackets (of_date_time after_four_digits) place e rest h = stops_fault (line_of brackets (of_date_time after_four_digits)) place e rest h
row_fault brackets (of_date_time (field_digits month_field)) place e rest h = stops_fault (line_of brackets (of_date_time (field_digits month_field))) place e rest h
row_fault brackets (of_date_time (field_digits day_field)) place e rest h = stops_fault (line_of brackets (of_date_time (field_digits day_field))) place e rest h
row_fault brackets (of_date_time (field_digits hour_field)) place e rest h = stops_fault (line_of brackets (of_date_time (field_digits hour_field))) place e rest h
row_fault brackets (of_date_time (field_digits minute_field)) place e rest h = stops_fault (line_of brackets (of_date_time (field_digits minute_field))) place e rest h
row_fault brackets (of_date_time (field_digits second_field)) place e rest h = stops_fault (line_of brackets (of_date_time (field_digits second_field))) place e rest h
row_fault brackets (of_date_time (field_digits offset_hour_field)) place e rest h = stops_fault (line_of brackets (of_date_time (field_digits offset_hour_field))) place e rest h
row_fault brackets (of_date_time (field_digits offset_minute_field)) place e rest h = stops_fault (line_of brackets (of_date_time (field_digits offset_minute_field))) place e rest h
row_fault brackets (of_date_time (field_range month_field)) place e rest h = stops_fault (line_of brackets (of_date_time (field_range month_field))) place e rest h
row_fault brackets (of_date_time (field_range day_field)) place e rest h = stops_fault (line_of brackets (of_date_time (field_range day_field))) place e rest h
row_fault brackets (of_date_time (field_range hour_field)) place e rest h = stops_fault (line_of brackets (of_date_time (field_range hour_field))) place e rest h
row_fault brackets (of_date_time (field_range minute_field)) place e rest h = stops_fault (line_of brackets (of_date_time (field_range minute_field))) place e rest h
row_fault brackets (of_date_time (field_range second_field)) place e rest h = stops_fault (line_of brackets (of_date_time (field_range second_field))) place e rest h
row_fault brackets (of_date_time (field_range offset_hour_field)) place e rest h = stops_fault (line_of brackets (of_date_time (field_range offset_hour_field))) place e rest h
row_fault brackets (of_date_time (field_range offset_minute_field)) place e rest h = stops_fault (line_of brackets (of_date_time (field_range offset_minute_field))) place e rest h
row_fault brackets (of_date_time (after_field month_field)) place e rest h = stops_fault (line_of brackets (of_date_time (after_field month_field))) place e rest h
row_fault brackets (of_date_time (after_field day_field)) place e rest h = stops_fault (line_of brackets (of_date_time (after_field day_field))) place e rest h
row_fault brackets (of_date_time (after_field hour_field)) place e rest h = stops_fault (line_of brackets (of_date_time (after_field hour_field))) place e rest h
row_fault brackets (of_date_time (after_field minute_field)) place e rest h = stops_fault (line_of brackets (of_date_time (after_field minute_field))) place e rest h
row_fault brackets (of_date_time (after_field second_field)) place e rest h = stops_fault (line_of brackets (of_date_time (after_field second_field))) place e rest h
row_fault brackets (of_date_time (after_field offset_hour_field)) place e rest h = stops_fault (line_of brackets (of_date_time (after_field offset_hour_field))) place e rest h
row_fault brackets (of_date_time (after_field offset_minute_field)) place e rest h = stops_fault (line_of brackets (of_date_time (after_field offset_minute_field))) place e rest h
row_fault brackets (of_date_time after_point) place e rest h = stops_fault (line_of brackets (of_date_time after_point)) place e rest h
row_fault brackets (of_date_time after_secfrac) place e rest h = stops_fault (line_of brackets (of_date_time after_secfrac)) place e rest h
row_fault brackets (of_date_time after_utc) place e rest h = stops_fault (line_of brackets (of_date_time after_utc)) place e rest h
row_fault brackets (of_zone identifier_start) place e rest h = stops_fault (line_of brackets (of_zone identifier_start)) place e rest h
row_fault brackets (of_zone zone_name_start) place e rest h = stops_fault (line_of brackets (of_zone zone_name_start)) place e rest h
row_fault brackets (of_zone in_zone_name) place e rest h = stops_fault (line_of brackets (of_zone in_zone_name)) place e rest h
row_fault brackets (of_zone after_zone_slash) place e rest h = stops_fault (line_of brackets (of_zone after_zone_slash)) place e rest h
row_fault brackets (of_bracket first_bracket_start) place e rest h = stops_fault (line_of brackets (of_bracket first_bracket_start)) place e rest h
row_fault brackets (of_bracket first_critical_start) place e rest h = stops_fault (line_of brackets (of_bracket first_critical_start)) place e rest h
row_fault brackets (of_bracket first_bracket_scan) place e rest h = stops_fault (line_of brackets (of_bracket first_bracket_scan)) place e rest h
row_fault brackets (of_bracket first_dots_form) place e rest h =
    stops_fault (line_of brackets (of_bracket first_name_form)) place e rest (same_stops (line_of brackets (of_bracket first_dots_form)) (line_of brackets (of_bracket first_name_form)) refl place e rest h)
row_fault brackets (of_bracket first_name_form) place e rest h = stops_fault (line_of brackets (of_bracket first_name_form)) place e rest h
row_fault brackets (of_bracket first_offset_form) place e rest h = stops_fault (line_of brackets (of_bracket first_offset_form)) place e rest h
row_fault brackets (of_bracket after_bracket) place e rest h = stops_fault (line_of brackets (of_bracket after_bracket)) place e rest h
row_fault brackets (of_pair key_start) place e rest h = stops_fault (line_of brackets (of_pair key_start)) place e rest h
row_fault brackets (of_pair critical_key_start) place e rest h = stops_fault (line_of brackets (of_pair critical_key_start)) place e rest h
row_fault brackets (of_pair in_key) place e rest h = stops_fault (line_of brackets (of_pair in_key)) place e rest h
row_fault brackets (of_pair value_start) place e rest h = stops_fault (line_of brackets (of_pair value_start)) place e rest h
row_fault brackets (of_pair in_value) place e rest h = stops_fault (line_of brackets (of_pair in_value)) place e rest h
row_fault brackets (of_pair after_value_hyphen) place e rest h = stops_fault (line_of brackets (of_pair after_value_hyphen)) place e rest h
row_fault brackets (of_duration profile duration_start) place e rest h =
    stops_fault (line_of brackets (of_duration Crate duration_start)) place e rest (same_stops (line_of brackets (of_duration profile duration_start)) (line_of brackets (of_duration Crate duration_start)) (refl, refl, refl) place e rest h)
row_fault brackets (of_duration profile after_duration_sign) place e rest h =
    stops_fault (line_of brackets (of_duration Crate after_duration_sign)) place e rest (same_stops (line_of brackets (of_duration profile after_duration_sign)) (line_of brackets (of_duration Crate after_duration_sign)) (refl, refl, refl) place e rest h)
row_fault brackets (of_duration profile after_duration_designator) place e rest h =
    stops_fault (line_of brackets (of_duration Crate after_duration_designator)) place e rest (same_stops (line_of brackets (of_duration profile after_duration_designator)) (line_of brackets (of_duration Crate after_duration_designator)) (refl, refl, refl) place e rest h)
row_fault brackets (of_duration profile after_date_groups) place e rest h =
    stops_fault (line_of brackets (of_duration Crate after_date_groups)) place e rest (same_stops (line_of brackets (of_duration profile after_date_groups)) (line_of brackets (of_duration Crate after_date_groups)) (refl, refl, refl) place e rest h)
row_fault brackets (of_duration profile after_time_designator) place e rest h =
    stops_fault (line_of brackets (of_duration Crate after_time_designator)) place e rest (same_stops (line_of brackets (of_duration profile after_time_designator)) (line_of brackets (of_duration Crate after_time_designator)) (refl, refl, refl) place e rest h)
row_fault brackets (of_duration profile after_time_groups) place e rest h =
    stops_fault (line_of brackets (of_duration Crate after_time_groups)) place e rest (same_stops (line_of brackets (of_duration profile after_time_groups)) (line_of brackets (of_duration Crate after_time_groups)) (refl, refl, refl) place e rest h)
row_fault brackets (of_duration profile after_fraction_group) place e rest h =
    stops_fault (line_of brackets (of_duration Crate after_fraction_group)) place e rest (same_stops (line_of brackets (of_duration profile after_fraction_group)) (line_of brackets (of_duration Crate after_fraction_group)) (refl, refl, refl) place e rest h)
row_fault brackets (of_duration profile (group_digits halves.date)) place e rest h =
    stops_fault (line_of brackets (of_duration Crate (group_digits halves.date))) place e rest (same_stops (line_of brackets (of_duration profile (group_digits halves.date))) (line_of brackets (of_duration Crate (group_digits halves.date))) (refl, refl, refl) place e rest h)
row_fault brackets (of_duration profile (group_digits halves.time)) place e rest h =
    stops_fault (line_of brackets (of_duration Crate (group_digits halves.time))) place e rest (same_stops (line_of brackets (of_duration profile (group_digits halves.time))) (line_of brackets (of_duration Crate (group_digits halves.time))) (refl, refl, refl) place e rest h)
row_fault brackets (of_duration profile (group_value_range halves.date)) place e rest h =
    stops_fault (line_of brackets (of_duration Crate (group_value_range halves.date))) place e rest (same_stops (line_of brackets (of_duration profile (group_value_range halves.date))) (line_of brackets (of_duration Crate (group_value_range halves.date))) refl place e rest h)
row_fault brackets (of_duration profile (group_value_range halves.time)) place e rest h =
    stops_fault (line_of brackets (of_duration Crate (group_value_range halves.time))) place e rest (same_stops (line_of brackets (of_duration profile (group_value_range halves.time))) (line_of brackets (of_duration Crate (group_value_range halves.time))) refl place e rest h)
row_fault brackets (of_duration profile (unit_order halves.date)) place e rest h =
    stops_fault (line_of brackets (of_duration Crate (unit_order halves.date))) place e rest (same_stops (line_of brackets (of_duration profile (unit_order halves.date))) (line_of brackets (of_duration Crate (unit_order halves.date))) refl place e rest h)
row_fault brackets (of_duration profile (unit_order halves.time)) place e rest h =
    stops_fault (line_of brackets (of_duration Crate (unit_order halves.time))) place e rest (same_stops (line_of brackets (of_duration profile (unit_order halves.time))) (line_of brackets (of_duration Crate (unit_order halves.time))) refl place e rest h)
row_fault brackets (of_duration profile date_unit_range) place e rest h =
    stops_fault (line_of brackets (of_duration Crate date_unit_range)) place e rest (same_stops (line_of brackets (of_duration profile date_unit_range)) (line_of brackets (of_duration Crate date_unit_range)) refl place e rest h)
row_fault brackets (of_duration profile group_fraction_start) place e rest h =
    stops_fault (line_of brackets (of_duration Crate group_fraction_start)) place e rest (same_stops (line_of brackets (of_duration profile group_fraction_start)) (line_of brackets (of_duration Crate group_fraction_start)) (refl, refl, refl) place e rest h)
row_fault brackets (of_duration profile group_fraction_digits) place e rest h =
    stops_fault (line_of brackets (of_duration Crate group_fraction_digits)) place e rest (same_stops (line_of brackets (of_duration profile group_fraction_digits)) (line_of brackets (of_duration Crate group_fraction_digits)) (refl, refl, refl) place e rest h)

-- The fault of a row that fits a text is that of its `Reason` at its position.
pub fault_of_row : (reader : Reader) (row : Row) (pairs : List Pair) (text : Text) → Fits reader row pairs text
    → fault_at (has_brackets reader) (reason_of row.name) (left_at row.place) ≡ row.error
fault_of_row reader row pairs text fits = row_fault (has_brackets reader) row.name row.place row.error fits.4.1 fits.4.4

-- The fault of a refused annotation.
pub fault_of_refusal : (brackets : Bool) (stop : Reason) (fault : Fault) (text : Text) → Refuses stop fault → fault_at brackets stop text ≡ fault
fault_of_refusal brackets stop fault text (inl p) = ap (λ s. fault_at brackets s text) p.0 ∙ sym p.1
fault_of_refusal brackets stop fault text (inr p) = ap (λ s. fault_at brackets s text) p.0 ∙ sym p.1
