-- Which records of a time, of a year and a month, and of a month and a day have a text, stated for their fields. Only private
-- clauses use these definitions.
use Rattle.std.specs.Prelude.{◌≡◌, ◌≤◌, pos, nat_abs, Option, Some, None}
use Rattle.ixdtf_grammar.specs.declared.records.{DateRecord.DateRecord, TimeRecord.TimeRecord, UtcOffsetRecordOrZ.UtcOffsetRecordOrZ}
use Rattle.ixdtf_grammar.specs.declared.profile.Profile.{Profile}
use Rattle.ixdtf.specs.language.{Months.IsDayOfSomeYear, Languages.Parsed}
use Rattle.ixdtf_print.specs.Spelled.{HasTime, HasBrackets}

-- There is a time that has a text, no date, and no offset without a text.
abbrev pub HasLoneTime : Option DateRecord → Option TimeRecord → Option UtcOffsetRecordOrZ → Type 0
HasLoneTime None None offset = ⊥
HasLoneTime None (Some time) offset = HasTime (Some time) offset
HasLoneTime (Some date) time offset = ⊥

-- The date is the first day of a month, in a year of at most six digits.
pub record IsFirstDay (date : DateRecord) : Type 0 where
  pub year : nat_abs date.year ≤ 999999
  pub month_from : 1 ≤ date.month
  pub month_to : date.month ≤ 12
  pub day : date.day ≡ 1

abbrev pub HasLoneMonth : Option DateRecord → Option TimeRecord → Option UtcOffsetRecordOrZ → Type 0
HasLoneMonth None time offset = ⊥
HasLoneMonth (Some date) None None = IsFirstDay date
HasLoneMonth (Some date) None (Some offset) = ⊥
HasLoneMonth (Some date) (Some time) offset = ⊥

-- The date has the year 0, and a day that its month has in some year, or the day 0 if the profile allows it.
pub record IsDayOfAnyYear (profile : Profile) (date : DateRecord) : Type 0 where
  pub year : date.year ≡ pos 0
  pub month_from : 1 ≤ date.month
  pub month_to : date.month ≤ 12
  pub day : IsDayOfSomeYear profile date

abbrev pub HasLoneDay : Profile → Option DateRecord → Option TimeRecord → Option UtcOffsetRecordOrZ → Type 0
HasLoneDay profile None time offset = ⊥
HasLoneDay profile (Some date) None None = IsDayOfAnyYear profile date
HasLoneDay profile (Some date) None (Some offset) = ⊥
HasLoneDay profile (Some date) (Some time) offset = ⊥

-- The part before the brackets has a text, and the brackets have one.
abbrev pub IsSpelledAs : (Option DateRecord → Option TimeRecord → Option UtcOffsetRecordOrZ → Type 0) → Parsed → Type 0
IsSpelledAs has_core found = has_core found.date found.time found.offset × HasBrackets found
