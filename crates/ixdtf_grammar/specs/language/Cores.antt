-- Cores: a core is the part of a text before its brackets.
use Rattle.std.specs.Prelude.{◌≡◌, ◌⊎◌, [], ◌++◌, Option, Some, None}
use Rattle.ixdtf_grammar.specs.declared.{profile.Profile.Profile, records.{DateRecord.DateRecord, TimeRecord.TimeRecord}}
use Rattle.ixdtf_grammar.specs.{declared.records.UtcOffsetRecordOrZ.UtcOffsetRecordOrZ, language.Letters.{Text, date_time_separator, time_letter}}
use Rattle.ixdtf_grammar.specs.language.{Shapes.{Shape, nothing, one, ◌then◌, ◌either◌, some, anything}, Dates.IsDate, Months.{IsYearMonth, IsMonthDay}}
use Rattle.ixdtf_grammar.specs.language.{Times.IsTime, Offsets.IsOffsetOrZ, Readers.{CoreKind, CoreKind.{date_time, year_month, month_day, time_of_day}}}
use Rattle.ixdtf_grammar.specs.language.{Readers.CoreKind.internet_date_time, DateTimes.{IsFullDate, IsPartialTime, IsTimeOffset}}

-- A core can have a date, a time, and an offset or `Z`.
pub record Core : Type 0 where
  pub date : Option DateRecord
  pub time : Option TimeRecord
  pub offset : Option UtcOffsetRecordOrZ

abbrev pub core_of : Option DateRecord → Option TimeRecord → Option UtcOffsetRecordOrZ → Core
core_of date time offset = record { date = date; time = time; offset = offset }

abbrev pub OptionalOffset : Text → Option UtcOffsetRecordOrZ → Type 0
OptionalOffset text None = text ≡ []
OptionalOffset text (Some offset) = IsOffsetOrZ text offset

-- The core has only a date, and its text has the form `part`.
abbrev pub DateAlone : (Text → DateRecord → Type 0) → Text → Core → Type 0
DateAlone part text core = (date : DateRecord) × part text date × (core ≡ core_of (Some date) None None)

-- The text is a `Date`, one of `T`, `t` and space, a `Time`, and an optional offset or `Z`.
pub record DateAndTime (text : Text) (core : Core) : Type 0 where
  pub dates : Text
  pub separator : Text
  pub times : Text
  pub offsets : Text
  pub date : DateRecord
  pub time : TimeRecord
  pub offset : Option UtcOffsetRecordOrZ
  pub is : text ≡ dates ++ (separator ++ (times ++ offsets))
  pub is_date : IsDate dates date
  pub separates : one date_time_separator separator
  pub is_time : IsTime times time
  pub is_offset : OptionalOffset offsets offset
  pub has : core ≡ core_of (Some date) (Some time) offset

abbrev pub IsDateTimeCore : Text → Core → Type 0
IsDateTimeCore text core = DateAlone IsDate text core ⊎ DateAndTime text core

-- ---- date-times of RFC 3339

-- The text is a `date-time = full-date "T" full-time` of RFC 3339, with `full-time = partial-time time-offset`.
pub record IsDateTime (text : Text) (core : Core) : Type 0 where
  pub dates : Text
  pub letters : Text
  pub times : Text
  pub offsets : Text
  pub date : DateRecord
  pub time : TimeRecord
  pub offset : UtcOffsetRecordOrZ
  pub is : text ≡ dates ++ (letters ++ (times ++ offsets))
  pub is_date : IsFullDate dates date
  pub separates : one time_letter letters
  pub is_time : IsPartialTime times time
  pub is_offset : IsTimeOffset offsets offset
  pub has : core ≡ core_of (Some date) (Some time) (Some offset)

-- ---- times without a date

-- The text is `T`, `t`, or empty.
abbrev pub TimeMark : Shape
TimeMark = nothing either one time_letter

-- The text is an optional `T` or `t`, a time, and an optional offset or `Z`.
pub record MarkedTime (text : Text) (core : Core) : Type 0 where
  pub marks : Text
  pub times : Text
  pub offsets : Text
  pub time : TimeRecord
  pub offset : Option UtcOffsetRecordOrZ
  pub is : text ≡ marks ++ (times ++ offsets)
  pub mark : TimeMark marks
  pub is_time : IsTime times time
  pub is_offset : OptionalOffset offsets offset
  pub has : core ≡ core_of None (Some time) offset

-- A prefix of the text has the shape.
abbrev pub BeginsWith : Shape → Shape
BeginsWith shape = shape then anything

-- No prefix of the text is a month-day, and no prefix is a year-month.
abbrev pub HasNoDateFront : Profile → Shape
HasNoDateFront profile text = ¬ (BeginsWith (some (IsMonthDay profile)) text) × ¬ (BeginsWith (some IsYearMonth) text)

-- The core is a time, and its text does not begin with a month-day or with a year-month.
abbrev pub IsTimeCore : Profile → Text → Core → Type 0
IsTimeCore profile text core = MarkedTime text core × HasNoDateFront profile text

-- ---- a core of the kind

abbrev pub IsCore : CoreKind → Text → Core → Type 0
IsCore date_time text core = IsDateTimeCore text core
IsCore internet_date_time text core = IsDateTime text core
IsCore year_month text core = DateAlone IsYearMonth text core
IsCore (month_day profile) text core = DateAlone (IsMonthDay profile) text core
IsCore (time_of_day profile) text core = IsTimeCore profile text core
