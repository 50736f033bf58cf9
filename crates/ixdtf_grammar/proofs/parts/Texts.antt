-- Lemmas that put a text together from its parts. The value of the text is made of the values of the parts.
use Rattle.std.proofs.Common.{◌≡◌, ℕ, IsTrue, ◌∷◌, ◌++◌, List, Option, Some, None, refl}
use Rattle.ixdtf_grammar.specs.declared.records.{DateRecord.DateRecord, TimeRecord.TimeRecord, UtcOffsetRecordOrZ.UtcOffsetRecordOrZ}
use Rattle.ixdtf_grammar.specs.language.{Letters.{Text, sign, date_time_separator, Letter.Plain}, Shapes.one, Digits.UpTo, Dates.{IsDate, Year, Month}}
use Rattle.ixdtf_grammar.specs.language.Offsets.{IsSigned}
use Rattle.ixdtf_grammar.specs.language.Times.{Clock, TimeShape, ClockOf, IsTime, ColonMinuteText, ColonSecondText, greatest_second, has_seconds}
use Rattle.ixdtf_grammar.specs.language.{Brackets.{Pair, ZoneNote, IsTail}, Cores.{Core, core_of, OptionalOffset, DateAndTime, IsCore}, Readers.{CoreKind, has_exact_zones}}
use Rattle.ixdtf_grammar.specs.language.{Languages.{parsed_with, IsBracketed}, Months.{OptionalHyphen, IsYearMonth}}

-- ---- dates

pub year_month_text : {text : Text} {date : DateRecord} (years hyphens months : Text) → text ≡ years ++ (hyphens ++ months) → Year years date.year
    → OptionalHyphen hyphens → Month months date.month → date.day ≡ 1 → IsYearMonth text date
year_month_text years hyphens months is year hyphen month first =
    record { years = years; hyphens = hyphens; months = months; is = is; year = year; hyphen = hyphen; month = month; first_day = first }

-- ---- times

pub colon_minutes_text : {text : Text} {time : TimeRecord} (hs ms : Text) → text ≡ hs ++ (Plain 58 ∷ ms) → UpTo 23 hs time.hour → UpTo 59 ms time.minute
    → time.second ≡ 0 → time.fraction ≡ None → ColonMinuteText text time
colon_minutes_text hs ms is hour minute none no_part =
    record { hs = hs; ms = ms; is = is; hour = hour; minute = minute; no_second = none; no_fraction = no_part }

pub colon_seconds_text : {clock : Clock} {text : Text} {time : TimeRecord} (hs ms ss : Text) → text ≡ hs ++ (Plain 58 ∷ (ms ++ (Plain 58 ∷ ss)))
    → IsTrue (has_seconds clock) → UpTo 23 hs time.hour → UpTo 59 ms time.minute → UpTo (greatest_second clock) ss time.second → time.fraction ≡ None
    → ColonSecondText clock text time
colon_seconds_text hs ms ss is may hour minute second none =
    record { hs = hs; ms = ms; ss = ss; is = is; may = may; hour = hour; minute = minute; second = second; no_fraction = none }

-- The text is a sign, and a time after it.
pub signed_text : {O : Type 0} {clock : Clock} {record_of : ℕ → TimeShape → TimeRecord → O} {text : Text} (c : ℕ) (body : Text) (shape : TimeShape)
    (time : TimeRecord) → text ≡ Plain c ∷ body → IsTrue (sign c) → ClockOf clock shape body time → IsSigned clock record_of text (record_of c shape time)
signed_text c body shape time is signs at =
    record { c = c; body = body; shape = shape; time = time; is = is; sign = signs; clock = at; value = refl }

-- ---- cores, and the text after them

pub date_and_time : {text : Text} (dates separator times offsets : Text) (date : DateRecord) (time : TimeRecord) (offset : Option UtcOffsetRecordOrZ)
    → text ≡ dates ++ (separator ++ (times ++ offsets)) → IsDate dates date → one date_time_separator separator → IsTime times time
    → OptionalOffset offsets offset → DateAndTime text (core_of (Some date) (Some time) offset)
date_and_time dates separator times offsets date time offset is is_date separates is_time is_offset = record {
  dates = dates;
  separator = separator;
  times = times;
  offsets = offsets;
  date = date;
  time = time;
  offset = offset;
  is = is;
  is_date = is_date;
  separates = separates;
  is_time = is_time;
  is_offset = is_offset;
  has = refl;
}

pub bracketed_text : {kind : CoreKind} {text : Text} (cores brackets : Text) (core : Core) (zone : Option ZoneNote) (pairs : List Pair)
    → text ≡ cores ++ brackets → IsCore kind cores core → IsTail (has_exact_zones kind) brackets zone pairs → IsBracketed kind text (parsed_with core zone) pairs
bracketed_text cores brackets core zone pairs is is_core is_tail =
    record { cores = cores; brackets = brackets; core = core; zone = zone; is = is; is_core = is_core; is_tail = is_tail; has = refl }
