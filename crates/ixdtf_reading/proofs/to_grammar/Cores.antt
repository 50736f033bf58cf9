-- Reading a core returns a core, with the end of the text or a bracket after it, or the fault of a row that fits.
use Rattle.std.proofs.Common.{◌≡◌, ℕ, Bool, true, false, IsTrue, IsFalse, [], ◌∷◌, ◌++◌, Ok, Option, Some, None, is_some, refl, sym, ap, ◌∙◌, subst, inl, inr}
use Rattle.std.proofs.{Common.{append_assoc, append-nil}, lemmas.Bool.{or_from, eqb-true}}
use Rattle.ixdtf_grammar.specs.declared.{profile.Profile.Profile, records.{DateRecord.DateRecord, TimeRecord.TimeRecord, UtcOffsetRecord.UtcOffsetRecord}}
use Rattle.ixdtf_grammar.specs.declared.records.UtcOffsetRecordOrZ.{UtcOffsetRecordOrZ, TheVariants.{Offset, Z}}
use Rattle.ixdtf_grammar.specs.language.Letters.{Text, Class, digit, sign, zulu, opening, time_letter, date_time_separator, Letter.{Plain, Bad}}
use Rattle.ixdtf_grammar.specs.language.{Shapes.{Shape, one, some, ◌then◌}, Dates.IsDate, Months.{IsYearMonth, IsMonthDay}}
use Rattle.ixdtf_grammar.specs.language.{Times.{Clock, TimeShape, IsTime, writes_seconds, TimeShape.{seconds, fractions}}, Offsets.{IsOffset, offset_of}}
use Rattle.ixdtf_grammar.specs.language.Cores.{Core, core_of, OptionalOffset, DateAlone, IsDateTimeCore, IsDateTime, TimeMark, MarkedTime, HasNoDateFront, IsCore}
use Rattle.ixdtf_grammar.specs.{language.Readers.{CoreKind, CoreKind.{date_time, internet_date_time, year_month, month_day, time_of_day}, Reader.bracketed}, table.Faults.Fault}
use Rattle.ixdtf_grammar.specs.table.Faults.Fault.{NonAsciiCodePoint, InvalidEnd, TimeHour}
use Rattle.ixdtf_grammar.specs.table.LineNames.{DateLine, ClockLine, DateTimeLine, LineName, of_date, of_year_month, of_month_day, of_time, LineName.{of_clock, of_offset, of_date_time}}
use Rattle.ixdtf_grammar.specs.table.LineNames.{DateLine.{year_start, after_date}, YearMonthLine.after_year_month, MonthDayLine.after_month_day}
use Rattle.ixdtf_grammar.specs.table.{LineNames.{TimeLine.time_start, ClockLine.hour_start, OffsetLine.after_zulu}, Lines.{line_of, abrupt_digit, always}}
use Rattle.ixdtf_grammar.specs.table.{Lines.{Line.line, Ending.ok}, Before.{BeforeDate, BeforeTime, BeforeOffset, DateAndSeparator, AtCoreEnd, ReadsAsTime}}
use Rattle.ixdtf_grammar.specs.table.Rows.{Row, Place, Stops, Fits, Place.{end, other, bad}}
use Rattle.ixdtf_grammar.proofs.parts.Texts.{date_and_time, signed_text}
use Rattle.ixdtf_reading.specs.reading.{Looks.{Read, row_of, look_at, next_by}, Months.{year_month_at, month_day_at}}
use Rattle.ixdtf_reading.specs.reading.{Times.{OpenTime, line_after, bad_after, hour_from, clock_at}, Cores.{ClosedCore, core_look, core_end_at, with_offset}}
use Rattle.ixdtf_reading.specs.reading.Cores.{offset_core_at, after_time_at, time_core_at, after_date_at, date_time_core_at, date_alone_at, hour_look}
use Rattle.ixdtf_reading.specs.reading.Cores.{lone_time_at, marked_time_at, marked_core_at, unfronted, time_alone_core_at, internet_date_time_core_at, core_at}
use Rattle.ixdtf_reading.proofs.parts.Fronts.{no_front_of, unfronted_read}
use Rattle.ixdtf_reading.proofs.parts.Looks.{IsRowFault, OnRead, then_read, read_weaker, read_if, lift, NotNext, next_read, Peeked, peek_read, further}
use Rattle.ixdtf_grammar.specs.table.DateTimeFronts.{Through, ThroughTime, Field.offset_minute_field}
use Rattle.ixdtf_grammar.specs.table.LineNames.DateTimeLine.{after_field, after_utc}
use Rattle.ixdtf_reading.proofs.parts.Looks.{fits_in, peek_line_read}
use Rattle.ixdtf_reading.proofs.to_grammar.DateTimes.{FitsDateTime, date_time_read as rfc_date_time_read}
use Rattle.ixdtf_reading.proofs.{to_reading.Times.{Closed, IsLater}, to_grammar.Dates.{DateFront, date_read}}
use Rattle.ixdtf_reading.proofs.to_grammar.{Months.{FrontIs, year_month_read, month_day_read}, Times.{later, TimeFront, hour_read, clock_read, clock_stops}}

-- If a time ends here, the next code unit is not `Bad`.
closed_not_bad : (clock : Clock) (shape : TimeShape) (rest more : Text) → Closed clock shape rest → rest ≡ Bad ∷ more → ⊥
closed_not_bad clock seconds rest more closed is = rw is at closed
closed_not_bad clock fractions rest more closed is = rw is at closed
closed_not_bad clock minutes rest more closed is = (rw is at closed).0

not_bad : (class : Class) (rest more : Text) → NotNext class rest → rest ≡ Bad ∷ more → ⊥
not_bad class rest more closed is = rw is at closed

not_next : (class : Class) (rest : Text) (c : ℕ) (more : Text) → NotNext class rest → rest ≡ Plain c ∷ more → IsFalse (class c)
not_next class rest c more closed is = rw is at closed

-- The text is the prefix and the rest. If a bracket follows, `[` is between them.
abbrev pub Splits : Text → Text → Bool → Text → Type 0
Splits text front true rest = text ≡ front ++ (Plain 91 ∷ rest)
Splits text front false rest = (text ≡ front) × (rest ≡ [])

-- What is true if reading a core, or something like a core, returned this result.
abbrev pub FrontOf : (Text → Core → Type 0) → Text → ClosedCore → Text → Type 0
FrontOf is_core text x rest = (front : Text) × Splits text front x.1 rest × is_core front x.0

abbrev pub CoreFront : CoreKind → Text → ClosedCore → Text → Type 0
CoreFront kind text x rest = FrontOf (IsCore kind) text x rest

-- The row fits a core of this kind, or what follows the core.
abbrev FitsCore : CoreKind → Text → Row → Type 0
FitsCore kind text row = Fits (bracketed kind) row [] text

module _ {E : Type 0} (fault : Row → E) (kind : CoreKind) (text : Text) where
  -- What is true for the result of reading a core, or something like a core.
  abbrev ReadsAs : (Text → Core → Type 0) → Read E ClosedCore → Type 0
  ReadsAs is_core read = OnRead fault read (FrontOf is_core text) (FitsCore kind text)

  abbrev pub ReadsCore : Read E ClosedCore → Type 0
  ReadsCore read = ReadsAs (IsCore kind) read

module _ {E : Type 0} (fault : Row → E) (kind : CoreKind) (text : Text) (is_core : Text → Core → Type 0) where
  abbrev CoreOrRow : Read E ClosedCore → Type 0
  CoreOrRow read = ReadsAs fault kind text is_core read

  -- ---- the end of a core

  -- A core was read. `name` is the table line after it.
  module _ (name : LineName) (core : Core) (front rest : Text) (is : text ≡ front ++ rest) (core_here : is_core front core) where
    at_next : (next : Option ℕ) (more : Text) → Peeked opening rest next more → FrontOf is_core text (core, is_some next) more
    at_next None more h = (front, (is ∙ rw h.0 (append-nil front), h.1), core_here)
    at_next (Some c) more h = (front, is ∙ ap (λ t. front ++ t) (h.0 ∙ ap (λ n. Plain n ∷ more) (eqb-true c 91 h.1)), core_here)

    end_read : ((c : ℕ) (more : Text) → rest ≡ Plain c ∷ more → IsFalse (opening c) → FitsCore kind text (row_of name (other rest) InvalidEnd))
        → ((more : Text) → rest ≡ Bad ∷ more → FitsCore kind text (row_of name (bad rest) NonAsciiCodePoint)) → CoreOrRow (core_end_at fault name core rest)
    unfolding core_end_at
    end_read at_other at_bad = then_read fault _ _ _ _ _ _
        (peek_read (core_look fault name) fault rest (FitsCore kind text)
        (λ c more next out. (row_of name (other rest) InvalidEnd, refl, at_other c more next out))
        (λ more next. (row_of name (bad rest) NonAsciiCodePoint, refl, at_bad more next)))
        at_next
        (λ row f. f)

    -- As above, for a line after which only a bracket can follow.
    closing_read : (shown : Shape)
        → ((place : Place) (e : Fault) → Stops (line shown opening ok (always InvalidEnd)) place e rest → FitsCore kind text (row_of name place e))
        → CoreOrRow (core_end_at fault name core rest)
    closing_read shown fits =
        end_read (λ c more next out. fits (other rest) InvalidEnd (c, more, next, out, refl, refl)) (λ more next. fits (bad rest) NonAsciiCodePoint (more, next, refl, refl))

  -- ---- what follows a time, with the text before the time

  module _ (date : Option DateRecord) (prior body : Text) (is : text ≡ prior ++ body) (stands : (l : ClockLine) → IsLater l → BeforeTime kind l prior)
      (core_of_parts : (ts offsets : Text) (t : TimeRecord) (offset : Option UtcOffsetRecordOrZ) → IsTime ts t → OptionalOffset offsets offset
      → is_core (prior ++ (ts ++ offsets)) (core_of date (Some t) offset))
      (before_offset : (ts : Text) (t : TimeRecord) → IsTime ts t → BeforeOffset kind (prior ++ ts)) (x : OpenTime) (rest : Text)
      (h : TimeFront Clock.Time body x rest) where
    is_text : (offsets left : Text) → rest ≡ offsets ++ left → text ≡ (prior ++ (h.0 ++ offsets)) ++ left
    is_text offsets left next = is ∙ rw (h.1, next) (simp append_assoc)

    has_core : (offsets : Text) (offset : Option UtcOffsetRecordOrZ) → OptionalOffset offsets offset
        → is_core (prior ++ (h.0 ++ offsets)) (core_of date (Some x.1) offset)
    has_core offsets offset o = core_of_parts h.0 offsets x.1 offset (x.0, h.2) o

    timed : BeforeOffset kind (prior ++ h.0)
    timed = before_offset h.0 x.1 (x.0, h.2)

    time_text : text ≡ (prior ++ h.0) ++ rest
    time_text = is ∙ rw h.1 (simp append_assoc)

    signed : (s : ℕ) → IsTrue (sign s) → (BeforeOffset kind then one sign) ((prior ++ h.0) ++ (Plain s ∷ []))
    signed s signs = (prior ++ h.0, Plain s ∷ [], refl, timed, (s, refl, signs))

    -- An offset was read after its sign.
    after_offset_read : (s : ℕ) (more : Text) → rest ≡ Plain s ∷ more → IsTrue (sign s) → (o : OpenTime) (left : Text) → TimeFront Clock.Offset more o left
        → CoreOrRow (core_end_at fault (line_after Clock.Offset o.0) (with_offset date x.1 (offset_of s (writes_seconds o.0) o.1)) left)
    after_offset_read s more next signs o left g =
        let offset : UtcOffsetRecord = offset_of s (writes_seconds o.0) o.1 in
        let is_offset : IsOffset (Plain s ∷ g.0) offset = signed_text s g.0 o.0 o.1 refl signs g.2 in
        end_read (line_after Clock.Offset o.0) (with_offset date x.1 offset) (prior ++ (h.0 ++ (Plain s ∷ g.0))) left
        (is_text (Plain s ∷ g.0) left (next ∙ rw g.1))
        (has_core (Plain s ∷ g.0) (Some (Offset offset)) (inl (offset, is_offset, refl)))
        (λ c after ends out. lift (later Clock.Offset) (bracketed kind) _ text _ more (time_text ∙ rw next (simp append_assoc)) (λ l. (signed s signs, refl))
        (clock_stops fault true Clock.Offset more o (other left) InvalidEnd left g (c, after, ends, out, refl, refl)))
        (λ after ends. absurd (closed_not_bad Clock.Offset o.0 left after g.3 ends))

    -- Reading an offset after its sign.
    offset_read : (s : ℕ) (more : Text) → rest ≡ Plain s ∷ more → IsTrue (sign s) → CoreOrRow (offset_core_at fault date x.1 s more)
    unfolding offset_core_at
    offset_read s more next signs = then_read fault _ _ _ _ _ _ (clock_read fault true Clock.Offset more)
        (after_offset_read s more next signs)
        (λ row f. lift (of_clock Clock.Offset) (bracketed kind) row text ((prior ++ h.0) ++ (Plain s ∷ [])) more (time_text ∙ rw next (simp append_assoc))
        (λ l. (signed s signs, refl)) f)

    -- The next code unit is `Z` or `z`.
    zulu_read : (z : ℕ) (more : Text) → rest ≡ Plain z ∷ more → IsTrue (zulu z)
        → CoreOrRow (core_end_at fault (of_offset after_zulu) (core_of date (Some x.1) (Some Z)) more)
    zulu_read z more next is_zulu = closing_read (of_offset after_zulu) (core_of date (Some x.1) (Some Z)) (prior ++ (h.0 ++ (Plain z ∷ []))) more
        (is_text (Plain z ∷ []) more next)
        (has_core (Plain z ∷ []) (Some Z) (inr ((z, refl, is_zulu), refl)))
        (one zulu)
        (λ place e at. (prior ++ h.0, Plain z ∷ more, time_text ∙ rw next, (timed, refl), (Plain z ∷ [], more, refl, (z, refl, is_zulu), at)))

    -- No offset follows.
    no_offset_read : NotNext sign rest → NotNext zulu rest → CoreOrRow (core_end_at fault (line_after Clock.Time x.0) (core_of date (Some x.1) None) rest)
    no_offset_read no_sign no_zulu = end_read (line_after Clock.Time x.0) (core_of date (Some x.1) None) (prior ++ (h.0 ++ [])) rest
        (is_text [] rest refl)
        (has_core [] None refl)
        (λ c after ends out. let stops = or_from _ _ (or_from _ _ (not_next sign rest c after no_sign ends) (not_next zulu rest c after no_zulu ends)) out in
        lift (later Clock.Time) (bracketed kind) _ text prior body is (λ l. (stands l.0 l.1, refl))
        (clock_stops fault true Clock.Time body x (other rest) InvalidEnd rest h (c, after, ends, stops, refl, refl)))
        (λ after ends. absurd (not_bad sign rest after no_sign ends))

    after_time_read : CoreOrRow (after_time_at fault date x rest)
    unfolding after_time_at
    after_time_read =
        let at_bad : (more : Text) → rest ≡ Bad ∷ more → ⊥ = λ more next. closed_not_bad Clock.Time x.0 rest more h.3 next in
        next_read (bad_after fault Clock.Time x.0) sign _ _ fault rest _ _
        (λ more next. absurd (at_bad more next))
        offset_read
        (λ no_sign. next_read (bad_after fault Clock.Time x.0) zulu
        (λ z more. core_end_at fault (of_offset after_zulu) (core_of date (Some x.1) (Some Z)) more) _ fault rest _ _
        (λ more next. absurd (at_bad more next))
        zulu_read
        (no_offset_read no_sign))

-- ---- dates and times

-- A table line of dates, at the beginning of a text.
before_date : (l : DateLine) → BeforeDate date_time l []
before_date year_start = refl
before_date l = refl

module _ {E : Type 0} (fault : Row → E) (text : Text) where
  -- A date and a separator were read.
  time_core_read : (ds separator body : Text) (date : DateRecord) → text ≡ (ds ++ separator) ++ body → IsDate ds date → one date_time_separator separator
      → ReadsCore fault date_time text (time_core_at fault date body)
  unfolding time_core_at
  time_core_read ds separator body date is is_date separates =
      let before : DateAndSeparator (ds ++ separator) = (ds, separator, refl, (date, is_date), separates) in
      then_read fault _ _ _ _ _ _ (clock_read fault true Clock.Time body)
      (after_time_read fault date_time text IsDateTimeCore (Some date) (ds ++ separator) body is (λ l later_line. before)
      (λ ts offsets t offset is_time o.
      inr (date_and_time ds separator ts offsets date t offset (append_assoc ds separator (ts ++ offsets)) is_date separates is_time o))
      (λ ts t is_time. (ds ++ separator, ts, refl, before, (t, is_time))))
      (λ row f. lift (of_clock Clock.Time) (bracketed date_time) row text (ds ++ separator) body is (λ l. (before, refl)) f)

  -- The row for what follows a date.
  after_date_fits : (place : Place) (e : Fault) (front rest : Text) → text ≡ front ++ rest → some IsDate front
      → Stops (line_of true (of_date after_date)) place e rest
      → FitsCore date_time text (row_of (of_date after_date) place e)
  after_date_fits place e front rest is date at = ([], text, refl, (refl, refl), (front, rest, is, date, at))

  -- A date was read, and no separator follows.
  no_time_read : (date : DateRecord) (rest : Text) → DateFront text date rest → NotNext date_time_separator rest
      → ReadsCore fault date_time text (core_end_at fault (of_date after_date) (core_of (Some date) None None) rest)
  no_time_read date rest h closed = end_read fault date_time text IsDateTimeCore (of_date after_date) (core_of (Some date) None None) h.0 rest h.1
      (inl (date, h.2, refl))
      (λ c more next out. let stops = or_from _ _ (not_next date_time_separator rest c more closed next) out in
      after_date_fits (other rest) InvalidEnd h.0 rest h.1 (date, h.2) (c, more, next, stops, refl, refl))
      (λ more next. absurd (not_bad date_time_separator rest more closed next))

  after_date_read : (date : DateRecord) (rest : Text) → DateFront text date rest → ReadsCore fault date_time text (after_date_at fault date rest)
  unfolding after_date_at
  after_date_read date rest h = next_read (λ left. fault (row_of (of_date after_date) (bad left) NonAsciiCodePoint)) date_time_separator _ _ fault rest _ _
      (λ more next. let row_fits = after_date_fits (bad rest) NonAsciiCodePoint h.0 rest h.1 (date, h.2) (more, next, refl, refl) in
      (row_of (of_date after_date) (bad rest) NonAsciiCodePoint, refl, row_fits))
      (λ c more next separates. time_core_read h.0 (Plain c ∷ []) more date (further text h.0 rest (Plain c ∷ []) more h.1 next) h.2 (c, refl, separates))
      (no_time_read date rest h)

  date_time_read : ReadsCore fault date_time text (date_time_core_at fault text)
  unfolding date_time_core_at
  date_time_read = then_read fault _ _ _ _ _ _ (date_read fault true text)
      after_date_read
      (λ row f. lift of_date (bracketed date_time) row text [] text refl (λ l. (before_date l, refl)) f)

-- ---- cores that are only a date

module _ {E : Type 0} (fault : Row → E) (kind : CoreKind) (text : Text) (part : Text → DateRecord → Type 0) (name : LineName) where
  -- The row for what follows the date.
  abbrev AfterFits : Type 0
  AfterFits = (place : Place) (e : Fault) (front rest : Text) → text ≡ front ++ rest → some part front
      → Stops (line (some part) opening ok (always InvalidEnd)) place e rest
      → FitsCore kind text (row_of name place e)

  alone_read : AfterFits → (read : Read E DateRecord)
      → OnRead fault read (FrontIs part text) (FitsCore kind text)
      → ReadsAs fault kind text (DateAlone part) (date_alone_at fault name read)
  alone_read fits read gives = then_read fault read _ _ _ _ _ gives
      (λ date rest h. closing_read fault kind text (DateAlone part) name (core_of (Some date) None None) h.0 rest h.1 (date, h.2, refl) (some part)
      (λ place e at. fits place e h.0 rest h.1 (date, h.2) at))
      (λ row f. f)

-- ---- times without a date

-- The text before a table line that comes after the first digit of the hour.
marked_line : (profile : Profile) (l : ClockLine) (prior : Text) → IsLater l → TimeMark prior → BeforeTime (time_of_day profile) l prior
marked_line profile hour_start prior is_later mark = absurd is_later
marked_line profile l prior is_later mark = mark

-- The text before any table line of a time, if it is `T` or `t`.
lettered_line : (profile : Profile) (l : ClockLine) (prior : Text) → one time_letter prior → BeforeTime (time_of_day profile) l prior
lettered_line profile hour_start prior letter = letter
lettered_line profile l prior letter = inr letter

-- The end of the text or a bracket follows what was read.
split_ends : (text front : Text) (has_bracket : Bool) (rest : Text) → Splits text front has_bracket rest
    → (after : Text) × (text ≡ front ++ after) × AtCoreEnd after
split_ends text front true rest is = (Plain 91 ∷ rest, is, inr (Plain 91 ∷ [], rest, refl, (91, refl, refl), tt))
split_ends text front false rest is = ([], is.0 ∙ sym (append-nil front), inl refl)

-- What is true if reading an optional `T` or `t` and a time returned this result.
abbrev MarkedFront : Text → OpenTime → Text → Type 0
MarkedFront text x rest = (marks body : Text) × (text ≡ marks ++ body) × TimeMark marks × TimeFront Clock.Time body x rest

module _ {E : Type 0} (fault : Row → E) (profile : Profile) (text : Text) where
  start_stops : (place : Place) (e : Fault) → Stops (line_of true (of_time time_start)) place e text
      → IsRowFault fault (fault (row_of (of_time time_start) place e)) (FitsCore (time_of_day profile) text)
  start_stops place e at = (row_of (of_time time_start) place e, refl, ([], text, refl, (refl, refl), ([], text, refl, refl, at)))

  hour_digit_read : (body : Text) → text ≡ body → NotNext time_letter body
      → OnRead fault (next_by (hour_look fault) body) (λ c rest. (text ≡ Plain c ∷ rest) × IsTrue (digit c)) (FitsCore (time_of_day profile) text)
  unfolding next_by look_at
  hour_digit_read [] is closed = start_stops (end []) abrupt_digit (is, refl, sym is)
  hour_digit_read (Bad ∷ rest) is closed = absurd closed
  hour_digit_read (Plain c ∷ rest) is closed =
      read_if fault (digit c) _ _ _ _ (λ d. (is, d)) (λ out. start_stops (other (Plain c ∷ rest)) TimeHour (c, rest, is, or_from _ _ out closed, refl, sym is))

  lone_time_read : NotNext time_letter text → OnRead fault (lone_time_at fault text) (MarkedFront text) (FitsCore (time_of_day profile) text)
  unfolding lone_time_at
  lone_time_read closed = then_read fault (next_by (hour_look fault) text) _ _ _ _ _ (hour_digit_read text refl closed)
      (λ c rest h. read_weaker fault (hour_from fault Clock.Time c rest) _ _ _ _ (hour_read fault true Clock.Time text c rest h.1 h.0)
      (λ x left g. ([], text, refl, inl refl, g))
      (λ row f. lift (later Clock.Time) (bracketed (time_of_day profile)) row text [] text refl (λ l. (marked_line profile l.0 [] l.1 (inl refl), refl)) f))
      (λ row f. f)

  marked_time_read : OnRead fault (marked_time_at fault text) (MarkedFront text) (FitsCore (time_of_day profile) text)
  unfolding marked_time_at
  marked_time_read = next_read (λ left. fault (row_of (of_time time_start) (bad left) NonAsciiCodePoint)) time_letter _ _ fault text (MarkedFront text) _
      (λ more next. start_stops (bad text) NonAsciiCodePoint (more, next, refl, refl))
      (λ c rest next letter. read_weaker fault (clock_at fault Clock.Time rest) _ _ _ _ (clock_read fault true Clock.Time rest)
      (λ x left g. (Plain c ∷ [], rest, next, inr (c, refl, letter), g))
      (λ row f. lift (of_clock Clock.Time) (bracketed (time_of_day profile)) row text (Plain c ∷ []) rest next
      (λ l. (lettered_line profile l (Plain c ∷ []) (c, refl, letter), refl)) f))
      lone_time_read

  marked_core_read : ReadsAs fault (time_of_day profile) text MarkedTime (marked_core_at fault text)
  unfolding marked_core_at
  marked_core_read = then_read fault (marked_time_at fault text) _ _ _ _ _ marked_time_read
      (λ x rest h. after_time_read fault (time_of_day profile) text MarkedTime None h.0 h.1 h.2 (λ l is_later. marked_line profile l h.0 is_later h.3)
      (λ ts offsets t offset is_time o. record {
        marks = h.0;
        times = ts;
        offsets = offsets;
        time = t;
        offset = offset;
        is = refl;
        mark = h.3;
        is_time = is_time;
        is_offset = o;
        has = refl;
      })
      (λ ts t is_time. (h.0, ts, refl, h.3, (t, is_time)))
      x rest h.4)
      (λ row f. f)

  -- The test of the beginning of the text, after the time was read.
  tested_read : (x : ClosedCore) (rest : Text) → FrontOf MarkedTime text x rest
      → ReadsCore fault (time_of_day profile) text (unfronted fault profile text (Ok (x, rest)))
  tested_read x rest h =
      let ends = split_ends text h.0 x.1 rest h.1 in
      let time : ReadsAsTime text = (h.0, ends.0, ends.1, (x.0, h.2), ends.2) in
      unfronted_read profile text fault (Ok (x, rest)) (CoreFront (time_of_day profile) text) (FitsCore (time_of_day profile) text)
      (λ left begins. ([], text, refl, ((refl, time, refl), refl), (begins.0, left, begins.1, begins.2, (refl, refl))))
      (λ left begins none. ([], text, refl, ((refl, time, none), refl), (begins.0, left, begins.1, begins.2, (refl, refl))))
      (λ none. (h.0, h.1, (h.2, no_front_of profile h.0 ends.0 (subst (HasNoDateFront profile) ends.1 none))))

  time_alone_read : ReadsCore fault (time_of_day profile) text (time_alone_core_at fault profile text)
  unfolding time_alone_core_at
  time_alone_read = then_read fault (marked_core_at fault text) _ _ _ _ _ marked_core_read tested_read (λ row f. f)

-- ---- date-times of RFC 3339

module _ {E : Type 0} (fault : Row → E) (text : Text) where
  -- The end of a date-time, at one of its table lines.
  date_time_ended : (name : DateTimeLine) (shape : Shape) (prior rest : Text) (core : Core) → text ≡ prior ++ rest → IsDateTime prior core
      → ((row : Row) → (row.name ≡ of_date_time name) × Stops (line shape opening ok (always InvalidEnd)) row.place row.error rest → FitsDateTime fault true text row)
      → OnRead fault (core_end_at fault (of_date_time name) core rest) (FrontOf IsDateTime text) (FitsDateTime fault true text)
  unfolding core_end_at
  date_time_ended name shape prior rest core is d fits =
      then_read fault _ _ _ _ _ _ (peek_line_read fault (of_date_time name) shape opening (always InvalidEnd) rest)
      (at_next fault internet_date_time text IsDateTime (of_date_time name) core prior rest is d) fits

  internet_date_time_read : ReadsCore fault internet_date_time text (internet_date_time_core_at fault text)
  internet_date_time_read = read_weaker fault (internet_date_time_core_at fault text) (FrontOf IsDateTime text) _ (FitsDateTime fault true text) _
      (rfc_date_time_read fault true text (core_end_at fault) (FrontOf IsDateTime text)
      (λ prior rest core is d front. date_time_ended after_utc (ThroughTime then one zulu) prior rest core is d
      (λ row h. fits_in of_date_time true after_utc row text prior rest h.0 is front h.1))
      (λ prior rest core is d front. date_time_ended (after_field offset_minute_field) (Through offset_minute_field) prior rest core is d
      (λ row h. fits_in of_date_time true (after_field offset_minute_field) row text prior rest h.0 is front h.1)))
      (λ x rest h. h)
      (λ row h. lift of_date_time (bracketed internet_date_time) row text [] text refl (λ l. (refl, refl)) h)

-- Reading a core of any kind.
pub core_read : {E : Type 0} (fault : Row → E) (text : Text) (kind : CoreKind) → ReadsCore fault kind text (core_at fault kind text)
core_read fault text date_time = date_time_read fault text
core_read fault text internet_date_time = internet_date_time_read fault text
core_read fault text year_month = alone_read fault year_month text IsYearMonth (of_year_month after_year_month)
    (λ place e front rest is date at. ([], text, refl, (refl, refl), (front, rest, is, date, at))) (year_month_at fault text) (year_month_read fault text)
core_read fault text (month_day profile) = alone_read fault (month_day profile) text (IsMonthDay profile) (of_month_day (after_month_day profile))
    (λ place e front rest is date at. ([], text, refl, ((refl, refl), refl), (front, rest, is, date, at))) (month_day_at fault profile text)
    (month_day_read fault profile text)
core_read fault text (time_of_day profile) = time_alone_read fault profile text
