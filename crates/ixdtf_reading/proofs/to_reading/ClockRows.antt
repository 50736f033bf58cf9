-- Reading functions that read something, then a time or an offset, and then more.
-- They return each row of the table lines of the time or the offset.
use Rattle.std.proofs.Common.{◌≡◌, ℕ, IsTrue, [], ◌∷◌, ◌++◌, Err, refl, ◌∙◌, inl, inr, Bool}
use Rattle.ixdtf_grammar.specs.{declared.records.TimeRecord.TimeRecord, language.{Shapes.some, Times.{Clock, TimeShape, ClockOf, TimeShape.hours}}}
use Rattle.ixdtf_grammar.specs.language.{Times.TimeShape.{basic_minutes, colon_minutes, seconds, fractions}, Letters.{Text, digit, Letter.Plain}}
use Rattle.ixdtf_grammar.specs.table.{Faults.Fault, LineNames.{ClockLine, LineName, LineName.of_clock, ClockLine.{hour_start, after_hour, after_basic_minute}}}
use Rattle.ixdtf_grammar.specs.table.{LineNames.ClockLine.{after_colon_minute, after_second, after_fraction}, Lines.{line_of, follow_of}, Rows.{Row, Place}}
use Rattle.ixdtf_grammar.specs.table.Rows.{Stops}
use Rattle.ixdtf_reading.specs.reading.{Looks.{Read, ◌>>=◌, row_of}, Times.{OpenTime, line_after, hour_from, clock_at}}
use Rattle.ixdtf_reading.proofs.{parts.Looks.{ReadsOver, RowsRead, goes, stops}, to_reading.Times.{Closed, IsLater, StopsAfter, OpenRow, time_takes, open_row}}
use Rattle.ixdtf_reading.proofs.to_reading.Times.{inner_rows}

-- Each row of the table line is returned, after the text `prior`.
abbrev pub RowsBehind : {E A : Type 0} → (Row → E) → Bool → (Text → Read E A) → Text → LineName → Type 0
RowsBehind fault brackets whole_at prior name = RowsRead fault brackets (λ body. whole_at (prior ++ body)) name

-- The function that reads what follows a time returns each row of the table line after the time.
abbrev pub Refuses : {E A : Type 0} → (Row → E) → Bool → Clock → (OpenTime × Text → Read E A) → Type 0
Refuses fault brackets clock after = (shape : TimeShape) (t : TimeRecord) (place : Place) (e : Fault) (rest : Text)
    → StopsAfter (follow_of brackets clock) place e rest
    → after ((shape, t), rest) ≡ Err (fault (row_of (line_after clock shape) place e))

-- Reading goes over the text before a time, then reads the time by `start`, and then what follows the time.
pub record TimeLead {E A : Type 0} (fault : Row → E) (clock : Clock) (whole_at : Text → Read E A) (after : OpenTime × Text → Read E A)
    (prior : Text) : Type 0 where
  pub start : Text → Read E OpenTime
  pub starts : (c : ℕ) → IsTrue (digit c) → ReadsOver start (Plain c ∷ []) (hour_from fault clock c)
  pub over : (body : Text) → whole_at (prior ++ body) ≡ (start body >>= after)

-- ---- a time that begins with its hour

module _ {E : Type 0} (fault : Row → E) (clock : Clock) where
  pub clock_starts : (c : ℕ) → IsTrue (digit c) → ReadsOver (clock_at fault clock) (Plain c ∷ []) (hour_from fault clock c)
  unfolding clock_at
  clock_starts c d = record { over = λ rest. rw (goes fault (of_clock clock hour_start) c rest tt d) refl }

  pub hour_start_row : (brackets : Bool) → RowsRead fault brackets (clock_at fault clock) (of_clock clock hour_start)
  unfolding clock_at
  hour_start_row brackets place e front rest f at = rw (f, stops fault (of_clock clock hour_start) place e rest tt at)

  abbrev pub clock_lead : {A : Type 0} (whole_at : Text → Read E A) (after : OpenTime × Text → Read E A) (prior : Text)
      → ((body : Text) → whole_at (prior ++ body) ≡ (clock_at fault clock body >>= after)) → TimeLead fault clock whole_at after prior
  clock_lead whole_at after prior over = record { start = clock_at fault clock; starts = clock_starts; over = over }

-- ---- a reading function that continues after a time

module _ {E A : Type 0} (fault : Row → E) (clock : Clock) (whole_at : Text → Read E A) (after : OpenTime × Text → Read E A) (prior : Text)
    (lead : TimeLead fault clock whole_at after prior) where
  -- A time is read, if the next code unit does not continue it.
  pub over_time : (shape : TimeShape) (ts : Text) (t : TimeRecord) (rest : Text) → ClockOf clock shape ts t → Closed clock shape rest
      → whole_at (prior ++ (ts ++ rest)) ≡ after ((shape, t), rest)
  over_time shape ts t rest x closed = lead.over (ts ++ rest) ∙ rw (time_takes fault clock lead.start lead.starts shape ts t rest x closed)

  -- A fault in the time is returned.
  in_time : (body : Text) (e : E) → lead.start body ≡ Err e → whole_at (prior ++ body) ≡ Err e
  in_time body e h = lead.over body ∙ rw h

  module _ (brackets : Bool) where
    -- A row of `start` is returned.
    pub start_rows : (name : LineName) → RowsRead fault brackets lead.start name → RowsBehind fault brackets whole_at prior name
    start_rows name h place e front rest f at = in_time (front ++ rest) _ (h place e front rest f at)

    module _ (refuses : Refuses fault brackets clock after) where
      open_rows : (shape : TimeShape) (place : Place) (e : Fault) (front rest : Text) → some (ClockOf clock shape) front
          → Stops (line_of brackets (line_after clock shape)) place e rest
          → whole_at (prior ++ (front ++ rest)) ≡ Err (fault (row_of (line_after clock shape) place e))
      open_rows shape place e front rest (t, x) at = by_row (open_row fault clock lead.start lead.starts brackets shape place e front rest t x at)
        where
          by_row : OpenRow fault clock lead.start lead.starts brackets shape place e front rest
              → whole_at (prior ++ (front ++ rest)) ≡ Err (fault (row_of (line_after clock shape) place e))
          by_row (inl h) = in_time (front ++ rest) _ h
          by_row (inr h) = over_time shape front t rest x h.0 ∙ refuses shape t place e rest h.1

      -- Every row of the table lines of a time, except that of the first digit.
      pub later_rows : (l : ClockLine) → IsLater l → RowsBehind fault brackets whole_at prior (of_clock clock l)
      later_rows hour_start is_later place e front rest f at = absurd is_later
      later_rows after_hour is_later place e front rest f at = open_rows hours place e front rest f at
      later_rows after_basic_minute is_later place e front rest f at = open_rows basic_minutes place e front rest f at
      later_rows after_colon_minute is_later place e front rest f at = open_rows colon_minutes place e front rest f at
      later_rows after_second is_later place e front rest f at = open_rows seconds place e front rest f at
      later_rows after_fraction is_later place e front rest f at = open_rows fractions place e front rest f at
      later_rows l is_later place e front rest f at =
          in_time (front ++ rest) _ (inner_rows fault clock lead.start lead.starts brackets l tt place e front rest f at)

-- ---- a reading function that continues after a time that begins with its hour

module _ {E A : Type 0} (fault : Row → E) (brackets : Bool) (clock : Clock) (whole_at : Text → Read E A) (after : OpenTime × Text → Read E A) (prior : Text)
    (over : (body : Text) → whole_at (prior ++ body) ≡ (clock_at fault clock body >>= after)) where
  abbrev lead : TimeLead fault clock whole_at after prior
  lead = clock_lead fault clock whole_at after prior over

  pub over_clock : (shape : TimeShape) (ts : Text) (t : TimeRecord) (rest : Text) → ClockOf clock shape ts t → Closed clock shape rest
      → whole_at (prior ++ (ts ++ rest)) ≡ after ((shape, t), rest)
  over_clock = over_time fault clock whole_at after prior lead

  -- Every row of the table lines of a time.
  pub clock_rows : Refuses fault brackets clock after → (l : ClockLine) → RowsBehind fault brackets whole_at prior (of_clock clock l)
  clock_rows refuses hour_start = start_rows fault clock whole_at after prior lead brackets (of_clock clock hour_start) (hour_start_row fault clock brackets)
  clock_rows refuses l = later_rows fault clock whole_at after prior lead brackets refuses l tt
