-- The statements that the clauses of private functions use, and the meaning of the types of the code. No public clause uses them.
use Rattle.ixdtf_grammar.specs.declared.reason.Reason.{Reason}
use Rattle.std.specs.Prelude.{◌≡◌, ◌↔◌, ℕ, Bool, IsTrue, IsFalse, OnOk, IfErr, ◌+◌, ◌≤◌, ◌∷◌, [], map, length, drop, Option, Some, None, Result, Ok, Err, ◌++◌}
use Rattle.std.specs.Prelude.{if◌then◌else◌}
use Rattle.ixdtf_grammar.specs.declared.{profile.Profile.Profile, records.{DateRecord.DateRecord, IxdtfParseRecord.IxdtfParseRecord}}
use Rattle.ixdtf_grammar.specs.language.{Letters.{Letter, Letter.Plain, Text, ◌or◌, none, digit, hyphen, closing}, Fractions.{FractionParts, fraction_of}}
use Rattle.ixdtf_grammar.specs.language.{Times.{Clock, Clock as clocks}, Cores.{Core, core_of}, Readers.Reader, Languages.Parsed}
use Rattle.ixdtf_grammar.specs.{table.{Faults.Fault, LineNames.{LineName.of_clock, ClockLine.{hour_digit, hour_range}}, Outcomes.NoRowFits}, Views.Unread}
use Rattle.ixdtf_grammar.specs.{Handlers.{UnhandledRecord, UnhandledFault, UnhandledOnlyFault}, Laws.InNoOther}
use Rattle.ixdtf_reading.specs.{reading.Looks.{Read, Look, Placed, before, look_for, look_or_end, digit_look, next_by, two_digits_by, in_range, ◌>>=◌, error_of, digit_run}}
use Rattle.ixdtf_reading.specs.reading.{Stops.{fault_at, reason_of}, Times.{OpenTime, after_hour_at}, Cores.{ClosedCore, after_time_at}}

-- The result of a private function. `view` is applied to its value.
abbrev pub yielded : {X Y : Type 0} → (X → Y) → Result X Reason → Result Y Reason
yielded view (Ok x) = Ok (view x)
yielded view (Err stop) = Err stop

-- As above. The `Reason` also has the remaining text.
abbrev pub yielded_at : {X Y : Type 0} → (X → Y) → Result X Reason → Text → Result Y Placed
yielded_at view (Ok x) left = Ok (view x)
yielded_at view (Err stop) left = Err (stop, left)

-- The result of a private function, as `yielded` gives it, is `wanted`.
abbrev pub Yields : {X Y : Type 0} → (X → Y) → Result X Reason → Result Y Reason → Type 0
Yields view (Ok x) wanted = wanted ≡ Ok (view x)
Yields view (Err stop) wanted = wanted ≡ Err stop

-- As above. The `Reason` also has the remaining text.
abbrev pub YieldsAt : {X Y : Type 0} → (X → Y) → Result X Reason → Text → Result Y Placed → Type 0
YieldsAt view (Ok x) left wanted = wanted ≡ Ok (view x)
YieldsAt view (Err stop) left wanted = wanted ≡ Err (stop, left)

-- The code unit that a look at an index found. At a bad code unit, the look stops.
abbrev pub stopped_by : Reason → Result (Option ℕ) Fault → Result (Option ℕ) Reason
stopped_by stop (Ok found) = Ok found
stopped_by stop (Err fault) = Err stop

-- The result of a function, and the remaining input after it, are what the reading function returns for the input before it.
abbrev pub Reads : {X Y : Type 0} → (ℕ → Letter) → (X → Y) → Unread → Result X Reason → Unread → (Text → Read Placed Y) → Type 0
Reads letter view old (Ok x) new reading = reading (map letter old.rest) ≡ Ok (view x, map letter new.rest)
Reads letter view old (Err stop) new reading = reading (map letter old.rest) ≡ Err (stop, map letter new.rest)

-- The reading function reads after the first code unit of the text.
abbrev pub behind : {X : Type 0} → (Text → X) → Text → X
behind reading text = reading (drop 1 text)

-- As `Reads`. But the function also consumes the code unit before the input of the reading function. If it succeeds, it does not consume
-- the last code unit that the reading function consumes.
abbrev pub ReadsBetween : {X Y : Type 0} → (ℕ → Letter) → (X → Y) → Unread → Result X Reason → Unread → (Text → Read Placed Y) → Type 0
ReadsBetween letter view old (Ok x) new reading = reading (drop 1 (map letter old.rest)) ≡ Ok (view x, drop 1 (map letter new.rest))
ReadsBetween letter view old (Err stop) new reading = reading (drop 1 (map letter old.rest)) ≡ Err (stop, map letter new.rest)

-- A public function returns the value of a private function, or the error of its `Reason`. `brackets` says whether the reader reads
-- brackets, and `left` is the text from the position of the `Reason` on.
abbrev pub Settles : {X E : Type 0} → (E → Fault) → Bool → Text → Result X Reason → Result X E → Type 0
Settles named brackets left (Ok x) (Ok y) = y ≡ x
Settles named brackets left (Ok x) (Err e) = ⊥
Settles named brackets left (Err stop) (Ok y) = ⊥
Settles named brackets left (Err stop) (Err e) = named e ≡ fault_at brackets stop left

-- If a reader ended at a reason, its error agrees with this reason and with this position.
abbrev pub StandsAt : {X E : Type 0} → (Reason → ℕ → E → Type 0) → ℕ → Result X Reason → Result X E → Type 0
StandsAt stands at (Err reason) (Err e) = stands reason at e
StandsAt stands at (Err reason) (Ok y) = Unit {0}
StandsAt stands at (Ok x) result = Unit {0}

-- Besides one access for each code unit that was consumed, at most `more` accesses were made. The count did not decrease.
abbrev pub Spends : ℕ → Unread → Unread → Type 0
Spends more old new = (new.looks + length new.rest ≤ old.looks + length old.rest + more) × (old.looks ≤ new.looks)

-- The limit of `Spends`. Also, at most `all` accesses were made in all.
abbrev pub SpendsInAll : ℕ → ℕ → Unread → Unread → Type 0
SpendsInAll more all old new = Spends more old new × (new.looks ≤ old.looks + all)

-- The limit of `Spends`, with `found` if the function succeeded, and with `more` if it returned a `Reason`.
abbrev pub SpendsOr : {X : Type 0} → ℕ → ℕ → Unread → Result X Reason → Unread → Type 0
SpendsOr more found old (Ok x) new = Spends found old new
SpendsOr more found old (Err e) new = Spends more old new

-- What a variant without a handler promises. The reply to each annotation is the annotation itself.
pub record UnhandledForm (reader : Reader) (text : Text) (result : Result Parsed Fault) : Type 0 where
  pub ok : (found : Parsed) → (result ≡ Ok found) ↔ UnhandledRecord reader text found
  pub err : IfErr result (λ fault. UnhandledFault reader text fault)
  pub no_row : OnOk result (NoRowFits reader text)
  pub no_other_reader : OnOk result ((profile : Profile) → InNoOther profile reader text)
  pub only : IfErr result (λ fault. UnhandledOnlyFault reader text fault)

-- The function returned the value, and `test` is true; or it returned `stop`, and `test` is false.
abbrev pub Checks : {X Y : Type 0} → (X → Y) → Result X Reason → Y → Bool → Reason → Type 0
Checks view (Ok x) wanted test stop = (view x ≡ wanted) × IsTrue test
Checks view (Err e) wanted test stop = (e ≡ stop) × IsFalse test

-- ---- looks, as the code makes them

-- The look that expects the end of the text.
abbrev pub end_look : Reason → Look Placed
end_look stop = look_or_end none stop

-- The look for a hyphen or a digit.
abbrev pub hyphen_look : Reason → Look Placed
hyphen_look stop = look_for (hyphen or digit) stop

-- The look for the `]` of a bracket.
abbrev pub closing_look : Reason → Look Placed
closing_look stop = look_for closing stop

-- Reads the digits of a fraction after its first digits `front`. Returns the fraction of all these digits. It stops at a bad code unit.
abbrev pub more_digits_at : Reason → Text → Text → Read Placed FractionParts
more_digits_at stop front text = digit_run (before stop) text >>= λ more. Ok (fraction_of (front ++ more.0), more.1)

-- Reads the digits of a fraction. It stops at `start` if there is no digit, and at `digits` if a bad code unit follows the digits.
unfoldable pub fraction_by : Reason → Reason → Text → Read Placed FractionParts
fraction_by start digits text = next_by (digit_look start) text >>= λ first. more_digits_at digits (Plain first.0 ∷ []) first.1

-- Reads two digits, whose number must be at most `greatest`. It stops at `first` or `second` if a digit is missing, and at `past` if
-- the number is greater.
abbrev pub number_at_most : Reason → Reason → ℕ → Reason → Text → Read Placed ℕ
number_at_most first second greatest past text = two_digits_by first second text >>= in_range greatest (before past)

-- Reads a time, or an offset after its sign. It stops at `first` if the first digit is missing.
unfoldable pub clock_by : Reason → Clock → Text → Read Placed OpenTime
clock_by first clock text = number_at_most first (reason_of (of_clock clock hour_digit)) 23 (reason_of (of_clock clock hour_range)) text >>= λ hour. after_hour_at error_of clock hour.0 hour.1

-- Reads a time and an optional offset, after `date`, if there is one. It stops at `first` if the first digit is missing.
unfoldable pub timed_core_at : Reason → Option DateRecord → Text → Read Placed ClosedCore
timed_core_at first date text = clock_by first clocks.Time text >>= λ time. after_time_at error_of date time.0 time.1

-- ---- records

-- The core of a record: its date, its time and its offset.
abbrev pub core_in : {T U : Type 0} → IxdtfParseRecord T U → Core
core_in found = core_of found.date found.time found.offset

-- A record has no zone and no calendar.
abbrev pub HasNoBrackets : {T U : Type 0} → IxdtfParseRecord T U → Type 0
HasNoBrackets found = (found.tz ≡ None) × (found.calendar ≡ None)

-- The zone and the calendar of a record have not changed.
abbrev pub KeepsBrackets : {T U : Type 0} → IxdtfParseRecord T U → IxdtfParseRecord T U → Type 0
KeepsBrackets old new = (new.tz ≡ old.tz) × (new.calendar ≡ old.calendar)
