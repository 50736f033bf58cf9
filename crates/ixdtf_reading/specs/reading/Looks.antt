-- The parts of all reading functions. A reading function is a function on texts that has the form of the code. No public clause
-- refers to it. It returns a value and the text after it, or a fault. The argument `fault` makes the fault from a table row:
-- it returns the row itself, or the error of the row.
use Rattle.ixdtf_grammar.specs.declared.reason.Reason.{Reason}
use Rattle.std.specs.Prelude.{ℕ, Bool, true, zero, suc, [], ◌∷◌, drop, Option, Some, None, Result, Ok, Err, nat_le, if◌then◌else◌}
use Rattle.ixdtf_grammar.specs.{language.{Letters.{Text, Class, digit, none, any, Letter.{Plain, Bad}}, Digits.{decimal, padded_digits}}, table.Faults.Fault}
use Rattle.ixdtf_grammar.specs.table.{Faults.Fault.NonAsciiCodePoint, LineNames.LineName, Lines.{Line, Ending, line_of}}
use Rattle.ixdtf_grammar.specs.table.{Lines.{Line.{line, scanned, whole}, Ending.{ok, error}}, Rows.{Row, Place, left_at, Place.{end, other, bad, anywhere}}}
use Rattle.ixdtf_reading.specs.{reading.Stops.reason_of}

-- The result of a reading function: a value and the text after it, or a fault.
abbrev pub Read : Type 0 → Type 0 → Type 0
Read E A = Result (A × Text) E

infixl 10 ◌>>=◌
abbrev pub ◌>>=◌ : {E A B : Type 0} → Result A E → (A → Result B E) → Result B E
(Ok x) >>= f = f x
(Err e) >>= f = Err e

abbrev pub row_of : LineName → Place → Fault → Row
row_of name place fault = record { name = name; place = place; error = fault }

-- A `Reason`, and the rest of the text from its position on.
abbrev pub Placed : Type 0
Placed = Reason × Text

-- A `Reason` at the beginning of a text. With `always_before`, it does not depend on the code unit. With `end_before`, the text may end.
abbrev pub before : Reason → Text → Placed
before stop text = (stop, text)

abbrev pub always_before : Reason → ℕ → Text → Placed
always_before stop c text = (stop, text)

abbrev pub end_before : Reason → Text → Option Placed
end_before stop text = Some (stop, text)

abbrev pub may_end : Text → Option Placed
may_end text = None

-- The `Reason` of a row, and the rest of the text from its position on.
abbrev pub error_of : Row → Placed
error_of row = (reason_of row.name, left_at row.place)

-- One look at the next code unit. `goes_on` has the code units that it accepts. The other fields are the faults at the end of the
-- text, at any other code unit and at `Bad`.
pub record Look (E : Type 0) : Type 0 where
  pub goes_on : Class
  pub at_end : Text → Option E
  pub at_other : ℕ → Text → E
  pub at_bad : Text → E

abbrev pub end_of : {E : Type 0} → (Row → E) → LineName → Ending → Text → Option E
end_of fault name ok text = None
end_of fault name (error e) text = Some (fault (row_of name (end text) e))

abbrev pub look_of : {E : Type 0} → (Row → E) → LineName → Line → Look E
look_of fault name (line front goes_on at_end at_other) = record {
  goes_on = goes_on;
  at_end = end_of fault name at_end;
  at_other = λ c text. fault (row_of name (other text) (at_other c));
  at_bad = λ text. fault (row_of name (bad text) NonAsciiCodePoint);
}
look_of fault name (scanned front e) = record {
  goes_on = any;
  at_end = λ text. Some (fault (row_of name (end text) e));
  at_other = λ c text. fault (row_of name (other text) e);
  at_bad = λ text. fault (row_of name (bad text) NonAsciiCodePoint);
}
look_of fault name (whole front e) = record {
  goes_on = none;
  at_end = λ text. Some (fault (row_of name (anywhere text) e));
  at_other = λ c text. fault (row_of name (anywhere text) e);
  at_bad = λ text. fault (row_of name (anywhere text) e);
}

-- The look of a table line inside a part. It is the same in each reader.
abbrev pub look_at_line : {E : Type 0} → (Row → E) → LineName → Look E
look_at_line fault name = look_of fault name (line_of true name)

-- The look for a code unit of the class. It stops at the end of the text and at any other code unit.
abbrev pub look_for : Class → Reason → Look Placed
look_for class stop = record {
  goes_on = class;
  at_end = end_before stop;
  at_other = always_before stop;
  at_bad = before stop;
}

-- As above, but the text may end.
abbrev pub look_or_end : Class → Reason → Look Placed
look_or_end class stop = record {
  goes_on = class;
  at_end = may_end;
  at_other = always_before stop;
  at_bad = before stop;
}

abbrev pub digit_look : Reason → Look Placed
digit_look stop = look_for digit stop

-- The next code unit, or `None` at the end of the text. If the next code unit is `Bad`, the fault is `at_bad`.
unfoldable pub look_at : {E : Type 0} → E → Text → Result (Option ℕ) E
look_at at_bad [] = Ok None
look_at at_bad (Bad ∷ rest) = Err at_bad
look_at at_bad (Plain c ∷ rest) = Ok (Some c)

-- The next code unit. At `Bad`, it stops.
abbrev pub seen : Reason → Text → Result (Option ℕ) Placed
seen stop text = look_at (stop, text) text

abbrev pub missing : {E A : Type 0} → Option E → E → Result A E
missing None at_bad = Err at_bad
missing (Some e) at_bad = Err e

abbrev pub needed : {E : Type 0} → Look E → Option ℕ → Text → Read E ℕ
needed l None text = missing (l.at_end text) (l.at_bad text)
needed l (Some c) text = if l.goes_on c then Ok (c, drop 1 text) else Err (l.at_other c text)

-- Consumes the next code unit, if the look accepts it.
unfoldable pub next_by : {E : Type 0} → Look E → Text → Read E ℕ
next_by l text = do
  next ← look_at (l.at_bad text) text
  needed l next text

abbrev pub letter_at : {E : Type 0} → (Row → E) → LineName → Text → Read E ℕ
letter_at fault name text = next_by (look_at_line fault name) text

-- Consumes `n` code units, one after the other, with the same look.
unfoldable pub digits_by : {E : Type 0} → Look E → ℕ → Text → Read E Text
digits_by l zero text = Ok ([], text)
digits_by l (suc n) text =
    next_by l text >>= λ next. digits_by l n next.1 >>= λ more. Ok (Plain next.0 ∷ more.0, more.1)

abbrev pub digits_at : {E : Type 0} → (Row → E) → LineName → ℕ → Text → Read E Text
digits_at fault name n text = digits_by (look_at_line fault name) n text

-- Consumes two digits. It stops at `first` if the first one is missing, and at `second` if the second one is missing.
unfoldable pub two_digits_by : Reason → Reason → Text → Read Placed Text
two_digits_by first second text =
    next_by (digit_look first) text >>= λ next. digits_by (digit_look second) 1 next.1 >>= λ more. Ok (Plain next.0 ∷ more.0, more.1)

-- The two digits of a number below 100.
unfoldable pub two_digits_of : ℕ → Text
two_digits_of number = padded_digits 2 number

-- Replaces the digits that were read by their number.
abbrev pub as_number : {E : Type 0} → Read E Text → Read E ℕ
as_number (Ok x) = Ok (decimal x.0, x.1)
as_number (Err e) = Err e

-- The text can end here: then the result is `None`. Otherwise consumes the next code unit, if the look accepts it.
abbrev pub peeked : {E : Type 0} → Look E → Option ℕ → Text → Read E (Option ℕ)
peeked l None text = Ok (None, text)
peeked l (Some c) text = if l.goes_on c then Ok (Some c, drop 1 text) else Err (l.at_other c text)

unfoldable pub peek_by : {E : Type 0} → Look E → Text → Read E (Option ℕ)
peek_by l text = do
  next ← look_at (l.at_bad text) text
  peeked l next text

-- If the next code unit is of the class, consumes it and continues with `go`. Otherwise continues with `stay`.
abbrev pub chosen : {E A : Type 0} → Class → (ℕ → Text → Result A E) → (Text → Result A E) → Option ℕ → Text → Result A E
chosen class go stay None text = stay text
chosen class go stay (Some c) text = if class c then go c (drop 1 text) else stay text

abbrev pub on_next : {E A : Type 0} → (Text → E) → Class → (ℕ → Text → Result A E) → (Text → Result A E) → Text → Result A E
on_next at_bad class go stay text = look_at (at_bad text) text >>= λ next. chosen class go stay next text

-- Whether the next code unit is a mark. A mark is consumed. Any other code unit that the look accepts is not consumed.
unfoldable pub mark_by : {E : Type 0} → Look E → Class → Text → Read E Bool
mark_by l mark text = do
  next ← next_by l text
  Ok (mark next.0, if mark next.0 then next.1 else text)

abbrev pub mark_at : {E : Type 0} → (Row → E) → LineName → Class → Text → Read E Bool
mark_at fault name mark text = mark_by (look_at_line fault name) mark text

-- The number of the digits `ds.0`, if it is at most `greatest`.
unfoldable pub in_range : {E : Type 0} → ℕ → (Text → E) → Text × Text → Read E ℕ
in_range greatest fault ds = if nat_le (decimal ds.0) greatest then Ok (decimal ds.0, ds.1) else Err (fault ds.1)

-- Reads two digits, whose number must be at most `greatest`.
unfoldable pub number_by : {E : Type 0} → Look E → ℕ → (Text → E) → Text → Read E ℕ
number_by l greatest past text = digits_by l 2 text >>= in_range greatest past

-- All digits at the beginning of the text, and the text after them.
unfoldable pub digit_run : {E : Type 0} → (Text → E) → Text → Read E Text
digit_run at_bad [] = Ok ([], [])
digit_run at_bad (Bad ∷ rest) = Err (at_bad (Bad ∷ rest))
digit_run at_bad (Plain c ∷ rest) =
    if digit c then (digit_run at_bad rest >>= λ more. Ok (Plain c ∷ more.0, more.1)) else Ok ([], Plain c ∷ rest)

-- To unfold this unfolds the reading functions of single code units and digits.
unfoldable pub look_readings : ℕ
unfolding next_by digits_by two_digits_by peek_by mark_by in_range digit_run
look_readings = 0
