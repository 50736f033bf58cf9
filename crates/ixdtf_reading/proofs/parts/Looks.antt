-- One look for a table line. If the line accepts the code unit, reading continues. If a row fits, it is returned.
-- The other direction is also proved.
use Rattle.std.proofs.Common.{◌≡◌, ℕ, zero, suc, ◌<◌, ◌⊎◌, Bool, true, false, IsTrue, IsFalse, [], ◌∷◌, ◌++◌, Ok, Err, Option, Some, None, refl, sym, ap, ◌∙◌}
use Rattle.std.proofs.Common.{inl, inr, arith, append_assoc, Result, if◌then◌else◌, List}
use Rattle.ixdtf_grammar.specs.language.{Letters.{Text, Class, digit, Letter.{Plain, Bad}}, Shapes.{Shape, one, digits}, Readers.{Reader, has_brackets}}
use Rattle.ixdtf_grammar.specs.{language.Brackets.Pair, table.{Faults.{Fault, Fault.NonAsciiCodePoint}, LineNames.LineName, Lines.{Line, line_of, Line.line}}}
use Rattle.ixdtf_grammar.specs.table.{Lines.{Line.{scanned, whole}, Ending, Ending.{ok, error}}, Before.Before, Rows.{Row, Place, Stops, front_of, FitsHere}}
use Rattle.ixdtf_grammar.specs.table.Rows.{Fits, Place.{end, other, bad, anywhere}}
use Rattle.ixdtf_reading.specs.reading.Looks.{Read, Look, ◌>>=◌, row_of, look_of, look_at, next_by, letter_at, digits_by, digits_at, peek_by, on_next}
use Rattle.ixdtf_reading.specs.reading.Looks.{digit_run}

-- The fault is that of a row for which a statement is true.
abbrev pub IsRowFault : {E : Type 0} → (Row → E) → E → (Row → Type 0) → Type 0
IsRowFault fault e stopped = (row : Row) × (e ≡ fault row) × stopped row

-- What is true for the value and the rest that reading returned, or for the row of its fault.
abbrev pub OnRead : {E A : Type 0} → (Row → E) → Read E A → (A → Text → Type 0) → (Row → Type 0) → Type 0
OnRead fault (Ok x) found stopped = found x.0 x.1
OnRead fault (Err e) found stopped = (row : Row) × (e ≡ fault row) × stopped row

-- ---- texts

pub onto : (c : ℕ) {t u : Text} → t ≡ u → Plain c ∷ t ≡ Plain c ∷ u
onto c e = ap (λ t. Plain c ∷ t) e

-- ---- from reading to reading

-- From one reading function to the next one.
pub then_read : {E A B : Type 0} (fault : Row → E) (r : Read E A) (f : A × Text → Read E B) (found : A → Text → Type 0) (stopped : Row → Type 0)
    (found' : B → Text → Type 0) (stopped' : Row → Type 0) → OnRead fault r found stopped
    → ((x : A) (rest : Text) → found x rest → OnRead fault (f (x, rest)) found' stopped') → ((row : Row) → stopped row → stopped' row)
    → OnRead fault (r >>= f) found' stopped'
then_read fault (Ok x) f found stopped found' stopped' h next lifts = next x.0 x.1 h
then_read fault (Err e) f found stopped found' stopped' h next lifts = (h.0, h.1, lifts h.0 h.2)

pub read_weaker : {E A : Type 0} (fault : Row → E) (r : Read E A) (found found' : A → Text → Type 0) (stopped stopped' : Row → Type 0)
    → OnRead fault r found stopped → ((x : A) (rest : Text) → found x rest → found' x rest) → ((row : Row) → stopped row → stopped' row)
    → OnRead fault r found' stopped'
read_weaker fault (Ok x) found found' stopped stopped' h next lifts = next x.0 x.1 h
read_weaker fault (Err e) found found' stopped stopped' h next lifts = (h.0, h.1, lifts h.0 h.2)

-- A choice between two reading functions.
pub read_if : {E A : Type 0} (fault : Row → E) (b : Bool) (x y : Read E A) (found : A → Text → Type 0) (stopped : Row → Type 0)
    → (IsTrue b → OnRead fault x found stopped) → (IsFalse b → OnRead fault y found stopped) → OnRead fault (if b then x else y) found stopped
read_if fault true x y found stopped yes_case no_case = yes_case refl
read_if fault false x y found stopped yes_case no_case = no_case refl

-- Reading goes over a prefix, from one stage to another.
pub record ReadsOver {E A : Type 0} (start : Text → Read E A) (front : Text) (stage : Text → Read E A) : Type 0 where
  pub over : (rest : Text) → start (front ++ rest) ≡ stage rest

infixr 30 ◌before◌
pub ◌before◌ : {E A : Type 0} {start middle stage : Text → Read E A} {first second : Text} → ReadsOver start first middle → ReadsOver middle second stage
    → ReadsOver start (first ++ second) stage
(to before from) = record { over = λ rest. rw append_assoc (to.over _ ∙ from.over rest) }

-- Reading goes over a prefix, and returns this result at the rest.
pub record ReadsTo {E A : Type 0} (start : Text → Read E A) (front rest : Text) (given : Read E A) : Type 0 where
  pub reads_to : start (front ++ rest) ≡ given

infixr 30 ◌upto◌
pub ◌upto◌ : {E A : Type 0} {start middle : Text → Read E A} {first second rest : Text} {given : Read E A} → ReadsOver start first middle
    → ReadsTo middle second rest given → ReadsTo start (first ++ second) rest given
◌upto◌ {second} {rest} to from = record { reads_to = rw append_assoc (to.over _ ∙ from.reads_to) }

-- Reading goes over a prefix, and returns a fault at the rest.
abbrev pub Halts : {E A : Type 0} → (Text → Read E A) → Text → Text → E → Type 0
Halts start front rest e = ReadsTo start front rest (Err e)

-- A function that reads more after it returns the same fault.
pub halts_then : {E A B : Type 0} {start : Text → Read E A} {front rest : Text} {e : E} (next : A × Text → Read E B) → Halts start front rest e
    → Halts (λ text. start text >>= next) front rest e
halts_then next h = record { reads_to = rw h.reads_to refl }

-- ---- rows

-- If a row of the table line fits, reading returns it.
abbrev pub RowsRead : {E A : Type 0} → (Row → E) → Bool → (Text → Read E A) → LineName → Type 0
RowsRead fault brackets read name = (place : Place) (e : Fault) (front rest : Text) → front_of (line_of brackets name) front
    → Stops (line_of brackets name) place e rest → read (front ++ rest) ≡ Err (fault (row_of name place e))

-- As above, with a condition for the text before the prefix of the line and for the text from the prefix on.
abbrev pub RowsWhere : {E A : Type 0} → (Row → E) → Bool → (Text → Read E A) → LineName → (Text → Text → Type 0) → Type 0
RowsWhere fault brackets read name stands = (place : Place) (e : Fault) (prior front rest : Text) → stands prior (front ++ rest)
    → front_of (line_of brackets name) front → Stops (line_of brackets name) place e rest → read (prior ++ (front ++ rest)) ≡ Err (fault (row_of name place e))

-- Each row of the table lines of the reader is returned.
abbrev pub ReadsAllRows : {E A : Type 0} → (Row → E) → Reader → (Text → Read E A) → Type 0
ReadsAllRows fault reader read = (name : LineName) (pairs : List Pair) → RowsWhere fault (has_brackets reader) read name (Before reader name pairs)

-- The row is of a table line of a part, and fits here.
abbrev pub FitsIn : {L : Type 0} → (L → LineName) → Bool → Row → Text → Type 0
FitsIn {L} part brackets row text = (l : L) × (row.name ≡ part l) × FitsHere brackets row text

pub fits_in : {L : Type 0} (part : L → LineName) (brackets : Bool) (l : L) (row : Row) (text front rest : Text) → row.name ≡ part l → text ≡ front ++ rest
    → front_of (line_of brackets (part l)) front → Stops (line_of brackets (part l)) row.place row.error rest → FitsIn part brackets row text
fits_in part brackets l row text front rest is split shape stops =
    (l, is, rw is (front, rest, split, shape, stops))

-- If a row fits the text after the parts before it, it fits the complete text.
pub lift : {L : Type 0} (part : L → LineName) (reader : Reader) (row : Row) (text prior body : Text) → text ≡ prior ++ body
    → ((l : L) → Before reader (part l) [] prior body) → FitsIn part (has_brackets reader) row body → Fits reader row [] text
lift part reader row text prior body is at h = (prior, body, is, rw h.1 (at h.0), h.2)

-- The row of a whole line.
pub fits_whole_in : {E L : Type 0} (fault : Row → E) (part : L → LineName) (brackets : Bool) (l : L) (e : Fault) (text front rest : Text) → text ≡ front ++ rest
    → front_of (line_of brackets (part l)) front → Stops (line_of brackets (part l)) (anywhere rest) e rest
    → IsRowFault fault (fault (row_of (part l) (anywhere rest) e)) (λ row. FitsIn part brackets row text)
fits_whole_in fault part brackets l e text front rest split shape at = (row_of (part l) (anywhere rest) e, refl, (l, refl, (front, rest, split, shape, at)))

-- ---- a reading function that looks at the text as a table line does

module _ {E B : Type 0} (fault : Row → E) (name : LineName) (read : Text → Result B E) where
  abbrev AtEnd : Ending → Type 0
  AtEnd ok = Unit {0}
  AtEnd (error e) = read [] ≡ Err (fault (row_of name (end []) e))

  abbrev AtBad : Type 0
  AtBad = (rest : Text) → read (Bad ∷ rest) ≡ Err (fault (row_of name (bad (Bad ∷ rest)) NonAsciiCodePoint))

  -- At the end of the text, at `Bad`, and at each code unit that the line does not accept, reading returns the fault of the line.
  abbrev pub LooksAs : Line → Type 0
  LooksAs (line front goes_on at_end at_other) =
      AtEnd at_end × AtBad
      × ((c : ℕ) (rest : Text) → IsFalse (goes_on c) → read (Plain c ∷ rest) ≡ Err (fault (row_of name (other (Plain c ∷ rest)) (at_other c))))
  LooksAs (scanned front e) = AtEnd (error e) × AtBad
  LooksAs (whole front e) = ⊥

  ended : (ending : Ending) (e : Fault) → ending ≡ error e → AtEnd ending → read [] ≡ Err (fault (row_of name (end []) e))
  ended ok e is h = absurd cc
  ended (error d) e is h = let same : d ≡ e = cc in rw same at h

  -- Reading returns the row that fits.
  pub row_here : (l : Line) → LooksAs l → (place : Place) (e : Fault) (rest : Text) → Stops l place e rest → read rest ≡ Err (fault (row_of name place e))
  row_here (line front goes_on at_end at_other) h (end left) e rest at = rw (at.2, at.0) (ended at_end e at.1 h.0)
  row_here (line front goes_on at_end at_other) h (other left) e rest at = rw (at.5, at.2, at.4) (h.2 at.0 at.1 at.3)
  row_here (line front goes_on at_end at_other) h (bad left) e rest at = rw (at.3, at.1, at.2) (h.1 at.0)
  row_here (scanned front d) h (end left) e rest at = rw (at.2, at.0, at.1) h.0
  row_here (scanned front d) h (bad left) e rest at = rw (at.3, at.1, at.2) (h.1 at.0)
  row_here (line front goes_on at_end at_other) h (anywhere left) e rest at = absurd at
  row_here (scanned front d) h place e rest at = absurd at
  row_here (whole front d) h place e rest at = absurd h

-- ---- a line at which the text must not end

abbrev pub Looks : Line → Type 0
Looks (line front goes_on (error e) at_other) = Unit {0}
Looks (line front goes_on ok at_other) = ⊥
Looks (scanned front e) = ⊥
Looks (whole front e) = ⊥

abbrev pub Goes : Line → ℕ → Type 0
Goes (line front goes_on at_end at_other) c = IsTrue (goes_on c)
Goes (scanned front e) c = ⊥
Goes (whole front e) c = ⊥

-- The line accepts the code units of the class.
abbrev pub LooksFor : Class → Line → Type 0
LooksFor class (line front goes_on (error e) at_other) = (c : ℕ) → goes_on c ≡ class c
LooksFor class (line front goes_on ok at_other) = ⊥
LooksFor class (scanned front e) = ⊥
LooksFor class (whole front e) = ⊥

module _ (class : Class) where
  pub goes_with : (l : Line) (c : ℕ) → LooksFor class l → IsTrue (class c) → Goes l c
  goes_with (line front goes_on (error e) at_other) c same h = same c ∙ h
  goes_with other_line c same h = absurd same

  pub went_with : (l : Line) (c : ℕ) → LooksFor class l → Goes l c → IsTrue (class c)
  went_with (line front goes_on (error e) at_other) c same h = sym (same c) ∙ h
  went_with other_line c same h = absurd same

  pub looks_for : (l : Line) → LooksFor class l → Looks l
  looks_for (line front goes_on (error e) at_other) same = tt
  looks_for other_line same = absurd same

-- The row is of this line, and fits at this rest.
abbrev pub StopsHere : LineName → Text → Row → Type 0
StopsHere name rest row = (row.name ≡ name) × Stops (line_of true name) row.place row.error rest

-- There are fewer digits than `n`, and the row of the line fits after them.
abbrev pub DigitsStop : LineName → ℕ → Text → Row → Type 0
DigitsStop name n text row = (k : ℕ) × (k < n) × (ds rest : Text) × (text ≡ ds ++ rest) × digits k ds × StopsHere name rest row

module _ {E : Type 0} (fault : Row → E) (name : LineName) (front : Shape) (goes_on : Class) (e : Fault) (at_other : ℕ → Fault) where
  abbrev here : Line
  here = line front goes_on (error e) at_other

  pub letter_stops : (place : Place) (d : Fault) (rest : Text) → Stops here place d rest
      → next_by (look_of fault name here) rest ≡ Err (fault (row_of name place d))
  unfolding next_by look_at
  letter_stops = row_here fault name (next_by (look_of fault name here)) here (refl, (λ rest. refl), λ c rest h. rw h refl)

  letter_read : (text : Text) → OnRead fault (next_by (look_of fault name here) text) (λ c rest. (text ≡ Plain c ∷ rest) × IsTrue (goes_on c))
      (λ row. (row.name ≡ name) × Stops here row.place row.error text)
  unfolding next_by look_at
  letter_read [] = (row_of name (end []) e, refl, (refl, (refl, refl, refl)))
  letter_read (Bad ∷ rest) = (row_of name (bad (Bad ∷ rest)) NonAsciiCodePoint, refl, (refl, (rest, refl, refl, refl)))
  letter_read (Plain c ∷ rest) =
      read_if fault (goes_on c) _ _ _ _ (λ h. (refl, h)) (λ h. (row_of name (other (Plain c ∷ rest)) (at_other c), refl, (refl, (c, rest, refl, h, refl, refl))))

module _ {E : Type 0} (fault : Row → E) (name : LineName) where
  pub goes : (c : ℕ) (rest : Text) → Looks (line_of true name) → Goes (line_of true name) c → letter_at fault name (Plain c ∷ rest) ≡ Ok (c, rest)
  unfolding next_by look_at
  goes c rest looks h = go _ looks h
    where
      go : (l : Line) → Looks l → Goes l c → next_by (look_of fault name l) (Plain c ∷ rest) ≡ Ok (c, rest)
      go (line front goes_on (error e) at_other) looks h = rw h refl
      go other_line looks h = absurd looks

  pub stops : (place : Place) (e : Fault) (rest : Text) → Looks (line_of true name) → Stops (line_of true name) place e rest
      → letter_at fault name rest ≡ Err (fault (row_of name place e))
  stops place d rest looks h = go _ looks h
    where
      go : (l : Line) → Looks l → Stops l place d rest → next_by (look_of fault name l) rest ≡ Err (fault (row_of name place d))
      go (line front goes_on (error e) at_other) looks h = letter_stops fault name front goes_on e at_other place d rest h
      go other_line looks h = absurd looks

  pub read_letter : (text : Text) → Looks (line_of true name)
      → OnRead fault (letter_at fault name text) (λ c rest. (text ≡ Plain c ∷ rest) × Goes (line_of true name) c) (StopsHere name text)
  read_letter text looks = go _ looks
    where
      go : (l : Line) → Looks l → OnRead fault (next_by (look_of fault name l) text) (λ c rest. (text ≡ Plain c ∷ rest) × Goes l c)
          (λ row. (row.name ≡ name) × Stops l row.place row.error text)
      go (line front goes_on (error e) at_other) looks = letter_read fault name front goes_on e at_other text
      go other_line looks = absurd looks

  module _ (asks : LooksFor digit (line_of true name)) where
    looks : Looks (line_of true name)
    looks = looks_for digit _ asks

    pub digits_go : (n : ℕ) (ds rest : Text) → digits n ds → digits_at fault name n (ds ++ rest) ≡ Ok (ds, rest)
    unfolding digits_by
    digits_go zero ds rest h = rw h refl
    digits_go (suc n) ds rest h =
        rw h.2
        (rw (goes h.0 _ looks (goes_with digit _ h.0 asks h.3), digits_go n h.1 rest h.4) refl)

    pub digits_stop : (n k : ℕ) (ds rest : Text) (place : Place) (e : Fault) → k < n → digits k ds → Stops (line_of true name) place e rest
        → digits_at fault name n (ds ++ rest) ≡ Err (fault (row_of name place e))
    unfolding digits_by
    digits_stop zero k ds rest place e less h at = absurd (omega arith)
    digits_stop (suc n) zero ds rest place e less h at = rw (h, stops place e rest looks at) refl
    digits_stop (suc n) (suc k) ds rest place e less h at =
        rw h.2
        (rw (goes h.0 _ looks (goes_with digit _ h.0 asks h.3), digits_stop n k h.1 rest place e (omega arith) h.4 at) refl)

    pub digits_read : (n : ℕ) (text : Text) → OnRead fault (digits_at fault name n text) (λ ds rest. (text ≡ ds ++ rest) × digits n ds) (DigitsStop name n text)
    unfolding digits_by
    digits_read zero text = (refl, refl)
    digits_read (suc n) text =
        then_read fault (letter_at fault name text) _ _ _ _ _ (read_letter text looks)
        (λ c rest h. then_read fault (digits_at fault name n rest) _ _ _ _ _ (digits_read n rest)
        (λ ds more g. (h.0 ∙ onto c g.0, (c, ds, refl, went_with digit _ c asks h.1, g.1)))
        (λ r g. (suc g.0, omega (arith, g.1), Plain c ∷ g.2, g.3, h.0 ∙ onto c g.4, (c, g.2, refl, went_with digit _ c asks h.1, g.5), g.6)))
        (λ r h. (zero, omega arith, [], text, refl, refl, h))

-- If one digit is expected, the row fits at the beginning.
pub no_digit : (name : LineName) (text : Text) (row : Row) → DigitsStop name 1 text row → StopsHere name text row
no_digit name text row g = go g.0 g.1 g.5
  where
    go : (k : ℕ) → k < 1 → digits k g.2 → StopsHere name text row
    go zero less h = rw (g.4, h) g.6
    go (suc k) less h = absurd (omega arith)

pub none_or_one : (k : ℕ) (ds : Text) → k < 2 → digits k ds → (ds ≡ []) ⊎ one digit ds
none_or_one zero ds less h = inl h
none_or_one (suc zero) ds less h = inr (h.0, rw h.4 at h.2, h.3)
none_or_one (suc (suc k)) ds less h = absurd (omega arith)

pub one_as_digits : (t : Text) → one digit t → digits 1 t
one_as_digits t h = (h.0, [], h.1, h.2, refl)

-- ---- looks where the text can end

-- The text ends, or the next code unit is of the class.
abbrev pub Peeked : Class → Text → Option ℕ → Text → Type 0
Peeked class text None rest = (text ≡ []) × (rest ≡ [])
Peeked class text (Some c) rest = (text ≡ Plain c ∷ rest) × IsTrue (class c)

module _ {E : Type 0} (l : Look E) where
  pub peek_end : peek_by l [] ≡ Ok (None, [])
  unfolding peek_by look_at
  peek_end = refl

  pub peek_goes : (c : ℕ) (rest : Text) → IsTrue (l.goes_on c) → peek_by l (Plain c ∷ rest) ≡ Ok (Some c, rest)
  unfolding peek_by look_at
  peek_goes c rest h = rw h refl

  pub peek_other : (c : ℕ) (rest : Text) → IsFalse (l.goes_on c) → peek_by l (Plain c ∷ rest) ≡ Err (l.at_other c (Plain c ∷ rest))
  unfolding peek_by look_at
  peek_other c rest h = rw h refl

  pub peek_read : (fault : Row → E) (text : Text) (stopped : Row → Type 0)
      → ((c : ℕ) (rest : Text) → text ≡ Plain c ∷ rest → IsFalse (l.goes_on c) → IsRowFault fault (l.at_other c text) stopped)
      → ((rest : Text) → text ≡ Bad ∷ rest → IsRowFault fault (l.at_bad text) stopped) → OnRead fault (peek_by l text) (Peeked l.goes_on text) stopped
  unfolding peek_by look_at
  peek_read fault [] stopped at_other at_bad = (refl, refl)
  peek_read fault (Bad ∷ rest) stopped at_other at_bad = at_bad rest refl
  peek_read fault (Plain c ∷ rest) stopped at_other at_bad = read_if fault (l.goes_on c) _ _ _ _ (λ h. (refl, h)) (λ h. at_other c rest refl h)

-- The look of a table line at which the text can end.
module _ {E : Type 0} (fault : Row → E) (name : LineName) (front : Shape) (goes_on : Class) (at_other : ℕ → Fault) where
  abbrev ends : Line
  ends = line front goes_on ok at_other

  pub peek_stops : (place : Place) (e : Fault) (rest : Text) → Stops ends place e rest
      → peek_by (look_of fault name ends) rest ≡ Err (fault (row_of name place e))
  unfolding peek_by look_at
  peek_stops = row_here fault name (peek_by (look_of fault name ends)) ends (tt, (λ rest. refl), λ c rest h. rw h refl)

  pub peek_line_read : (text : Text) → OnRead fault (peek_by (look_of fault name ends) text) (Peeked goes_on text)
      (λ row. (row.name ≡ name) × Stops ends row.place row.error text)
  peek_line_read text = peek_read _ fault text _
      (λ c rest next out. (row_of name (other text) (at_other c), refl, (refl, (c, rest, next, out, refl, refl))))
      (λ rest next. (row_of name (bad text) NonAsciiCodePoint, refl, (refl, (rest, next, refl, refl))))

-- ---- continuing, or consuming nothing

-- The text ends, or the next code unit is not of the class, and is not `Bad`.
abbrev pub NotNext : Class → Text → Type 0
NotNext class [] = Unit {0}
NotNext class (Bad ∷ rest) = ⊥
NotNext class (Plain c ∷ rest) = IsFalse (class c)

module _ {E A : Type 0} (at_bad : Text → E) (class : Class) (go : ℕ → Text → Read E A) (stay : Text → Read E A) where
  pub next_read : (fault : Row → E) (text : Text) (found : A → Text → Type 0) (stopped : Row → Type 0)
      → ((rest : Text) → text ≡ Bad ∷ rest → IsRowFault fault (at_bad text) stopped)
      → ((c : ℕ) (rest : Text) → text ≡ Plain c ∷ rest → IsTrue (class c) → OnRead fault (go c rest) found stopped)
      → (NotNext class text → OnRead fault (stay text) found stopped) → OnRead fault (on_next at_bad class go stay text) found stopped
  unfolding look_at
  next_read fault [] found stopped bad_case goes_case stays_case = stays_case tt
  next_read fault (Bad ∷ rest) found stopped bad_case goes_case stays_case = bad_case rest refl
  next_read fault (Plain c ∷ rest) found stopped bad_case goes_case stays_case =
      read_if fault (class c) _ _ _ _ (λ h. goes_case c rest refl h) (λ h. stays_case h)

-- The text begins with digits. After them, there is no digit and no `Bad`; or `Bad` follows, which is the fault.
abbrev pub OnRun : {E : Type 0} → (Text → E) → Text → Read E Text → Type 0
OnRun at_bad text (Ok x) = (text ≡ x.0 ++ x.1) × ((n : ℕ) × digits n x.0) × NotNext digit x.1
OnRun at_bad text (Err e) = (ds rest : Text) × (e ≡ at_bad (Bad ∷ rest)) × (text ≡ ds ++ (Bad ∷ rest)) × (n : ℕ) × digits n ds

module _ {E : Type 0} (at_bad : Text → E) where
  pub run_takes : (n : ℕ) (ds rest : Text) → digits n ds → NotNext digit rest → digit_run at_bad (ds ++ rest) ≡ Ok (ds, rest)
  unfolding digit_run
  run_takes zero ds [] h closed = rw h refl
  run_takes zero ds (Bad ∷ rest) h closed = absurd closed
  run_takes zero ds (Plain c ∷ rest) h closed = rw h (rw closed refl)
  run_takes (suc n) ds rest h closed = rw h.2 (rw (h.3, run_takes n h.1 rest h.4 closed) refl)

  pub run_bad : (n : ℕ) (ds rest : Text) → digits n ds → digit_run at_bad (ds ++ (Bad ∷ rest)) ≡ Err (at_bad (Bad ∷ rest))
  unfolding digit_run
  run_bad zero ds rest h = rw h refl
  run_bad (suc n) ds rest h = rw h.2 (rw (h.3, run_bad n h.1 rest h.4) refl)

  more_run : (c : ℕ) (rest : Text) → IsTrue (digit c) → (r : Read E Text) → OnRun at_bad rest r
      → OnRun at_bad (Plain c ∷ rest) (r >>= λ more. Ok (Plain c ∷ more.0, more.1))
  more_run c rest d (Ok x) h = (onto c h.0, (suc h.1.0, (c, x.0, refl, d, h.1.1)), h.2)
  more_run c rest d (Err e) h = (Plain c ∷ h.0, h.1, h.2, onto c h.3, suc h.4, (c, h.0, refl, d, h.5))

  pub run_read : (text : Text) → OnRun at_bad text (digit_run at_bad text)
  unfolding digit_run
  run_read [] = (refl, (zero, refl), tt)
  run_read (Bad ∷ rest) = ([], rest, refl, refl, zero, refl)
  run_read (Plain c ∷ rest) = go (digit c) refl (run_read rest)
    where
      go : (b : Bool) → digit c ≡ b → OnRun at_bad rest (digit_run at_bad rest)
          → OnRun at_bad (Plain c ∷ rest) (if b then (digit_run at_bad rest >>= λ more. Ok (Plain c ∷ more.0, more.1)) else Ok ([], Plain c ∷ rest))
      go true h more = more_run c rest h _ more
      go false h more = (refl, (zero, refl), h)

-- ---- texts

-- A longer prefix.
pub further : (text front rest second more : Text) → text ≡ front ++ rest → rest ≡ second ++ more → text ≡ (front ++ second) ++ more
further text front rest second more is next = rw append_assoc (is ∙ ap (λ t. front ++ t) next)
