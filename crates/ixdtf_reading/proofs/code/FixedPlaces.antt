-- A date and a time in fixed columns. What is found there is what the grammar derives, and what the reading functions return.
use Rattle.ixdtf_grammar.specs.declared.reason.Reason.{Reason}
use Rattle.std.proofs.Common.{subst, ◌≡◌, ℕ, zero, suc, ◌+◌, ◌-◌, ◌*◌, ◌<◌, ◌≤◌, Bool, true, false, IsTrue, List, [], ◌∷◌, ◌++◌, map, drop, length, Option}
use Rattle.std.proofs.Common.{Some, None, Result, Ok, Err, refl, sym, ap, ◌∙◌, ◌&&◌, if◌then◌else◌, ℤ, pos, arith, append_assoc, inl, inr, nat_eq, nat_le, eqb-true}
use Rattle.std.proofs.lemmas.{Bool.{and_parts, and_from, le-leb, leb-true, both_ways, Decides.nat_tests}, List.length-drop}
use Rattle.ixdtf_grammar.specs.declared.records.{DateRecord.DateRecord, TimeRecord.TimeRecord}
use Rattle.ixdtf_grammar.specs.language.Letters.{Letter, Letter.Plain, Text, Class, digit, hyphen, colon, date_time_separator}
use Rattle.ixdtf_grammar.specs.language.{Digits.{decimal, TwoDigits}, Shapes.digits, Dates.{FourDigitYear, IsDayOfMonth, month_length}}
use Rattle.ixdtf_grammar.specs.{language.FixedPlaces.{FixedDateTime, FixedDate, FixedTime}, table.{Faults.Fault, LineNames.{of_date, DateLine.after_year}}}
use Rattle.ixdtf_grammar.specs.Views.{Unread, ascii_at}
use Rattle.ixdtf_grammar.proofs.parts.Texts.{colon_seconds_text}
use Rattle.ixdtf_reading.specs.{reading.{Clauses.{Reads, YieldsAt}, Dates.{date_of, day_in_range, day_at, days_at, date_at}}}
use Rattle.ixdtf_reading.specs.reading.{Times.time_of, Looks.{Read, Placed, error_of}, FixedPlaces.{ranged, ◌>>?◌, first_in, letter_place, first_byte}}
use Rattle.ixdtf_reading.specs.reading.FixedPlaces.{byte_place, byte_of_look, number_place, year_place, days_place, basic_days_place, date_place, time_place}
use Rattle.ixdtf_reading.specs.reading.FixedPlaces.{date_in_range, date_time_place, number_up_to}
use Rattle.ixdtf_reading.proofs.parts.{Looks.onto, Marks.hyphens_of, Years.year_takes}
use Rattle.ixdtf_reading.proofs.to_reading.Dates.{month_is, month_is_none, month_or_none, month_takes, month_out, over_day}

-- The code unit that a look found, if it is of the class.
abbrev pub class_at_place : Class → Result (Option ℕ) Fault → Option ℕ
class_at_place class (Ok None) = None
class_at_place class (Ok (Some c)) = if class c then Some c else None
class_at_place class (Err e) = None

-- The code unit in a column of the text is the one that a look at this index of the source finds.
pub place_looked : (letter : ℕ → Letter) (class : Class) (place : ℕ) (units : List ℕ)
    → letter_place class place (map letter units) ≡ class_at_place class (ascii_at letter place units)
place_looked letter class zero [] = refl
place_looked letter class (suc place) [] = refl
place_looked letter class zero (u ∷ more) = grind arith
place_looked letter class (suc place) (u ∷ more) = place_looked letter class place more

pub byte_looked : (letter : ℕ → Letter) (place : ℕ) (units : List ℕ) → byte_place place (map letter units) ≡ byte_of_look (ascii_at letter place units)
byte_looked letter zero [] = refl
byte_looked letter (suc place) [] = refl
byte_looked letter zero (u ∷ more) = grind arith
byte_looked letter (suc place) (u ∷ more) = byte_looked letter place more

-- ---- what follows if something was found

-- If two steps found a value, the first step found one too.
pub then_some : {A B : Type 0} {Goal : Type 0} (o : Option A) (go : A → Option B) (y : B) → (o >>? go) ≡ Some y → ((x : A) → o ≡ Some x → go x ≡ Some y → Goal)
    → Goal
then_some None go y e next = absurd cc
then_some (Some x) go y e next = next x refl e

-- If a test returned a value, the test is true.
pub then_held : {A : Type 0} (t : Bool) (x y : A) → (if t then Some x else None) ≡ Some y → IsTrue t × (x ≡ y)
then_held t x y e = grind (arith, e)

-- The code unit at index `place`, and the text after it.
pub letter_at_place : (class : Class) (place : ℕ) (text : Text) (c : ℕ) → letter_place class place text ≡ Some c
    → (drop place text ≡ Plain c ∷ drop (suc place) text) × IsTrue (class c)
letter_at_place class zero (Plain n ∷ rest) c e =
    let (held, same) = then_held (class n) n c e in (ap (λ m. Plain m ∷ rest) same, ap class (sym same) ∙ held)
letter_at_place class (suc place) (x ∷ rest) c e = letter_at_place class place rest c e
letter_at_place class place text c e = absurd cc

-- The two digits at index `place` and at the next index, and the text after them.
pub record Number (place : ℕ) (text : Text) (n : ℕ) : Type 0 where
  pub a : ℕ
  pub b : ℕ
  pub is : drop place text ≡ Plain a ∷ Plain b ∷ drop (suc (suc place)) text
  pub is_a : IsTrue (digit a)
  pub is_b : IsTrue (digit b)
  pub value : n ≡ decimal (Plain a ∷ Plain b ∷ [])

number_of_letters : (place : ℕ) (text : Text) (n a b : ℕ) → letter_place digit place text ≡ Some a → letter_place digit (place + 1) text ≡ Some b
    → decimal (Plain a ∷ Plain b ∷ []) ≡ n
    → Number place text n
number_of_letters place text n a b ea eb is =
    let next : suc place ≡ place + 1 = omega arith in
    let first = letter_at_place digit place text a ea in
    let second = letter_at_place digit (suc place) text b (ap (λ p. letter_place digit p text) next ∙ eb) in
    record { a = a; b = b; is = first.0 ∙ onto a second.0; is_a = first.1; is_b = second.1; value = sym is }

pub number_at_place : (place : ℕ) (text : Text) (n : ℕ) → number_place place text ≡ Some n → Number place text n
unfolding number_place
number_at_place place text n e =
    then_some (letter_place digit place text) _ n e λ a ea next.
    then_some (letter_place digit (place + 1) text) _ n next λ b eb last.
    number_of_letters place text n a b ea eb cc

-- A number that is at most `most`, and the text after it.
pub number_in_range : (most place : ℕ) (text : Text) (n : ℕ) → number_up_to most place text ≡ Some n → Number place text n × (n ≤ most)
unfolding number_up_to
number_in_range most place text n e =
    then_some (number_place place text) _ n e λ m em next.
    let held = then_held (nat_le m most) m n next in (
      number_at_place place text n (em ∙ ap Some held.1),
      subst (λ k. k ≤ most) held.1 (leb-true m most held.0),
    )

-- The code unit `mark` at index `place`.
pub mark_at_place : (mark place : ℕ) (text : Text) (c : ℕ) → letter_place (λ c. nat_eq c mark) place text ≡ Some c
    → drop place text ≡ Plain mark ∷ drop (suc place) text
mark_at_place mark place text c e =
    let found = letter_at_place (λ c. nat_eq c mark) place text c e in
    found.0 ∙ ap (λ n. Plain n ∷ drop (suc place) text) (eqb-true c mark found.1)

abbrev century_and_year : (a b c d : ℕ) → Type 0
century_and_year a b c d = 100 * decimal (Plain a ∷ Plain b ∷ []) + decimal (Plain c ∷ Plain d ∷ []) ≡ decimal (Plain a ∷ Plain b ∷ Plain c ∷ Plain d ∷ [])

pub year_is : (a b c d : ℕ) → century_and_year a b c d
year_is a b c d = omega arith

abbrev pub two : {place : ℕ} {text : Text} {n : ℕ} → Number place text n → Text
two number = Plain number.a ∷ Plain number.b ∷ []

pub two_digits : {place : ℕ} {text : Text} {n m : ℕ} (number : Number place text n) → n ≡ m → TwoDigits (two number) m
two_digits number same = ((number.a, Plain number.b ∷ [], refl, number.is_a, (number.b, [], refl, number.is_b, refl)), sym same ∙ number.value)

pub over_two : {place : ℕ} {text rest : Text} {n : ℕ} (number : Number place text n) → drop (suc (suc place)) text ≡ rest → drop place text ≡ two number ++ rest
over_two number is = number.is ∙ ap (λ t. two number ++ t) is

-- ---- dates

-- The year in its columns, and the text after it.
year_of_numbers : (text : Text) (year century rest : ℕ) → Number 0 text century → Number 2 text rest → 100 * century + rest ≡ year
    → (ys : Text) × (text ≡ ys ++ drop 4 text) × FourDigitYear ys (pos year)
year_of_numbers text year century rest c y is = (
  Plain c.a ∷ Plain c.b ∷ two y,
  over_two c (over_two y refl),
  (
    (c.a, _, refl, c.is_a, (c.b, _, refl, c.is_b, (y.a, _, refl, y.is_a, (y.b, [], refl, y.is_b, refl)))),
    ap (λ n. pos n) (sym is ∙ rw (c.value, y.value) (year_is c.a c.b y.a y.b)),
  ),
)

pub year_at_place : (text : Text) (year : ℕ) → year_place text ≡ Some year → (ys : Text) × (text ≡ ys ++ drop 4 text) × FourDigitYear ys (pos year)
unfolding year_place
year_at_place text year e =
    then_some (number_place 0 text) _ year e λ century f0 e0.
    then_some (number_place 2 text) _ year e0 λ rest f1 e1.
    year_of_numbers text year century rest (number_at_place 0 text century f0) (number_at_place 2 text rest f1) cc

-- The month and the day of a date in their columns, with a hyphen before each or with none. Their ranges are not tested.
record Days (b : Bool) (text after_month rest : Text) (year : ℕ) (date : DateRecord) : Type 0 where
  months : Text
  days : Text
  is_month : text ≡ (hyphens_of b ++ months) ++ after_month
  is_day : after_month ≡ (hyphens_of b ++ days) ++ rest
  month : TwoDigits months date.month
  day : TwoDigits days date.day
  value : date_of (pos year) date.month date.day ≡ date

days_of_numbers : (b : Bool) (year month day first second : ℕ) (text source : Text) (date : DateRecord) (m : Number first text month) (d : Number second text day)
    → source ≡ hyphens_of b ++ drop first text → drop (suc (suc first)) text ≡ hyphens_of b ++ drop second text
    → Some (date_of (pos year) month day) ≡ Some date → Days b source (drop (suc (suc first)) text) (drop (suc (suc second)) text) year date
days_of_numbers b year month day first second text source date m d at_month at_day e =
    let is : date_of (pos year) month day ≡ date = cc in
    record {
      months = two m;
      days = two d;
      is_month = at_month ∙ ap (λ t. hyphens_of b ++ t) (over_two m refl) ∙ sym (append_assoc (hyphens_of b) (two m) _);
      is_day = at_day ∙ ap (λ t. hyphens_of b ++ t) (over_two d refl) ∙ sym (append_assoc (hyphens_of b) (two d) _);
      month = two_digits m (ap (λ x. x.month) is);
      day = two_digits d (ap (λ x. x.day) is);
      value = λ i. date_of ((ap (λ x. x.year) is) i) date.month date.day;
    }

days_at_place : (text : Text) (year : ℕ) (date : DateRecord) → drop 4 text ≡ Plain 45 ∷ drop 5 text → days_place year text ≡ Some date
    → Days true (drop 4 text) (drop 7 text) (drop 10 text) year date
unfolding days_place
days_at_place text year date hyphens e =
    then_some (number_place 5 text) _ date e λ month f0 e0.
    then_some (letter_place hyphen 7 text) _ date e0 λ mark f1 e1.
    then_some (number_place 8 text) _ date e1 λ day f2 e2.
    days_of_numbers true year month day 5 8 text (drop 4 text) date (number_at_place 5 text month f0) (number_at_place 8 text day f2) hyphens
    (mark_at_place 45 7 text mark f1) e2

basic_days_at_place : (text : Text) (year : ℕ) (date : DateRecord) → basic_days_place year text ≡ Some date
    → Days false (drop 4 text) (drop 6 text) (drop 8 text) year date
unfolding basic_days_place
basic_days_at_place text year date e =
    then_some (number_place 4 text) _ date e λ month f0 e0.
    then_some (number_place 6 text) _ date e0 λ day f1 e1.
    days_of_numbers false year month day 4 6 text (drop 4 text) date (number_at_place 4 text month f0) (number_at_place 6 text day f1) refl refl e1

date_ranges : (date : DateRecord) → IsTrue (date_in_range date)
    → (1 ≤ date.month) × (date.month ≤ 12) × (1 ≤ date.day) × (date.day ≤ month_length date.year date.month)
date_ranges date h = grind (arith, nat_tests)

fixed_date : (text : Text) (date : DateRecord) (year : ℕ) → year_place text ≡ Some year → Days true (drop 4 text) (drop 7 text) (drop 10 text) year date
    → IsTrue (date_in_range date) → (dates : Text) × (text ≡ dates ++ drop 10 text) × FixedDate dates date
fixed_date text date year f d in_range =
    let (ys, is, y) = year_at_place text year f in
    let r = date_ranges date in_range in (
      ys ++ (Plain 45 ∷ (d.months ++ (Plain 45 ∷ d.days))),
      is ∙ ap (λ t. ys ++ t) (d.is_month ∙ ap (λ t. Plain 45 ∷ (d.months ++ t)) d.is_day) ∙ simp append_assoc,
      record {
        years = ys;
        months = d.months;
        days = d.days;
        is = refl;
        year = (y.0, sym (ap (λ x. x.year) d.value) ∙ y.1);
        month = (d.month, r.0, r.1);
        day = d.day;
        in_month = (r.2, r.3);
      },
    )

date_at_place : (text : Text) (date : DateRecord) → date_place text ≡ Some date → IsTrue (date_in_range date)
    → (dates : Text) × (text ≡ dates ++ drop 10 text) × FixedDate dates date
unfolding date_place
date_at_place text date e in_range =
    then_some (year_place text) _ date e λ year f0 e0.
    then_some (letter_place hyphen 4 text) _ date e0 λ mark f1 e1.
    fixed_date text date year f0 (days_at_place text year date (mark_at_place 45 4 text mark f1) e1) in_range

-- ---- times

fixed_time : (text : Text) (time : TimeRecord) (hour minute second : ℕ)
    → Number 11 text hour × (hour ≤ 23) → drop 13 text ≡ Plain 58 ∷ drop 14 text → Number 14 text minute × (minute ≤ 59)
    → drop 16 text ≡ Plain 58 ∷ drop 17 text → Number 17 text second × (second ≤ 60) → Some (time_of hour minute second None) ≡ Some time
    → (times : Text) × (drop 11 text ≡ times ++ drop 19 text) × FixedTime times time
fixed_time text time hour minute second h first m last s e =
    let is : time_of hour minute second None ≡ time = cc in
    let hours = two_digits h.0 (ap (λ x. x.hour) is) in
    let minutes = two_digits m.0 (ap (λ x. x.minute) is) in
    let seconds = two_digits s.0 (ap (λ x. x.second) is) in (
      two h.0 ++ (Plain 58 ∷ (two m.0 ++ (Plain 58 ∷ two s.0))),
      over_two h.0 (first ∙ onto 58 (over_two m.0 (last ∙ onto 58 (over_two s.0 refl)))),
      colon_seconds_text (two h.0) (two m.0) (two s.0) refl refl (hours.0, hours.1, subst (λ x. x.hour ≤ 23) is h.1)
          (minutes.0, minutes.1, subst (λ x. x.minute ≤ 59) is m.1) (seconds.0, seconds.1, subst (λ x. x.second ≤ 60) is s.1)
          (sym (ap (λ x. x.fraction) is)),
    )

time_at_place : (text : Text) (time : TimeRecord) → time_place text ≡ Some time
    → (times : Text) × (drop 11 text ≡ times ++ drop 19 text) × FixedTime times time
unfolding time_place
time_at_place text time e =
    then_some (number_up_to 23 11 text) _ time e λ hour f0 e0.
    then_some (letter_place colon 13 text) _ time e0 λ first f1 e1.
    then_some (number_up_to 59 14 text) _ time e1 λ minute f2 e2.
    then_some (letter_place colon 16 text) _ time e2 λ last f3 e3.
    then_some (number_up_to 60 17 text) _ time e3 λ second f4 e4.
    fixed_time text time hour minute second (number_in_range 23 11 text hour f0) (mark_at_place 58 13 text first f1)
    (number_in_range 59 14 text minute f2) (mark_at_place 58 16 text last f3) (number_in_range 60 17 text second f4) e4

-- ---- a date and a time

of_parts : (text : Text) (date : DateRecord) (c : ℕ) (time : TimeRecord) → (dates : Text) × (text ≡ dates ++ drop 10 text) × FixedDate dates date
    → (drop 10 text ≡ Plain c ∷ drop 11 text) × IsTrue (date_time_separator c) → (times : Text) × (drop 11 text ≡ times ++ drop 19 text) × FixedTime times time
    → FixedDateTime text date time (drop 19 text)
of_parts text date c time d separator t = record {
  dates = d.0;
  separator = c;
  times = t.0;
  is = d.1 ∙ ap (λ more. d.0 ++ more) (separator.0 ∙ onto c t.1);
  is_date = d.2;
  separates = separator.1;
  is_time = t.2;
}

-- What is found is a date and a time of the grammar, in the first nineteen code units.
pub date_time_at_place : (text : Text) (found : DateRecord × TimeRecord) → date_time_place text ≡ Some found → FixedDateTime text found.0 found.1 (drop 19 text)
unfolding date_time_place
date_time_at_place text found e =
    then_some (date_place text) _ found e λ date f0 e0.
    then_some (letter_place date_time_separator 10 text) _ found e0 λ c f1 e1.
    then_some (time_place text) _ found e1 λ time f2 e2.
    let held = then_held (date_in_range date) (date, time) found e2 in
    rw (← held.1)
    (of_parts text date c time (date_at_place text date f0 held.0) (letter_at_place date_time_separator 10 text c f1) (time_at_place text time f2))

-- ---- nothing is missed

-- The code units of two digits. The next definition is for four digits.
abbrev two_letters : (text : Text) → digits 2 text → Text
two_letters text h = Plain h.0 ∷ Plain h.4.0 ∷ []

abbrev four_letters : (text : Text) → digits 4 text → Text
four_letters text h = Plain h.0 ∷ Plain h.4.0 ∷ Plain h.4.4.0 ∷ Plain h.4.4.4.0 ∷ []

two_are : (text : Text) (h : digits 2 text) → text ≡ two_letters text h
two_are text h = rw (h.2, h.4.2, h.4.4) refl

four_are : (text : Text) (h : digits 4 text) → text ≡ four_letters text h
four_are text h = rw (h.2, h.4.2, h.4.4.2, h.4.4.4.2, h.4.4.4.4) refl

two_digits_value : (text : Text) (n : ℕ) (h : TwoDigits text n) → decimal (two_letters text h.0) ≡ n
two_digits_value text n h = ap decimal (sym (two_are text h.0)) ∙ sym h.1

year_of : (text : Text) (year : ℤ) (h : FourDigitYear text year) → pos (decimal (four_letters text h.0)) ≡ year
year_of text year h = ap (λ t. pos (decimal t)) (sym (four_are text h.0)) ∙ sym h.1

module _ {years months days hours minutes seconds : Text} (y : digits 4 years) (m : digits 2 months) (d : digits 2 days) (separator : ℕ)
    (h : digits 2 hours) (n : digits 2 minutes) (x : digits 2 seconds) (rest : Text) where
  abbrev date_there : DateRecord
  date_there = date_of (pos (decimal (four_letters years y))) (decimal (two_letters months m)) (decimal (two_letters days d))

  abbrev time_there : TimeRecord
  time_there = time_of (decimal (two_letters hours h)) (decimal (two_letters minutes n)) (decimal (two_letters seconds x)) None

  abbrev text_there : Text
  text_there = four_letters years y ++ (Plain 45 ∷ (two_letters months m ++ (Plain 45 ∷ (two_letters days d
      ++ (Plain separator ∷ (two_letters hours h ++ (Plain 58 ∷ (two_letters minutes n ++ (Plain 58 ∷ (two_letters seconds x ++ rest))))))))))

  -- The digits of a date and of a time, and the marks between them, are found in their columns.
  there : IsTrue (date_time_separator separator) → IsTrue (date_in_range date_there) → IsTrue (nat_le time_there.hour 23)
      → IsTrue (nat_le time_there.minute 59) → IsTrue (nat_le time_there.second 60) → date_time_place text_there ≡ Some (date_there, time_there)
  unfolding date_time_place date_place year_place days_place time_place number_up_to number_place
  there separates in_date hour minute second =
      let year = year_is y.0 y.4.0 y.4.4.0 y.4.4.4.0 in
      rw (y.3, y.4.3, y.4.4.3, y.4.4.4.3, m.3, m.4.3, d.3, d.4.3, separates, h.3, h.4.3, n.3, n.4.3, x.3, x.4.3, year, in_date, hour, minute, second) refl

same_date : (date : DateRecord) (year : ℤ) (month day : ℕ) → year ≡ date.year → month ≡ date.month → day ≡ date.day → date_of year month day ≡ date
same_date date year month day y m d = λ i. record { year = y i; month = m i; day = d i }

same_time : (time : TimeRecord) (hour minute second : ℕ) → hour ≡ time.hour → minute ≡ time.minute → second ≡ time.second → None ≡ time.fraction
    → time_of hour minute second None ≡ time
same_time time hour minute second h m s f = λ i. record { hour = h i; minute = m i; second = s i; fraction = f i }

is_in_range : (date : DateRecord) → (1 ≤ date.month) × (date.month ≤ 12) → IsDayOfMonth date → IsTrue (date_in_range date)
is_in_range date month day = grind (arith, nat_tests)

-- A date and a time of the grammar in the first nineteen code units are found.
pub date_time_stands : (text : Text) (date : DateRecord) (time : TimeRecord) (rest : Text) → FixedDateTime text date time rest
    → date_time_place text ≡ Some (date, time)
date_time_stands text date time rest f =
    let y = f.is_date.year.0 in
    let m = f.is_date.month.0.0 in
    let d = f.is_date.day.0 in
    let t = f.is_time in
    let h = t.hour.0 in
    let n = t.minute.0 in
    let x = t.second.0 in
    let whole : text ≡ text_there y m d f.separator h n x rest =
    f.is ∙ rw (f.is_date.is, t.is, four_are _ y, two_are _ m, two_are _ d, two_are _ h, two_are _ n, two_are _ x) refl in
    let is_date = same_date date _ _ _ (year_of _ _ f.is_date.year) (two_digits_value _ _ f.is_date.month.0) (two_digits_value _ _ f.is_date.day) in
    let is_time = same_time time _ _ _ (two_digits_value _ _ (h, t.hour.1)) (two_digits_value _ _ (n, t.minute.1)) (two_digits_value _ _ (x, t.second.1)) (sym t.no_fraction) in
    let in_date = subst (λ r. IsTrue (date_in_range r)) (sym is_date) (is_in_range date (f.is_date.month.1, f.is_date.month.2) f.is_date.in_month) in
    let hour = subst (λ r. IsTrue (nat_le r.hour 23)) (sym is_time) (le-leb _ 23 t.hour.2) in
    let minute = subst (λ r. IsTrue (nat_le r.minute 59)) (sym is_time) (le-leb _ 59 t.minute.2) in
    let second = subst (λ r. IsTrue (nat_le r.second 60)) (sym is_time) (le-leb _ 60 t.second.2) in
    ap date_time_place whole
    ∙ there y m d f.separator h n x rest f.separates in_date hour minute second
    ∙ (λ i. Some (is_date i, is_time i))

-- ---- what is found is what the reading functions return

-- If the byte at index `place` is of a class without 0, the text has this code unit there.
pub byte_in_class : (class : Class) (place : ℕ) (text : Text) → class 0 ≡ false → IsTrue (class (byte_place place text))
    → letter_place class place text ≡ Some (byte_place place text)
byte_in_class class place text not_zero is = go (drop place text) is
  where
    go : (text : Text) → IsTrue (class (first_byte text)) → first_in class text ≡ Some (first_byte text)
    go (Plain c ∷ rest) is = rw is refl
    go text is = absurd (both_ways (class 0) not_zero is)

-- So the text has a mark at index `place`, if the byte there is this mark and not 0.
pub byte_is_mark : (mark place : ℕ) (text : Text) → nat_eq 0 mark ≡ false → IsTrue (nat_eq (byte_place place text) mark)
    → drop place text ≡ Plain mark ∷ drop (suc place) text
byte_is_mark mark place text not_zero is = mark_at_place mark place text _ (byte_in_class (λ c. nat_eq c mark) place text not_zero is)

-- If a year is found, reading a date goes on with the month and the day after it.
pub year_is_read : (text : Text) (year : ℕ) → year_place text ≡ Some year → date_at error_of text ≡ days_at error_of (pos year) (drop 4 text)
unfolding date_at
year_is_read text year e =
    let (ys, is, y) = year_at_place text year e in
    ap (date_at error_of) is ∙ rw (year_takes error_of ys (pos year) (drop 4 text) (inl y)) refl

-- If the month and the day are found too, their ranges decide the result.
days_are_read : (b : Bool) (text after_month rest : Text) (year : ℕ) (date : DateRecord) → Days b text after_month rest year date
    → days_at error_of (pos year) text ≡ ranged date after_month rest
days_are_read b text after_month rest year date d = ap (days_at error_of (pos year)) d.is_month ∙ elim (month_or_none date.month) [
  | inl h ↦ rw (
    month_takes error_of (of_date after_year) (λ c. refl) b d.months date.month after_month (d.month, h.0, h.1),
    month_is date.month h.0 h.1,
  ) (ap (day_at error_of (pos year) (date.month, b)) d.is_day ∙ (over_day error_of (pos year) date.month b d.days date.day d.day).over rest
      ∙ ap (λ x. day_in_range error_of x rest) d.value)
  | inr h ↦ rw (
    month_out error_of (of_date after_year) (λ c. refl) b d.months after_month (d.month.0, rw d.month.1 at h),
    month_is_none date.month h,
  ) refl
]

pub hyphened_is_read : (text : Text) (year : ℕ) (date : DateRecord) → year_place text ≡ Some year → IsTrue (hyphen (byte_place 4 text))
    → days_place year text ≡ Some date → date_at error_of text ≡ ranged date (drop 7 text) (drop 10 text)
hyphened_is_read text year date years mark days =
    year_is_read text year years ∙ days_are_read true _ _ _ year date (days_at_place text year date (byte_is_mark 45 4 text refl mark) days)

pub basic_is_read : (text : Text) (year : ℕ) (date : DateRecord) → year_place text ≡ Some year → basic_days_place year text ≡ Some date
    → date_at error_of text ≡ ranged date (drop 6 text) (drop 8 text)
basic_is_read text year date years days = year_is_read text year years ∙ days_are_read false _ _ _ year date (basic_days_at_place text year date days)

-- If a date and a time are found, the text has at least nineteen code units.
long_enough : (text : Text) (found : DateRecord × TimeRecord) → date_time_place text ≡ Some found → 19 ≤ length text
unfolding date_time_place time_place
long_enough text found e =
    then_some (date_place text) _ found e λ date f0 e0.
    then_some (letter_place date_time_separator 10 text) _ found e0 λ c f1 e1.
    then_some (time_place text) _ found e1 λ time f2 e2.
    then_some (number_up_to 23 11 text) _ time f2 λ hour f3 e3.
    then_some (letter_place colon 13 text) _ time e3 λ first f4 e4.
    then_some (number_up_to 59 14 text) _ time e4 λ minute f5 e5.
    then_some (letter_place colon 16 text) _ time e5 λ last f6 e6.
    then_some (number_up_to 60 17 text) _ time e6 λ second f7 e7.
    let number = (number_in_range 60 17 text second f7).0 in
    let size : length (drop 17 text) ≡ suc (suc (length (drop 19 text))) = ap (λ t. length t) number.is in
    let left : length (drop 17 text) ≡ length text - 17 = length-drop 17 text in
    omega (arith)

pub too_short : (text : Text) → length text < 19 → date_time_place text ≡ None
too_short text short = none (date_time_place text) refl
  where
    none : (found : Option (DateRecord × TimeRecord)) → date_time_place text ≡ found → found ≡ None
    none None e = refl
    none (Some x) e = let long = long_enough text x e in absurd (omega arith)

-- The result of testing the numbers is the result of the reading function.
pub reads_tested : {X Y : Type 0} (letter : ℕ → Letter) (view : X → Y) (old new : Unread) (result : Result X Reason) (reading : Text → Read Placed Y) (tested : Read Placed Y)
    → reading (map letter old.rest) ≡ tested → YieldsAt (λ x. (view x, map letter new.rest)) result (map letter new.rest) tested
    → Reads letter view old result new reading
reads_tested letter view old new (Ok x) reading tested read is = read ∙ is
reads_tested letter view old new (Err stop) reading tested read is = read ∙ is

-- If reading goes on with `further` at `here`, the result of `further` is the result of the reading function.
pub reads_on : {X Y : Type 0} (letter : ℕ → Letter) (view : X → Y) (old here new : Unread) (result : Result X Reason) (reading further : Text → Read Placed Y)
    → reading (map letter old.rest) ≡ further (map letter here.rest) → Reads letter view here result new further → Reads letter view old result new reading
reads_on letter view old here new (Ok x) reading further same is = same ∙ is
reads_on letter view old here new (Err stop) reading further same is = same ∙ is
