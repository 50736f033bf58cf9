-- The lengths of cores: if a date, a year-month and a month-day begin in the same way, they have different lengths.
use Rattle.std.proofs.Common.{◌≡◌, ℕ, zero, suc, ◌+◌, ◌≤◌, ◌⊎◌, ℤ, Bool, false, IsTrue, [], ◌∷◌, ◌++◌, length, refl, inl, inr, arith, append_assoc}
use Rattle.std.proofs.{Common.append-nil, lemmas.{Bool.{both_ways, Decides.nat_tests}, List.length-append}}
use Rattle.ixdtf_grammar.specs.{declared.records.DateRecord.DateRecord, language.Letters.{Class, Text, digit, hyphen, sign, Letter.{Plain, Bad}}}
use Rattle.ixdtf_grammar.specs.language.{Shapes.digits, Dates.{Year, DateText}, Months.{OptionalHyphen, Marks, IsYearMonth, MonthDayText}}
use Rattle.ixdtf_grammar.specs.language.Cores.{Core, IsDateTimeCore}

-- The first code unit is in the class.
abbrev pub begins : Class → Text → Bool
begins class [] = false
begins class (Bad ∷ rest) = false
begins class (Plain c ∷ rest) = class c

digit_no_sign : (c : ℕ) → IsTrue (digit c) → IsTrue (sign c) → ⊥
digit_no_sign c h g = grind (arith, nat_tests, h, g)

begins_once : (text : Text) → IsTrue (begins digit text) → IsTrue (begins sign text) → ⊥
begins_once [] h g = absurd (both_ways false refl h)
begins_once (Bad ∷ rest) h g = absurd (both_ways false refl h)
begins_once (Plain c ∷ rest) h g = digit_no_sign c h g

-- The text begins with a digit and has `a` to `b` code units, or it begins with a sign and has `c` to `d` code units.
abbrev pub Sized : ℕ → ℕ → ℕ → ℕ → Text → Type 0
Sized a b c d text = (IsTrue (begins digit text) × (a ≤ length text) × (length text ≤ b)) ⊎ (IsTrue (begins sign text) × (c ≤ length text) × (length text ≤ d))

-- The text begins with a digit and has `a` code units or more, or it begins with a sign and has `c` code units or more.
abbrev pub AtLeast : ℕ → ℕ → Text → Type 0
AtLeast a c text = (IsTrue (begins digit text) × (a ≤ length text)) ⊎ (IsTrue (begins sign text) × (c ≤ length text))

-- ---- parts

pub digits_long : (n : ℕ) (text : Text) → digits n text → length text ≡ n
digits_long zero text h = rw h refl
digits_long (suc n) text h = rw (h.2, digits_long n h.1 h.4) refl

digits_begin : (n : ℕ) (text more : Text) → digits (suc n) text → IsTrue (begins digit (text ++ more))
digits_begin n text more h = rw h.2 h.3

hyphens_long : (text : Text) → OptionalHyphen text → length text ≤ 1
hyphens_long text (inl none) = rw none (omega arith)
hyphens_long text (inr h) = rw h.1 (omega arith)

-- This is the length of a year and the text after it.
year_size : (years more : Text) (year : ℤ) → Year years year → Sized (4 + length more) (4 + length more) (7 + length more) (7 + length more) (years ++ more)
year_size years more year (inl h) =
    let long : length (years ++ more) ≡ 4 + length more = omega (arith, length-append years more, digits_long 4 years h.0) in
    inl (digits_begin 3 years more h.0, omega (arith, long), omega (arith, long))
year_size years more year (inr h) =
    let long : length (years ++ more) ≡ 7 + length more = rw h.is (omega (arith, length-append h.ds more, digits_long 6 h.ds h.digits)) in
    inr (rw h.is h.sign, omega (arith, long), omega (arith, long))

-- ---- dates, year-months and month-days

widen : (text : Text) (a b c d a' b' c' d' : ℕ) → a' ≤ a → b ≤ b' → c' ≤ c → d ≤ d' → Sized a b c d text → Sized a' b' c' d' text
widen text a b c d a' b' c' d' p q r s (inl h) = inl (h.0, omega (arith, h.1, p), omega (arith, h.2, q))
widen text a b c d a' b' c' d' p q r s (inr h) = inr (h.0, omega (arith, h.1, r), omega (arith, h.2, s))

pub year_month_size : (text : Text) (date : DateRecord) → IsYearMonth text date → Sized 6 7 9 10 text
year_month_size text date h =
    let after : Text = h.hyphens ++ h.months in
    let rest : length after ≡ length h.hyphens + 2 = omega (arith, length-append h.hyphens h.months, digits_long 2 _ h.month.0.0) in
    let hyphens : length h.hyphens ≤ 1 = hyphens_long h.hyphens h.hyphen in
    rw h.is (widen (h.years ++ after) _ _ _ _ 6 7 9 10 (omega arith) (omega arith) (omega arith) (omega arith) (year_size h.years after date.year h.year))

pub at_least : (text : Text) (a b c d a' c' : ℕ) → a' ≤ a → c' ≤ c → Sized a b c d text → AtLeast a' c' text
at_least text a b c d a' c' p q (inl h) = inl (h.0, omega (arith, h.1, p))
at_least text a b c d a' c' p q (inr h) = inr (h.0, omega (arith, h.1, q))

-- This is the least length of a year and a text of four code units or more after it.
year_and_more : (years after more : Text) (year : ℤ) → Year years year → 4 ≤ length after → AtLeast 8 11 ((years ++ after) ++ more)
year_and_more years after more year h least =
    let rest : 4 ≤ length (after ++ more) = omega (arith, length-append after more, least) in
    rw (append_assoc years after more)
    (at_least _ _ _ _ _ 8 11 (omega (arith, rest)) (omega (arith, rest)) (year_size years (after ++ more) year h))

-- This is the least length of a date and the text after it.
date_size : (text more : Text) (date : DateRecord) → DateText text date → AtLeast 8 11 (text ++ more)
date_size text more date (inl h) =
    rw h.is (year_and_more h.years (h.months ++ h.days) more date.year h.year
    (omega (arith, length-append h.months h.days, digits_long 2 _ h.month.0.0, digits_long 2 _ h.day.0)))
date_size text more date (inr h) =
    rw h.is (year_and_more h.years (Plain 45 ∷ (h.months ++ (Plain 45 ∷ h.days))) more date.year h.year
    (omega (arith, length-append h.months (Plain 45 ∷ h.days), digits_long 2 _ h.month.0.0, digits_long 2 _ h.day.0)))

pub date_time_size : (text : Text) (core : Core) → IsDateTimeCore text core → AtLeast 8 11 text
date_time_size text core (inl h) = rw (← append-nil text) (date_size text [] h.0 h.1.0)
date_time_size text core (inr h) = rw h.is (date_size h.dates _ h.date h.is_date.0)

hyphen_signs : (c : ℕ) → IsTrue (hyphen c) → IsTrue (sign c)
hyphen_signs c h = grind (arith, nat_tests, h)

pub month_day_size : (text : Text) (date : DateRecord) → MonthDayText text date → Sized 4 5 6 7 text
month_day_size text date h = rw h.is (by_marks h.marks h.mark)
  where
    after : Text
    after = h.months ++ (h.hyphens ++ h.days)

    long : length after ≡ 4 + length h.hyphens
    long = omega (arith, length-append h.months (h.hyphens ++ h.days), length-append h.hyphens h.days, digits_long 2 _ h.month.0.0, digits_long 2 _ h.day.0)

    least : 4 ≤ length after
    least = omega (arith, long)

    most : length after ≤ 5
    most = omega (arith, long, hyphens_long h.hyphens h.hyphen)

    by_marks : (marks : Text) → Marks marks → Sized 4 5 6 7 (marks ++ after)
    by_marks marks (inl none) = rw none (inl (digits_begin 1 h.months (h.hyphens ++ h.days) h.month.0.0, least, most))
    by_marks marks (inr two) = rw (two.2, two.3.1, two.4.1) (inr (hyphen_signs two.3.0 two.3.2, omega (arith, least), omega (arith, most)))

-- So a text whose least length is greater than these lengths does not have one of them.
pub longer : (text : Text) (a c a' b' c' d' : ℕ) → suc b' ≤ a → suc d' ≤ c → AtLeast a c text → Sized a' b' c' d' text → ⊥
longer text a c a' b' c' d' p q (inl h) (inl g) = omega (arith, p, h.1, g.2)
longer text a c a' b' c' d' p q (inl h) (inr g) = begins_once text h.0 g.0
longer text a c a' b' c' d' p q (inr h) (inl g) = begins_once text g.0 h.0
longer text a c a' b' c' d' p q (inr h) (inr g) = omega (arith, q, h.1, g.2)
