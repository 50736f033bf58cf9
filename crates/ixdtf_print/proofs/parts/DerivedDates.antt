-- A date that is derived from a text has a canonical text, which is not much longer than the text.
use Rattle.std.proofs.Common.{ℕ, zero, suc, ◌+◌, ◌-◌, ◌<◌, ◌≤◌, ◌≡◌, ◌^◌, min, IsTrue, Bool, true, false, cond, ℤ, pos, negsuc, neg_ℤ, nat_abs}
use Rattle.std.proofs.{Common.{length, take, Some, refl, ◌∙◌, ap, inl, inr, arith, nat_le}, lemmas.Bool.{leb-true, Decides.nat_tests}}
use Rattle.std.proofs.{lemmas.List.{take_all, length-append, length-replicate}, Math.Nat.{pow-succ', mul-le-mul_left}}
use Rattle.ixdtf_grammar.specs.declared.records.DateRecord.{DateRecord}
use Rattle.ixdtf_grammar.proofs.{PaddedDigits.length-padded, theorems.CoreSizes.digits_long}
use Rattle.ixdtf.specs.language.{Letters.{Letter, Text, digit, hyphen, Letter.Plain}, Shapes.digits, Digits.decimal}
use Rattle.ixdtf.specs.language.{Dates.{Year, IsDate, IsDayOfMonth}, Fractions.{FractionParts, IsFraction, places_of}}
use Rattle.ixdtf_print.specs.{Canonical.{two_digits, year_text, date_text, fraction_digits, fraction_text}, Spelled.{IsDay, AreDigits}}

-- ---- digits

one_digit : (c : ℕ) → IsTrue (digit c) → c - 48 ≤ 9
one_digit c h = grind (arith, nat_tests, h)

pub decimal_below : (n : ℕ) (text : Text) → digits n text → decimal text < 10 ^ n
decimal_below zero text h = rw h (omega arith)
decimal_below (suc n) text h =
    let more : decimal h.1 < 10 ^ n = decimal_below n h.1 h.4 in
    let small = one_digit h.0 h.3 in
    rw (h.2, digits_long n h.1 h.4, pow-succ' 10 n) (omega (arith, more, mul-le-mul_left (10 ^ n) small))

-- The first digits of a text of digits are digits.
first_digits : (k n : ℕ) (text : Text) → k ≤ n → digits n text → digits k (take k text)
first_digits zero n text h d = refl
first_digits (suc k) zero text h d = absurd (omega arith)
first_digits (suc k) (suc n) text h d = rw d.2 (d.0, take k d.1, refl, d.3, first_digits k n d.1 (omega arith) d.4)

-- ---- dates

pub year_most : (year : ℤ) → length (year_text year) ≤ 7
unfolding year_text
year_most (pos n) = grind (arith, nat_tests)
year_most (negsuc n) = omega arith

pub year_few : (n : ℕ) → n ≤ 9999 → length (year_text (pos n)) ≡ 4
unfolding year_text
year_few n h = let few : nat_le n 9999 ≡ true = grind (arith, nat_tests, h) in rw few refl

signed_abs : (b : Bool) (n : ℕ) → nat_abs (cond b (neg_ℤ (pos n)) (pos n)) ≡ n
signed_abs true zero = refl
signed_abs true (suc n) = refl
signed_abs false n = refl

pub of_year : (text : Text) (year : ℤ) → Year text year → (nat_abs year ≤ 999999) × (length (year_text year) ≤ length text)
of_year text year (inl h) =
    let small : decimal text < 10 ^ 4 = decimal_below 4 text h.0 in
    let long = digits_long 4 text h.0 in
    rw h.1 (omega (arith, small), omega (arith, year_few (decimal text) (omega (arith, small)), long))
of_year text year (inr h) =
    let small : decimal h.ds < 10 ^ 6 = decimal_below 6 h.ds h.digits in
    let long = digits_long 6 h.ds h.digits in
    (rw (h.value, signed_abs (hyphen h.c) (decimal h.ds)) (omega (arith, small)), rw h.is (omega (arith, long, year_most year)))

pub date_long : (date : DateRecord) → length (date_text date) ≡ length (year_text date.year) + 6
unfolding date_text two_digits
date_long date = length-append (year_text date.year) _ ∙ refl

of_parts : (years text : Text) (date : DateRecord) → Year years date.year → 1 ≤ date.month → date.month ≤ 12 → IsDayOfMonth date
    → length years + 4 ≤ length text → IsDay date × (length (date_text date) ≤ length text + 2)
of_parts years text date is_year from to day long =
    let year = of_year years date.year is_year in
    (record { year = year.0; month_from = from; month_to = to; day = day }, omega (arith, long, year.1, date_long date))

pub of_date : (text : Text) (date : DateRecord) → IsDate text date → IsDay date × (length (date_text date) ≤ length text + 2)
of_date text date (inl h, day) =
    of_parts h.years text date h.year h.month.1 h.month.2 day
    (rw h.is (omega (arith, length-append {A = Letter}, digits_long 2 _ h.month.0.0, digits_long 2 _ h.day.0)))
of_date text date (inr h, day) =
    of_parts h.years text date h.year h.month.1 h.month.2 day
    (rw h.is (omega (arith, length-append {A = Letter}, digits_long 2 _ h.month.0.0, digits_long 2 _ h.day.0)))

-- ---- fractions

pub fraction_long : (fraction : FractionParts) → length (fraction_digits fraction) ≡ fraction.count
unfolding fraction_digits
fraction_long fraction =
    omega (arith, length-append {A = Letter}, length-padded (places_of fraction) fraction.value, length-replicate (fraction.count - 18) (Plain 48))

below_places : (n : ℕ) (ds : Text) → digits n ds → decimal (take 18 ds) < 10 ^ min (min n 255) 18
below_places n ds d = by_count (nat_le n 18) refl
  where
    by_count : (b : Bool) → nat_le n 18 ≡ b → decimal (take 18 ds) < 10 ^ min (min n 255) 18
    by_count true h =
        let few : n ≤ 18 = leb-true _ _ h in
        let places : min (min n 255) 18 ≡ n = omega arith in
        rw (places, take_all 18 ds (omega (arith, digits_long n ds d))) (decimal_below n ds d)
    by_count false h =
        let many : 18 < n = grind (arith, nat_tests, h) in
        let places : min (min n 255) 18 ≡ 18 = omega arith in
        rw places (decimal_below 18 (take 18 ds) (first_digits 18 n ds (omega arith) d))

pub of_fraction : (text : Text) (fraction : FractionParts) → IsFraction text fraction
    → AreDigits fraction × (length (fraction_text (Some fraction)) ≤ length text)
of_fraction text fraction h =
    let long : length h.ds ≡ suc h.some.0 = digits_long (suc h.some.0) h.ds h.some.1 in
    let count : fraction.count ≡ min (length h.ds) 255 = ap (λ f. f.count) h.value in
    let value : fraction.value ≡ decimal (take 18 h.ds) = ap (λ f. f.value) h.value in (
      record {
        count_from = omega (arith, long, count);
        count_to = omega (arith, count);
        value = rw (value, count, long) (below_places (suc h.some.0) h.ds h.some.1);
      },
      rw h.is (omega (arith, fraction_long fraction, count)),
    )
