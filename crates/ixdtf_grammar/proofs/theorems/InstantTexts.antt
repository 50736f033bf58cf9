-- `parse` derives a date, a time and `Z` from the text of an instant, and these have this instant.
use Rattle.std.proofs.Common.{◌≡◌, ◌≢◌, ℕ, zero, suc, ◌+◌, ◌-◌, ◌*◌, ◌/◌, ◌%◌, ◌^◌, ◌<◌, ◌≤◌, IsTrue, [], ◌∷◌, ◌++◌, map, take, length, Option, Some, None, min, nat_abs, ℤ, pos, negsuc, neg_ℤ, ◌≤ℤ◌, refl, sym, ap, ◌∙◌, inl, inr, arith, append_assoc, append-nil, take_all}
use Rattle.std.proofs.lemmas.{Bool.{cases_lt, Decides.nat_tests}, List.map-append}
use Rattle.std.proofs.Math.Nat.{pow-suc, mul_assoc}
use Rattle.std.specs.Int.{int_rem_euclid}
use Rattle.ixdtf_instants.specs.{declared.instant.Instant.{Instant}, Calendar.{IsCivilDate}, Counts.count_of, CivilDates.{Civil, date_on}}
use Rattle.ixdtf_instants.specs.Texts.{digits_in, trimmed_digits, long_year, year_digits, date_digits, clock_digits, fraction_digits, seconds_of, days_of, text_of_count, instant_text}
use Rattle.ixdtf_instants.proofs.{SignedLemmas.{signed_arith, billions, days}, CivilLemmas.six_digit_year, WalkLemmas.{IsDay, date_on-is, month_length-most}}
use Rattle.ixdtf_instants.proofs.TextLemmas.{trimmed-zero, trimmed-other, year_digits-short, year_digits-plus, year_digits-minus, fraction_digits-none, fraction_digits-some}
use Rattle.ixdtf_grammar.specs.declared.records.{DateRecord.DateRecord, TimeRecord.TimeRecord, UtcOffsetRecordOrZ.TheVariants.Z}
use Rattle.ixdtf_grammar.specs.language.{Letters.{digit, sign, hyphen, Letter.Plain}, Shapes.digits, Digits.{decimal, padded_digits, TwoDigits, UpTo}}
use Rattle.ixdtf_grammar.specs.language.{Dates.{IsDate, Year, ExtendedYear, signed}, Times.{Clock as clocks, SecondText, IsTime, TimeShape.{seconds, fractions}}, Fractions.{FractionParts, fraction_of}}
use Rattle.ixdtf_grammar.specs.language.{Cores.{core_of, IsDateTimeCore}, Readers.parse, Languages.{Derives, Derives.as_parsed, Found.parsed}}
use Rattle.ixdtf_grammar.specs.{Instants.{instant_count, fraction_nanoseconds}, InstantLaws.{HasSixDigitYear, in_utc}}
use Rattle.ixdtf_grammar.proofs.PaddedDigits.{length-padded, decimal-whole}
use Rattle.ixdtf_grammar.proofs.code.Nanoseconds.{filled}
use Rattle.ixdtf_grammar.proofs.parts.Texts.{colon_seconds_text, date_and_time, bracketed_text}

-- ---- digits

padded : (count number : ℕ) → map Plain (digits_in count number) ≡ padded_digits count number
unfolding digits_in
padded zero number = refl
padded (suc count) number = ap (λ rest. Plain (48 + number / 10 ^ count % 10) ∷ rest) (padded count number)

is_digit : (n : ℕ) → IsTrue (digit (48 + n % 10))
is_digit n = grind (arith, nat_tests)

padded_are : (count number : ℕ) → digits count (padded_digits count number)
padded_are zero number = refl
padded_are (suc count) number = (_, _, refl, is_digit (number / 10 ^ count), padded_are count number)

two : (number : ℕ) → number < 100 → TwoDigits (map Plain (digits_in 2 number)) number
two number small = rw (padded 2 number) (padded_are 2 number, sym (decimal-whole 2 number small))

up_to : (greatest number : ℕ) → greatest < 100 → number ≤ greatest → UpTo greatest (map Plain (digits_in 2 number)) number
up_to greatest number g h = rw (padded 2 number) (padded_are 2 number, sym (decimal-whole 2 number (omega arith)), h)

-- ---- years

six : (n : ℕ) → n ≤ 999_999 → long_year n ≡ digits_in 6 n
unfolding long_year
six n small = grind (arith, nat_tests)

signed_year : (mark n : ℕ) (y : ℤ) → n ≤ 999_999 → IsTrue (sign mark) → y ≡ signed mark n → (IsTrue (hyphen mark) → n ≢ 0)
    → ExtendedYear (map Plain (mark ∷ long_year n)) y
signed_year mark n y small is_sign value some = rw (six n small) (rw (padded 6 n) record {
  c = mark;
  ds = padded_digits 6 n;
  is = refl;
  sign = is_sign;
  digits = padded_are 6 n;
  no_minus_zero = λ h. rw (decimal-whole 6 n (omega arith)) (some h);
  value = value ∙ ap (signed mark) (sym (decimal-whole 6 n (omega arith)));
})

year : (y : ℤ) → neg_ℤ (pos 999_999) ≤ℤ y → y ≤ℤ pos 999_999 → Year (map Plain (year_digits y)) y
year (pos n) low high =
    elim (cases_lt 9999 n) [
      | inl long ↦ rw (year_digits-plus (pos n) n refl long) (inr (signed_year 43 n (pos n) (omega (arith, signed_arith)) refl refl (λ h. absurd cc)))
      | inr short ↦ rw (year_digits-short (pos n) n refl short) (rw (padded 4 n) (inl (padded_are 4 n, ap pos (sym (decimal-whole 4 n (omega arith))))))
    ]
year (negsuc n) low high =
    rw (year_digits-minus (negsuc n) (suc n) (ap negsuc (omega arith)) (omega arith)) (inr (signed_year 45 (suc n) (negsuc n) (omega (arith, signed_arith)) refl refl (λ h. omega arith)))

-- ---- dates

abbrev date_of : Civil → DateRecord
date_of date = record { year = date.year; month = date.month; day = date.day }

is_date : (date : Civil) → IsCivilDate date.year date.month date.day → neg_ℤ (pos 999_999) ≤ℤ date.year → date.year ≤ℤ pos 999_999
    → IsDate (map Plain (date_digits date)) (date_of date)
unfolding date_digits
is_date date civil low high = (
  inr record {
    years = map Plain (year_digits date.year);
    months = map Plain (digits_in 2 date.month);
    days = map Plain (digits_in 2 date.day);
    is = simp map-append;
    year = year date.year low high;
    month = (two date.month (omega (arith, civil.1)), civil.0, civil.1);
    day = two date.day (omega (arith, civil.3, month_length-most date.year date.month));
  },
  (civil.2, civil.3),
)

-- ---- times

abbrev time_at : ℕ → Option FractionParts → TimeRecord
time_at second fraction = record { hour = second / 3600; minute = second / 60 % 60; second = second % 60; fraction = fraction }

is_clock : (second : ℕ) → second < 86_400 → SecondText clocks.Time (map Plain (clock_digits second)) (time_at second None)
unfolding clock_digits
is_clock second small =
    inr (colon_seconds_text (map Plain (digits_in 2 (second / 3600))) (map Plain (digits_in 2 (second / 60 % 60))) (map Plain (digits_in 2 (second % 60))) (simp map-append) refl
    (up_to 23 (second / 3600) (omega arith) (omega arith)) (up_to 59 (second / 60 % 60) (omega arith) (omega arith)) (up_to 60 (second % 60) (omega arith) (omega arith)) refl)

-- This record has the number of digits that are left without the zeros at the end, and the number that they stand for.
record Trimmed (count number : ℕ) : Type 0 where
  pub left : ℕ
  pub value : ℕ
  pub more : ℕ
  pub is : trimmed_digits count number ≡ digits_in (suc left) value
  pub fits : value < 10 ^ suc left
  pub room : count ≡ suc left + more
  pub same : value * 10 ^ more ≡ number

trimmed : (count number : ℕ) → number < 10 ^ count → number ≢ 0 → Trimmed count number
trimmed zero number small some = absurd (omega arith)
trimmed (suc count) number small some =
    elim (cases_lt 0 (number % 10)) [
      | inl other ↦ record { left = count; value = number; more = 0; is = trimmed-other (suc count) number (omega arith); fits = small; room = omega arith; same = omega arith }
      | inr none ↦
          let power : 10 ^ suc count ≡ 10 ^ count * 10 = pow-suc 10 count in
          let rest = trimmed count (number / 10) (omega arith) (omega arith) in
          let back : suc count - 1 ≡ count = omega arith in
          let more : 10 ^ suc rest.more ≡ 10 ^ rest.more * 10 = pow-suc 10 rest.more in
          record {
            left = rest.left;
            value = rest.value;
            more = suc rest.more;
            is = trimmed-zero (suc count) number (omega arith) (omega arith) ∙ rw back rest.is;
            fits = rest.fits;
            room = omega (arith, rest.room);
            same = rw more (tenfold rest.value (10 ^ rest.more) number rest.same (omega arith));
          }
    ]
  where
    tenfold : (a b n : ℕ) → a * b ≡ n / 10 → n % 10 ≡ 0 → a * (b * 10) ≡ n
    tenfold a b n e end = rw (← mul_assoc a b 10) (omega (arith, e))

-- This record has the time, with its fraction, that the text of a time of day and of nanoseconds stands for.
record ReadTime (second nanoseconds : ℕ) : Type 0 where
  pub fraction : Option FractionParts
  pub is_time : IsTime (map Plain (clock_digits second ++ fraction_digits nanoseconds)) (time_at second fraction)
  pub nanos : fraction_nanoseconds fraction ≡ nanoseconds

read_time : (second nanoseconds : ℕ) → second < 86_400 → nanoseconds < 10 ^ 9 → ReadTime second nanoseconds
read_time second nanoseconds small fits =
    elim (cases_lt 0 nanoseconds) [
      | inl some ↦ with_fraction (trimmed 9 nanoseconds fits (omega arith)) (omega arith)
      | inr none ↦
          let zero : nanoseconds ≡ 0 = omega arith in
          record {
            fraction = None;
            is_time = rw (fraction_digits-none nanoseconds zero, append-nil) (seconds, is_clock second small);
            nanos = sym zero;
          }
    ]
  where
    with_fraction : Trimmed 9 nanoseconds → nanoseconds ≢ 0 → ReadTime second nanoseconds
    with_fraction t some =
        let ds = padded_digits (suc t.left) t.value in
        let long : length ds ≡ suc t.left = length-padded (suc t.left) t.value in
        let whole : take 18 ds ≡ ds = take_all 18 ds (omega (arith, t.room)) in
        let value : decimal (take 18 ds) ≡ t.value = ap decimal whole ∙ decimal-whole (suc t.left) t.value t.fits in
        let count : min (length ds) 255 ≡ suc t.left = omega (arith, t.room) in
        let part : map Plain (fraction_digits nanoseconds) ≡ Plain 46 ∷ ds = rw (fraction_digits-some nanoseconds some, t.is) (ap (λ rest. Plain 46 ∷ rest) (padded (suc t.left) t.value)) in
        record {
          fraction = Some (fraction_of ds);
          is_time = (
            fractions,
            record {
              whole = map Plain (clock_digits second);
              part = map Plain (fraction_digits nanoseconds);
              fraction = fraction_of ds;
              is = simp map-append;
              second = is_clock second small;
              is_fraction = record { mark = 46; ds = ds; is = part; marks = refl; some = (t.left, padded_are (suc t.left) t.value); value = refl };
              value = refl;
            },
          );
          nanos =
              let places : min (min (length ds) 255) 18 ≡ suc t.left = omega (arith, t.room) in
              rw (places, value) (filled 9 (suc t.left) t.more t.value t.room t.fits ∙ t.same);
        }

-- ---- texts

derived : (date : Civil) (second nanoseconds : ℕ) → IsCivilDate date.year date.month date.day → neg_ℤ (pos 999_999) ≤ℤ date.year → date.year ≤ℤ pos 999_999
    → (t : ReadTime second nanoseconds)
    → Derives parse (map Plain (date_digits date ++ (84 ∷ (clock_digits second ++ (fraction_digits nanoseconds ++ (90 ∷ [])))))) (parsed (in_utc (date_of date) (time_at second t.fraction))) []
derived date second nanoseconds civil low high t =
    let text = map Plain (date_digits date ++ (84 ∷ (clock_digits second ++ (fraction_digits nanoseconds ++ (90 ∷ []))))) in
    let core = core_of (Some (date_of date)) (Some (time_at second t.fraction)) (Some Z) in
    let is_core : IsDateTimeCore text core =
    inr (date_and_time (map Plain (date_digits date)) (Plain 84 ∷ []) (map Plain (clock_digits second ++ fraction_digits nanoseconds)) (Plain 90 ∷ []) (date_of date) (time_at second t.fraction) (Some Z)
    (simp (map-append, append_assoc)) (is_date date civil low high) (84, refl, refl) t.is_time (inr ((90, refl, refl), refl))) in
    as_parsed (bracketed_text text [] core None [] (sym (append-nil text)) is_core ([], [], refl, refl, refl))

counts : (date : Civil) (count : ℤ) (fraction : Option FractionParts) → IsDay date (days_of (seconds_of count)) → fraction_nanoseconds fraction ≡ nat_abs (int_rem_euclid count (pos (10 ^ 9)))
    → instant_count (date_of date) (time_at (nat_abs (int_rem_euclid (seconds_of count) (pos 86_400))) fraction) Z ≡ count
unfolding instant_count
counts date count fraction day nanos =
    omega (arith, signed_arith, billions count, days (seconds_of count), day.counts, nanos)

pub text_is_derived : (instant : Instant) → HasSixDigitYear instant → (date : DateRecord) × (time : TimeRecord)
    × Derives parse (map Plain (instant_text instant)) (parsed (in_utc date time)) [] × (instant_count date time Z ≡ count_of instant)
unfolding text_of_count
text_is_derived instant range =
    let count = count_of instant in
    let second = nat_abs (int_rem_euclid (seconds_of count) (pos 86_400)) in
    let nanoseconds = nat_abs (int_rem_euclid count (pos (10 ^ 9))) in
    let date = date_on (days_of (seconds_of count)) in
    let day = date_on-is (days_of (seconds_of count)) in
    let t = read_time second nanoseconds (days (seconds_of count)).1 (billions count).1 in
    let (low, high) = six_digit_year date.year date.month date.day (days_of (seconds_of count)) day.civil day.counts
    (omega (arith, signed_arith, range.0, billions count, days (seconds_of count))) (omega (arith, signed_arith, range.1, billions count, days (seconds_of count))) in
    (date_of date, time_at second t.fraction, derived date second nanoseconds day.civil low high t, counts date count t.fraction day t.nanos)
