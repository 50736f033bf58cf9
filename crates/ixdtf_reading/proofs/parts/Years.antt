-- Reading a year returns its number and the rest. If a row of the table lines of a year fits, it is returned.
-- The other direction is also proved.
use Rattle.std.proofs.Common.{◌≡◌, ◌≢◌, ℕ, Bool, true, false, IsTrue, IsFalse, [], ◌∷◌, ◌++◌, Ok, refl, ◌∙◌, inl, inr, arith, ℤ, nat_eq, ◌&&◌}
use Rattle.std.proofs.lemmas.Bool.{and_parts, and_from, both_ways, eqb-true, eq-eqb, ne_eqb, Decides.nat_tests}
use Rattle.ixdtf_grammar.specs.language.{Letters.{Text, digit, sign, hyphen, Letter.Plain}, Digits.decimal, Dates.Year, Readers.CoreKind.year_month}
use Rattle.ixdtf_grammar.specs.table.{Faults.Fault.DateExtendedYear, LineNames.{DateLine, LineName, of_date, DateLine.{year_start, year_digits}}}
use Rattle.ixdtf_grammar.specs.table.{LineNames.DateLine.{extended_year_digits, minus_zero_year}, Before.BeforeDate, Rows.{Row, Place.anywhere}}
use Rattle.ixdtf_reading.specs.reading.{Looks.{letter_at, digits_at}, Dates.{year_at, four_digit_year_at, extended_year_at}}
use Rattle.ixdtf_reading.proofs.parts.Looks.{OnRead, RowsRead, FitsIn, fits_in, fits_whole_in, then_read, read_if, goes, stops, read_letter, digits_go}
use Rattle.ixdtf_reading.proofs.parts.Looks.{digits_stop, digits_read, onto}

-- A digit is not a sign.
digit_no_sign : (c : ℕ) → IsTrue (digit c) → IsFalse (sign c)
digit_no_sign c h = grind (arith, nat_tests)

no_minus_zero : (c n : ℕ) → (IsTrue (hyphen c) → n ≢ 0) → IsFalse (hyphen c && nat_eq n 0)
no_minus_zero c n h = go _ refl
  where
    go : (b : Bool) → hyphen c ≡ b → IsFalse (b && nat_eq n 0)
    go true is = ne_eqb n 0 (h is)
    go false is = refl

-- A table line of a year, or of a month after it.
abbrev pub YearOrMonthLine : Type 0
YearOrMonthLine = (l : DateLine) × BeforeDate year_month l []

abbrev pub in_year_or_month : YearOrMonthLine → LineName
in_year_or_month l = of_date l.0

-- What is true if reading a year returned this result.
abbrev pub YearFront : Text → ℤ → Text → Type 0
YearFront text year rest = (years : Text) × (text ≡ years ++ rest) × Year years year

module _ {E : Type 0} (fault : Row → E) where
  -- If the first code unit is a digit, a year of four digits is read. If it is a sign, an extended year is read.
  four_digit_start : (c : ℕ) (text : Text) → IsTrue (digit c) → year_at fault (Plain c ∷ text) ≡ four_digit_year_at fault c text
  unfolding year_at
  four_digit_start c text h = rw (goes fault (of_date year_start) c text tt (grind (arith, nat_tests)), digit_no_sign c h) refl

  extended_start : (c : ℕ) (text : Text) → IsTrue (sign c) → year_at fault (Plain c ∷ text) ≡ extended_year_at fault c text
  unfolding year_at
  extended_start c text h = rw (goes fault (of_date year_start) c text tt (grind (arith, nat_tests)), h) refl

  pub year_takes : (years : Text) (year : ℤ) (rest : Text) → Year years year → year_at fault (years ++ rest) ≡ Ok (year, rest)
  unfolding four_digit_year_at extended_year_at
  year_takes years year rest (inl h) =
      rw (h.0.2, h.1) (four_digit_start h.0.0 (h.0.1 ++ rest) h.0.3 ∙ rw (digits_go fault (of_date year_digits) (λ c. refl) 3 h.0.1 rest h.0.4) (rw h.0.2 refl))
  year_takes years year rest (inr h) =
      rw (h.is, h.value) (extended_start h.c (h.ds ++ rest) h.sign
      ∙ rw (digits_go fault (of_date extended_year_digits) (λ c. refl) 6 h.ds rest h.digits, no_minus_zero h.c (decimal h.ds) h.no_minus_zero) refl)

  -- ---- the lines of a year
  module _ (brackets : Bool) where
    pub year_start_row : RowsRead fault brackets (year_at fault) (of_date year_start)
    unfolding year_at
    year_start_row place e front rest f at = rw f (rw (stops fault _ place e rest tt at) refl)

    pub year_digits_row : RowsRead fault brackets (year_at fault) (of_date year_digits)
    unfolding four_digit_year_at
    year_digits_row place e front rest f at =
        rw (f.2, f.3.1) (four_digit_start f.3.0 (f.1 ++ rest) f.3.2
        ∙ rw (digits_stop fault (of_date year_digits) (λ c. refl) 3 f.4.0 f.1 rest place e f.4.1 f.4.2 at) refl)

    pub extended_year_digits_row : RowsRead fault brackets (year_at fault) (of_date extended_year_digits)
    unfolding extended_year_at
    extended_year_digits_row place e front rest f at =
        rw (f.2, f.3.1) (extended_start f.3.0 (f.1 ++ rest) f.3.2
        ∙ rw (digits_stop fault (of_date extended_year_digits) (λ c. refl) 6 f.4.0 f.1 rest place e f.4.1 f.4.2 at) refl)

    pub minus_zero_year_row : RowsRead fault brackets (year_at fault) (of_date minus_zero_year)
    unfolding extended_year_at
    minus_zero_year_row (anywhere left) e front rest f at =
        rw (f.2, f.3.1, at.0, at.1) (extended_start f.3.0 (f.1 ++ rest) (grind (arith, nat_tests, f.3.2))
        ∙ rw (digits_go fault (of_date extended_year_digits) (λ c. refl) 6 f.1 rest f.4.0, f.3.2, eq-eqb _ 0 f.4.1) refl)
    minus_zero_year_row place e front rest f at = absurd at

    -- ---- and back

    four_digit_read : (text : Text) (c : ℕ) (rest : Text) → text ≡ Plain c ∷ rest → IsTrue (digit c)
        → OnRead fault (four_digit_year_at fault c rest) (YearFront text) (λ row. FitsIn in_year_or_month brackets row text)
    unfolding four_digit_year_at
    four_digit_read text c rest is h =
        then_read fault (digits_at fault (of_date year_digits) 3 rest) _ _ _ _ _ (digits_read fault (of_date year_digits) (λ d. refl) 3 rest)
        (λ ds more g. (Plain c ∷ ds, is ∙ onto c g.0, inl ((c, ds, refl, h, g.1), refl)))
        (λ r g. fits_in in_year_or_month brackets (year_digits, refl) r text _ g.3 g.6.0 (is ∙ onto c g.4)
        (Plain c ∷ [], g.2, refl, (c, refl, h), (g.0, g.1, g.5)) g.6.1)

    extended_read : (text : Text) (c : ℕ) (rest : Text) → text ≡ Plain c ∷ rest → IsTrue (sign c)
        → OnRead fault (extended_year_at fault c rest) (YearFront text) (λ row. FitsIn in_year_or_month brackets row text)
    unfolding extended_year_at
    extended_read text c rest is h =
        then_read fault (digits_at fault (of_date extended_year_digits) 6 rest) _ _ _ _ _ (digits_read fault (of_date extended_year_digits) (λ d. refl) 6 rest)
        (λ ds more g. read_if fault _ _ _ _ _
        (λ zero_year. let both : IsTrue (hyphen c) × IsTrue (nat_eq (decimal ds) 0) = and_parts _ _ zero_year in
        fits_whole_in fault in_year_or_month brackets (minus_zero_year, refl) DateExtendedYear text _ more (is ∙ onto c g.0)
        (Plain c ∷ [], ds, refl, (c, refl, both.0), (g.1, eqb-true _ 0 both.1)) (refl, refl))
        (λ not_zero. (
          Plain c ∷ ds,
          is ∙ onto c g.0,
          inr (record {
            c = c;
            ds = ds;
            is = refl;
            sign = h;
            digits = g.1;
            no_minus_zero = λ minus same. both_ways _ not_zero (and_from _ _ minus (eq-eqb _ 0 same));
            value = refl;
          }),
        )))
        (λ r g. fits_in in_year_or_month brackets (extended_year_digits, refl) r text _ g.3 g.6.0 (is ∙ onto c g.4)
        (Plain c ∷ [], g.2, refl, (c, refl, h), (g.0, g.1, g.5)) g.6.1)

    pub year_read : (text : Text) → OnRead fault (year_at fault text) (YearFront text) (λ row. FitsIn in_year_or_month brackets row text)
    unfolding year_at
    year_read text = then_read fault (letter_at fault (of_date year_start) text) _ _ _ _ _ (read_letter fault (of_date year_start) text tt)
        (λ c rest h. read_if fault (sign c) _ _ _ _
        (λ signed. extended_read text c rest h.0 signed)
        (λ no_sign. four_digit_read text c rest h.0 (grind (arith, h.1, no_sign, nat_tests))))
        (λ r h. fits_in in_year_or_month brackets (year_start, refl) r text [] text h.0 refl refl h.1)
