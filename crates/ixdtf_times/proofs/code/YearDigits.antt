-- The digits of years: six digits as three times two, and four digits as one and three.
use Rattle.std.proofs.Common.{◌≡◌, ℕ, ◌+◌, ◌*◌, ◌-◌, pos, Ok, arith}
use Rattle.ixdtf_grammar.specs.{language.Letters.Text, table.LineNames.{of_date, DateLine.year_digits}}
use Rattle.ixdtf_grammar.specs.declared.reason.Reason.{Reason}
use Rattle.ixdtf_reading.specs.reading.{Looks.{◌>>=◌, error_of, as_number, digits_by, digit_look, two_digits_by}, Dates.four_digit_year_at, Stops.reason_of}

-- Six digits are read as three times two digits.
pub six_digits : (stop : Reason) (text : Text)
    → as_number (digits_by (digit_look stop) 6 text) ≡ (as_number (two_digits_by stop stop text) >>= λ high. as_number (two_digits_by stop stop high.1)
    >>= λ middle. as_number (two_digits_by stop stop middle.1) >>= λ low. Ok (10000 * high.0 + 100 * middle.0 + low.0, low.1))
unfolding digits_by two_digits_by
six_digits stop text = grind (arith)

-- A year of four digits is read as its first digit and three more.
pub four_digits : (c : ℕ) (text : Text)
    → four_digit_year_at error_of c text ≡ (as_number (digits_by (digit_look (reason_of (of_date year_digits))) 3 text) >>= λ low. Ok (pos (1000 * (c - 48) + low.0), low.1))
unfolding four_digit_year_at digits_by
four_digits c text = grind (arith)
