use Rattle.std.proofs.{Common.{arith, refl, sym}, Output.{has_written_styled_append, has_written_styled_of_eq}}
use Rattle.ixdtf_instants.proofs.{SignedLemmas.{signed_arith, nat_abs-on, nat_abs-back}, TextLemmas.{year_digits-short, year_digits-plus, year_digits-minus}}
use Rattle.ixdtf_instants.proofs.display.write_year.Goals as goal

pub returns-in_ok-write_str : goal.returns-in_ok-write_str
returns-in_ok-write_str g c = λ flush ok.
    let mark = c.in_ok-write_str.ensures.styled flush refl in
    let digits = c.write_long_year.ensures mark.flush ok in
    has_written_styled_of_eq _ _ _ _ _ (sym (year_digits-minus c.args.year c.unsigned_abs-number.result (omega (arith, signed_arith, nat_abs-on, nat_abs-back, c.unsigned_abs-number.ensures)) (omega (arith, signed_arith, nat_abs-on, nat_abs-back, c.unsigned_abs-number.ensures))))
    (has_written_styled_append _ _ _ _ _ _ mark digits)

pub returns-then-number-le9999 : goal.returns-then-number-le9999
returns-then-number-le9999 g c = λ flush ok.
    has_written_styled_of_eq _ _ _ _ _ (sym (year_digits-short c.args.year c.unsigned_abs-number.result (omega (arith, signed_arith, nat_abs-on, nat_abs-back, c.unsigned_abs-number.ensures)) (omega (arith, c.if-number-le9999.true))))
    (c.write_digits.ensures flush ok)

pub returns-in_ok-write_str-2 : goal.returns-in_ok-write_str-2
returns-in_ok-write_str-2 g c = λ flush ok.
    let mark = c.in_ok-write_str-2.ensures.styled flush refl in
    let digits = c.write_long_year-else-number-le9999.ensures mark.flush ok in
    has_written_styled_of_eq _ _ _ _ _ (sym (year_digits-plus c.args.year c.unsigned_abs-number.result (omega (arith, signed_arith, nat_abs-on, nat_abs-back, c.unsigned_abs-number.ensures)) (omega (arith, c.if-number-le9999.false))))
    (has_written_styled_append _ _ _ _ _ _ mark digits)
