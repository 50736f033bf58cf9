use Rattle.std.proofs.Common.{◌≡◌, ◌+◌, ◌-◌, ℕ, arith, inl, inr, pos, ◌+ℤ◌}
use Rattle.std.proofs.lemmas.Bool.{cases_lt}
use Rattle.ixdtf_instants.proofs.SignedLemmas.{signed_casts, signed_arith}
use Rattle.ixdtf_instants.proofs.DayLemmas.{day_count-early, day_count-late, day_number-day_count}
use Rattle.ixdtf_instants.proofs.days.day_number.Goals as goal
use borrow.Author.Differences.{up, down}

pub returns-clause-value : goal.returns-clause-value
returns-clause-value c =
    let years = c.march_year-years.result in
    let number = day_number-day_count c.args.year c.args.month c.args.day in
    elim (cases_lt 2 c.args.month) [
      | inl late ↦ omega (
        arith,
        signed_casts,
        number,
        c.in_ok-index.ensures.some,
        c.days_of_years.ensures,
        c.days_from_march.ensures,
        c.from.ensures,
        c.march_year-years.ensures,
        day_count-late c.args.year years 5_368_710 c.args.month c.args.day (omega (arith, signed_arith, c.in_ok-index.ensures.some, c.march_year-years.ensures)) late (omega (arith, c.in_ok-index.ensures.some)),
      )
      | inr early ↦ omega (
        arith,
        signed_casts,
        number,
        c.in_ok-index.ensures.some,
        c.days_of_years.ensures,
        c.days_from_march.ensures,
        c.from.ensures,
        c.march_year-years.ensures,
        day_count-early c.args.year years 5_368_710 c.args.month c.args.day (omega (arith, signed_arith, c.in_ok-index.ensures.some, c.march_year-years.ensures)) (omega (arith, c.in_ok-index.ensures.some)) early,
      )
    ]
