-- The reasons at the indices of their numbers, and their names.
use Rattle.std.proofs.Common.{◌≡◌, ◌≢◌, ◌⊎◌, ℕ, ◌-◌, ◌≤◌, ◌<◌, List, [], map, get_or, refl, sym, ap, ◌∙◌, inl, inr, rules, arith}
use Rattle.std.proofs.Math.ListN.{get_or-map}
use Rattle.std.proofs.lemmas.{List.{get_or_default, get_or_past}, Bool.{ne_eqb, cases_lt}}
use Rattle.ixdtf_grammar.specs.declared.reason.Reason.{Reason}
use Rattle.ixdtf_grammar.specs.declared.reason.Reason.TheVariants as variants
use Rattle.ixdtf_grammar.specs.contracts.reason.Reason.{the_type}
use denote.Enum.Bare.{tag_one}
use Rattle.ixdtf_grammar.specs.ReasonNames.{reason_name}
use Rattle.ixdtf_c.specs.Reasons.{reason_number, reasons_in_order, line_of}
use Rattle.ixdtf_c.proofs.{Named.{ended, ended_at}, Numbers.in_order}

-- The reason at the index `number - 1` has this number.
pub reason_at : (number : ℕ) (other : Reason) → 1 ≤ number → number ≤ 126 → reason_number (get_or reasons_in_order (number - 1) other) ≡ number
reason_at = in_order reason_number reasons_in_order 126 refl

-- Two reasons with one number are the same.
pub same_reason : (one other : Reason) → reason_number one ≡ reason_number other → one ≡ other
same_reason one other same = tag_one the_type tt one other (omega (arith, same))

-- The names of the numbers 1 to 126.
abbrev reason_names : List (List ℕ)
reason_names = map reason_name reasons_in_order

pub line_at : (number : ℕ) (other : List ℕ) → 1 ≤ number → number ≤ 126 → get_or (map ended reason_names) (number - 1) other ≡ ended (line_of number)
line_at number other from to = rw (ne_eqb number 0 (λ is. omega (arith, from, is))) (ended_at reason_names (number - 1) other (omega (arith, from, to)))

-- A number outside of 1 to 126 has no name.
pub no_line : (number : ℕ) → (number < 1) ⊎ (126 < number) → line_of number ≡ []
no_line number out = elim out [
  | inl less ↦ let none : number ≡ 0 = omega (arith, less) in rw none refl
  | inr more ↦ rw (ne_eqb number 0 (λ is. omega (arith, more, is))) (get_or_past reason_names (number - 1) [] (omega (arith, more)))
]

-- There are 126 reasons.
few : (reason : Reason) → reason_number reason ≤ 126
few reason = search rules

-- The name of the number of a reason is the name of the reason.
pub name_of_reason : (reason : Reason) → line_of (reason_number reason) ≡ reason_name reason
name_of_reason reason =
    let number = reason_number reason in
    let index : number - 1 < 126 = omega (arith, few reason) in
    let at : get_or reasons_in_order (number - 1) reason ≡ reason = same_reason _ reason (reason_at number reason (omega arith) (few reason)) in
    rw (ne_eqb number 0 (λ is. omega (arith, is)))
    (get_or_default reason_names (number - 1) [] (reason_name reason) index ∙ get_or-map reason_name reasons_in_order (number - 1) reason ∙ ap reason_name at)

-- A number that no reason has does not have a name.
pub nameless : (number : ℕ) → ((reason : Reason) → number ≢ reason_number reason) → line_of number ≡ []
nameless number none = no_line number (outside (cases_lt number 1) (cases_lt 126 number))
  where
    outside : (number < 1) ⊎ (1 ≤ number) → (126 < number) ⊎ (number ≤ 126) → (number < 1) ⊎ (126 < number)
    outside (inl less) other = inl less
    outside (inr some) (inl more) = inr more
    outside (inr some) (inr most) = absurd (none (get_or reasons_in_order (number - 1) variants.YearStart) (sym (reason_at number variants.YearStart some most)))
