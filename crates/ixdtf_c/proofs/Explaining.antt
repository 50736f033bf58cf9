-- The explanation of what a reader returned.
use Rattle.std.proofs.Common.{◌≡◌, ℕ, List, length, min, Some, None, refl}
use Rattle.ixdtf_explanations.specs.declared.located.LocatedError.{LocatedError}
use Rattle.ixdtf_explanations.specs.declared.part.WrongPart.{WrongPart}
use Rattle.ixdtf_explanations.specs.Parts.{IsPart, extent_of}
use Rattle.ixdtf.specs.language.Letters.{Text}
use Rattle.ixdtf.specs.LocatedFaults.{fault_of_located, stands_behind}
use Rattle.ixdtf_c.specs.{declared.explanations.Explanation.Explanation, Asked.{Asked, IsOutcome, IsRefusal}, Explained.{Explains, nothing_wrong, explanation_for}}
use Rattle.ixdtf_c.proofs.Numbers.{number_some}

pub nothing_explained : {asked : Asked} {text : Text} {units : List ℕ} → IsOutcome fault_of_located stands_behind asked text None
    → Explains asked text units 0 nothing_wrong
nothing_explained outcome = record {
  accepted = ((λ is. outcome.accepted), λ accepts. refl);
  nothing = λ is. refl;
  refused = λ other. absurd (other refl);
  has_number = refl;
}

pub error_explained : {asked : Asked} {text : Text} {units : List ℕ} {e : LocatedError} {part : WrongPart} {explanation : Explanation}
    → IsOutcome fault_of_located stands_behind asked text (Some e) → IsPart (extent_of e.reason) units (min e.at (length units)) part
    → explanation ≡ explanation_for (fault_of_located e) e.at e.reason part → Explains asked text units explanation.error explanation
error_explained {asked} {text} {e = e} {part = part} outcome is_part is =
    let (reason, at, (reason_is, at_is), found) = outcome.refused in
    let refusal : IsRefusal asked text (fault_of_located e) e.at e.reason = rw (reason_is, at_is) found in rw is (record {
      accepted = ((λ zero. absurd (number_some (fault_of_located e) zero)), λ accepts. absurd (refusal.not_accepted accepts));
      nothing = λ zero. absurd (number_some (fault_of_located e) zero);
      refused = λ other. record { fault = fault_of_located e; reason = e.reason; part = part; refused = refusal; is_part = is_part; has = refl };
      has_number = refl;
    })
