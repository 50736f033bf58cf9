-- The result of a reader and the only outcome of a text. With a value, no row fits. A row that fits is the only one.
use Rattle.std.proofs.{Common.{◌≡◌, List, ap, inl, inr}, lemmas.Bool.both_ways}
use Rattle.ixdtf_grammar.specs.{declared.profile.Profile.Profile, language.{Letters.Text, Brackets.Pair, Readers.Reader}, table.Faults.{Fault, is_refusal}}
use Rattle.ixdtf_grammar.specs.{table.Outcomes.{HasFault, NoRowFits, OnlyFault, Outcome.refused}, Handlers.{Reply, GivesFault, GivesOnlyFault}}
use Rattle.ixdtf_grammar.specs.Laws.{InLanguage, InNoOther}
use Rattle.ixdtf_grammar.proofs.theorems.{NoRow.fault_refuses_none, Disjoint.in_no_other}
use Rattle.ixdtf_reading.proofs.theorems.{OneOutcome.{same_outcome, no_row_fits}, Replies.refused_split}

-- What else is true if the grammar derives something from the text.
pub record Accepted (reader : Reader) (text : Text) : Type 0 where
  pub no_row : NoRowFits reader text
  pub no_other_reader : (profile : Profile) → InNoOther profile reader text

pub accepted : (reader : Reader) (text : Text) → InLanguage reader text → Accepted reader text
accepted reader text h = record {
  no_row = no_row_fits reader text h;
  no_other_reader = λ profile. in_no_other profile reader text h;
}

-- A row that fits is the only one, and the grammar derives nothing.
pub only_fault : (reader : Reader) (text : Text) (pairs : List Pair) (fault : Fault) → HasFault reader text pairs fault → OnlyFault reader text pairs fault
only_fault reader text pairs fault h = record {
  row = h.0;
  fits = h.1;
  has = h.2;
  only = λ other before fits. let same : refused other before ≡ refused h.0 pairs = same_outcome reader text _ _ fits h.1 in (cc, cc);
  underived = λ found all whole. no_row_fits reader text (found, all, whole) h.0 pairs h.1;
}

-- So a fault that a text and the replies give is the only one.
pub gives_only : (reader : Reader) (text : Text) (pairs : List Pair) (replies : List Reply) (fault : Fault) → GivesFault reader text pairs replies fault
    → GivesOnlyFault reader text pairs replies fault
gives_only reader text pairs replies fault (inl p) = record {
  of_reply = λ is. p;
  of_text = λ is. elim (refused_split _ _ fault p.1.refused) [
    | inl same ↦ absurd (both_ways _ is (ap is_refusal same.0))
    | inr same ↦ absurd (both_ways _ is (ap is_refusal same.0))
  ];
}
gives_only reader text pairs replies fault (inr p) = record {
  of_reply = λ is. absurd (both_ways _ (fault_refuses_none reader text pairs fault p.0) is);
  of_text = λ is. (only_fault reader text pairs fault p.0, p.1);
}
