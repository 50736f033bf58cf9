-- Proves that the name of a time zone is a time zone.
use Rattle.std.proofs.Common.{ℕ, List, refl, inl}
use Rattle.ixdtf_grammar.specs.language.{Letters.Text, Languages.{Derives.{as_named, as_identified}}, ZoneNames.Zone.Name}
use Rattle.ixdtf_print.specs.Zones.{IsIdentifier}
use Rattle.ixdtf_checks.specs.Canonicals.{IsNameText}

pub name_identifies : (text : Text) (name : List ℕ) → IsNameText text name → IsIdentifier text (Name name)
name_identifies text name (as_named h) = as_identified (inl (name, h, refl))
