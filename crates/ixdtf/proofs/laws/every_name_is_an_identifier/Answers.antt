use Rattle.ixdtf.proofs.laws.every_name_is_an_identifier.Goals as goal
use Rattle.std.proofs.Common.{inl, refl}
use Rattle.ixdtf_grammar.specs.{Laws.EveryNameIsAnIdentifier, language.Languages.Derives.{as_named, as_identified}}

every_name_is_an_identifier : EveryNameIsAnIdentifier
every_name_is_an_identifier text name (as_named h) = (h.1, as_identified (inl (name, h, refl)))

pub returns : goal.returns
returns c = every_name_is_an_identifier
