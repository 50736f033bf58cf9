-- Defines the verdicts that refuse a text because of an error of a reader. No clause of `check` cites this module.
use Rattle.std.specs.Prelude.{Bool, Some, None}
use Rattle.ixdtf_grammar.specs.language.Readers.{Reader}
use Rattle.ixdtf_checks.specs.{Parts.Text, Verdicts.{Verdict, IsUnread, Verdict.{accepted, printed, skipped, refused}}}

abbrev pub IsRefusal : Bool → Reader → Text → Verdict → Type 0
IsRefusal has_offset reader text (accepted instant) = ⊥
IsRefusal has_offset reader text (printed canonical) = ⊥
IsRefusal has_offset reader text skipped = ⊥
IsRefusal has_offset reader text (refused None cause) = IsUnread has_offset reader text cause
IsRefusal has_offset reader text (refused (Some instant) cause) = ⊥
