use Rattle.ixdtf_c.proofs.report_marks.add_characters.Given as goal
use Rattle.std.proofs.Common.{map}
use Rattle.std.specs.Str.{encode_utf8_all}
use Rattle.ixdtf_explanations.specs.LocatedTexts.{shown}
use Rattle.ixdtf_c.specs.Adding.{Adds}

-- The characters that the loop has passed are added, each as it is shown.
abbrev pub invariant-loop-character : goal.invariant-loop-character
invariant-loop-character l = Adds l.initial.out l.out l.at l.end (encode_utf8_all (map shown l.yielded))
