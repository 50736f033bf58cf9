use Rattle.ixdtf_c.proofs.report_marks.add_line.Goals as goal
use Rattle.std.proofs.Common.{length, ap, ◌∙◌, arith}
use Rattle.std.proofs.lemmas.{Iterator.YieldsList-from_chars, Iterator.Consumers.count_from_yields_List, Str.{encodes-chars, length-le-encodes}}
use Rattle.std.specs.Str.{chars}
use Rattle.ixdtf_explanations.proofs.code.Pointed.{line_bytes}
use Rattle.ixdtf_c.proofs.Added.{adds_as, adds_then}

-- A text has at most as many characters as bytes, and it has fewer than 2 ^ 63 bytes.
pub overflow_add-last : goal.overflow_add-last
overflow_add-last c =
    omega (arith, c.requires, c.well_formed.1.0.1, length-le-encodes (chars c.args.text.now), ap length (encodes-chars c.args.text.now c.utf8.text))

pub returns : goal.returns
returns c =
    let counted = count_from_yields_List _ _ c.count.ensures.ran (YieldsList-from_chars c.args.text.now c.utf8.text cc) in
    adds_as (line_bytes (chars c.args.text.now) c.args.column _ _ _ _ (c.as_bytes.ensures.value ∙ c.cut_mark.ensures) c.saturating_sub.ensures counted (c.as_bytes-2.ensures.value ∙ c.cut_mark-2.ensures))
    (adds_then c.add-front.ensures (adds_then c.add_characters-behind.ensures c.add.ensures))
