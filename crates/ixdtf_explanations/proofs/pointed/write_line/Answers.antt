use Rattle.ixdtf_explanations.proofs.pointed.write_line.Goals as goal
use Rattle.std.proofs.Common.{refl, length, ap, arith}
use Rattle.std.proofs.{Output.{has_written_styled_append, has_written_styled_of_eq}, lemmas.Iterator.YieldsList-from_chars}
use Rattle.std.proofs.lemmas.{Iterator.Consumers.count_from_yields_List, Str.{encodes-chars, length-le-encodes}}
use Rattle.std.specs.Str.{chars}
use Rattle.ixdtf_explanations.proofs.code.Pointed.{line_bytes}

-- A text has at most as many characters as bytes, and it has fewer than 2 ^ 63 bytes.
pub overflow_add-end : goal.overflow_add-end
overflow_add-end g c =
    let room = c.well_formed.1.0.1 in
    let fewer = length-le-encodes (chars c.args.text.now) in
    let bytes = ap length (encodes-chars c.args.text.now c.utf8.text) in
    let within = c.requires in
    omega arith

pub returns : goal.returns
returns g c = λ flush ok.
    let first = c.in_ok-write_str.ensures.styled flush refl in
    let second = c.in_ok-write_characters.ensures first.flush refl in
    let third = c.write_str-2.ensures.styled second.flush ok in
    let counted = count_from_yields_List _ _ c.count.ensures.ran (YieldsList-from_chars c.args.text.now c.utf8.text cc) in
    has_written_styled_of_eq _ _ _ _ _ (line_bytes (chars c.args.text.now) c.args.column _ _ _ _ c.cut_mark.ensures c.saturating_sub.ensures counted c.cut_mark-2.ensures)
    (has_written_styled_append _ _ _ _ _ _ first (has_written_styled_append _ _ _ _ _ _ second third))
