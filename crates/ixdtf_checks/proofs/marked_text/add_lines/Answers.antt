-- Proves the case of a text that is ASCII near the position, the case of other texts, and the case of bytes that are not UTF-8.
use Rattle.ixdtf_checks.proofs.marked_text.add_lines.Goals as goal
use Rattle.std.proofs.Common.{◌≡◌, ◌∙◌, map, take, ap, arith, refl, subst, sym}
use Rattle.std.specs.Str.{IsAscii}
use Rattle.ixdtf_buffers.proofs.AddingLemmas.{adds_then}
use Rattle.ixdtf_checks.specs.Pointed.{bytes_in, mask}
use Rattle.ixdtf_checks.proofs.{MaskedLemmas.masked_ascii, PointedLemmas.{adds_none, adds_over, adds_same, kept_before, lines_hidden, lines_masked, near_is, part_same}}

pub is_text-requires : goal.is_text-requires
is_text-requires c =
    let near = c.near_window-near.result in
    subst IsAscii (part_same c.args.bytes.now near.start near.end c.near_window-near.ensures.fits.order) (c.if-not-add_run.ensures.ascii refl)

-- Other bytes were added first. They are written over.
pub returns-then-not-add_run-clause-text : goal.returns-then-not-add_run-clause-text
returns-then-not-add_run-clause-text c =
    let place = c.add_cut_mark-first.ensures.place in
    let kept = kept_before c.args.room.now c.add_cut_mark-first.new.room c.add_run.new.room c.args.at c.add_cut_mark-first.result _ _ _ (omega (arith, c.requires, c.told-room))
    (omega (arith, place, c.requires, c.add_cut_mark-first.array_long)) (omega arith) c.add_cut_mark-first.ensures.text c.add_run.ensures.text in
    adds_over kept c.add_any.ensures.text

pub returns-then-is_text-clause-text : goal.returns-then-is_text-clause-text
returns-then-is_text-clause-text c =
    let bs = c.args.bytes.now in
    let near = c.near_window-near.result in
    let ensures = c.near_window-near.ensures in
    let part = part_same bs near.start near.end ensures.fits.order in
    let ascii = subst IsAscii part (c.if-not-add_run.ensures.ascii refl) in
    let good = c.if-is_text.ensures.yes refl in
    let middle = adds_same (ap (map mask) part ∙ sym (masked_ascii (bytes_in near bs) ascii)) c.add_run.ensures.text in
    let whole = adds_then c.add_cut_mark-first.ensures.text (adds_then middle c.add_behind.ensures.text) in
    adds_same (lines_masked bs c.args.part.begin c.args.part.end near good (near_is bs c.args.part.begin near good ensures.fits ensures.near ascii)) (rw c.marks_of.ensures.marks at whole)

pub returns-else-is_text-clause-text : goal.returns-else-is_text-clause-text
returns-else-is_text-clause-text c =
    let place = c.add_cut_mark-first.ensures.place in
    let kept = kept_before c.args.room.now c.add_cut_mark-first.new.room c.add_run.new.room c.args.at c.add_cut_mark-first.result _ _ _ (omega (arith, c.requires, c.told-room))
    (omega (arith, place, c.requires, c.add_cut_mark-first.array_long)) (omega arith) c.add_cut_mark-first.ensures.text c.add_run.ensures.text in
    adds_same (sym (lines_hidden c.args.bytes.now c.args.part.begin c.args.part.end (c.if-is_text.ensures.no refl))) (adds_over kept (adds_none c.add_run.new.room c.args.at))
