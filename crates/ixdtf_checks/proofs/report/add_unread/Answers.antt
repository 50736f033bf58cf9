-- Proves which bytes are added to the array.
use Rattle.ixdtf_checks.proofs.report.add_unread.Goals as goal
use Rattle.std.proofs.Common.{◌≡◌, ◌≤◌, ◌+◌, ◌∙◌, sym, drop, arith, false, length, refl}
use Rattle.std.specs.Prelude.{◌&&◌}
use Rattle.ixdtf_buffers.proofs.AddingLemmas.{adds_then}
use Rattle.ixdtf_grammar.specs.ReasonNames.{reason_name}
use Rattle.ixdtf_explanations.specs.Messages.{message_text}
use Rattle.ixdtf_checks.specs.{Parts.{seen_part, width_of}, Seen.lines_at, Spaced.is_spaced}
use Rattle.ixdtf_checks.proofs.UnreadLemmas.{adds_after, adds_keeps, explained, take_shorter}

pub returns-in_err-end-clause-none : goal.returns-in_err-end-clause-none
returns-in_err-end-clause-none c = λ none.
    let within : c.args.at ≤ length c.args.room.now.bytes = omega (arith, c.requires) in
    take_shorter _ _ _ _ (adds_after _ _ _ _ _ within c.add_place-place.ensures.text) (c.in_err-end.ensures.none refl)
    ∙ adds_keeps _ _ _ _ _ within c.add_place-place.ensures.text

pub returns-clause-text : goal.returns-clause-text
returns-clause-text c =
    let unread = c.in-Unread.unread in
    let bytes = unread.part.text.now in
    let wrong = c.part_in-wrong.result in
    let begin = unread.part.start + width_of (seen_part unread.part) wrong.begin + 1 in
    let end = unread.part.start + width_of (seen_part unread.part) wrong.end + 1 in
    let message = c.message_in-message.result in
    let unspaced : (unread.has_offset && is_spaced (drop wrong.begin bytes)) ≡ false = sym c.has_space.ensures ∙ c.if-has_space.false in
    let tells = explained unread.has_offset (seen_part unread.part) unread.error wrong message begin end unread.within c.part_in-wrong.ensures.part unspaced
    c.message_in-message.ensures.message refl refl in
    let added = adds_then c.add_place-place.ensures.text (adds_then c.in_ok-end.ensures.text c.add_marked.ensures.text) in
    rw c.in-Unread.is (
      record {
        column = begin;
        end = end;
        reason = reason_name unread.error.reason;
        message = message_text message;
        lines = lines_at wrong.begin wrong.end bytes;
      },
      tells,
      rw c.column_of.ensures at added,
    )
