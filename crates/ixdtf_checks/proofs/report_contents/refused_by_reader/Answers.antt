-- Proves which message and which lines are about a text that a reader refuses.
use Rattle.ixdtf_checks.proofs.report_contents.refused_by_reader.Goals as goal
use Rattle.std.proofs.Common.{◌≡◌, ◌∙◌, sym, subst, length, drop, arith, true, false, refl}
use Rattle.std.specs.Prelude.{◌&&◌, codes, min}
use Rattle.ixdtf_explanations.specs.Messages.{message_text}
use Rattle.ixdtf_explanations.specs.Parts.{IsPart, extent_of}
use Rattle.ixdtf_checks.specs.{Parts.seen_part, Spaced.{SaysWhy, is_spaced}}
use Rattle.ixdtf_checks.proofs.{UnreadLemmas.explained, VerdictLemmas.shows_part}

pub returns-then-has_space : goal.returns-then-has_space
returns-then-has_space c =
    let unread = c.args.unread in
    let bytes = unread.part.text.now in
    let wrong = c.part_in-wrong.result in
    let within : min unread.error.at (length bytes) ≡ unread.error.at = omega (arith, unread.within) in
    let spaced : (unread.has_offset && is_spaced (drop wrong.begin bytes)) ≡ true = sym c.has_space.ensures ∙ c.if-has_space.true in
    let says : SaysWhy unread.has_offset bytes unread.error wrong (codes "space_before_offset") (message_text c.words.result) =
    rw spaced (refl, c.words.ensures) in
    record {
      part = wrong;
      is_part = subst (λ at. IsPart (extent_of unread.error.reason) bytes at wrong) within c.part_in-wrong.ensures.part;
      column = c.column_of-column.ensures;
      end = c.column_of-end.ensures;
      says = says;
      shows = shows_part bytes wrong;
    }

pub returns-else-has_space : goal.returns-else-has_space
returns-else-has_space c =
    let unread = c.args.unread in
    let wrong = c.part_in-wrong.result in
    let unspaced : (unread.has_offset && is_spaced (drop wrong.begin unread.part.text.now)) ≡ false = sym c.has_space.ensures ∙ c.if-has_space.false in
    explained unread.has_offset (seen_part unread.part) unread.error wrong c.message_in.result _ _ unread.within c.part_in-wrong.ensures.part unspaced
    c.message_in.ensures.message c.column_of-column.ensures c.column_of-end.ensures
