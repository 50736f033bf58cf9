use Rattle.ixdtf_c.proofs.turns.parse_in_turn.Goals as goal
use Rattle.std.proofs.Common.{Err, subst, refl, sym}
use Rattle.ixdtf_c.specs.{Crossing.Gives, Narrow.{calendar_by, contents, SameButError}, Replying.with_kept}
use Rattle.ixdtf_c.proofs.Handing.{handled_all, handled_refused, kept_given, kept_refused, refused_given, place_listed, stands_kept, there_kept}
use Rattle.ixdtf_c.proofs.turns.parse_in_turn.Goals.{then-read-eq0, else-read-eq0}

pub returns-then-refused-ne0-clause-handled : goal.returns-then-refused-ne0-clause-handled
returns-then-refused-ne0-clause-handled g c = λ room.
    let (listed, listing, given) = c.ixdtf_parse_with_annotations-read.ensures.lists in
    let (fault, named, last) = c.reply_in_turn-refused.ensures.refused c.if-refused-ne0.true in
    let old = contents c.args.out.now in
    let read = contents c.ixdtf_parse_with_annotations-read.new.out in (
      listed,
      Err (record { fault = fault; at = read.place }),
      listing,
      handled_refused listing room c.reply_in_turn-refused.ensures fault last,
      place_listed _ old read listed given,
      refused_given _ read.place old _ fault named last,
    )

pub returns-then-refused-ne0-clause-unchanged : goal.returns-then-refused-ne0-clause-unchanged
returns-then-refused-ne0-clause-unchanged g c = λ refused. refl

pub returns-clause-handled : goal.returns-clause-handled
returns-clause-handled g c = λ room.
    let (listed, listing, given) = c.ixdtf_parse_with_annotations-read.ensures.lists in
    let before = contents c.args.out.now in
    let read = contents c.ixdtf_parse_with_annotations-read.new.out in
    let kept = calendar_by c.reply_in_turn-refused.new.calendar in (
      listed,
      with_kept kept listed,
      listing,
      handled_all listing room c.reply_in_turn-refused.ensures c.if-refused-ne0.false,
      stands_kept kept listed,
      elim c.if-read-eq0.branch [
        | then-read-eq0 w ↦
            subst (λ out. Gives (λ found. found) (with_kept kept listed) c.ixdtf_parse_with_annotations-read.result before (contents out)) (sym w.out-is)
            (kept_given _ before read listed kept _ _ given w.if-read-eq0.true w.units_of-out.ensures (there_kept _ _))
        | else-read-eq0 w ↦
            subst (λ out. Gives (λ found. found) (with_kept kept listed) c.ixdtf_parse_with_annotations-read.result before (contents out)) (sym w.out-is)
            (kept_refused _ before read listed kept given w.if-read-eq0.false)
      ],
    )

pub returns-clause-unchanged : goal.returns-clause-unchanged
returns-clause-unchanged g c = λ refused. elim c.if-read-eq0.branch [
  | then-read-eq0 w ↦ absurd (refused w.if-read-eq0.true)
  | else-read-eq0 w ↦ subst (SameButError c.args.out.now) (sym w.out-is) (c.ixdtf_parse_with_annotations-read.ensures.unchanged refused)
]
