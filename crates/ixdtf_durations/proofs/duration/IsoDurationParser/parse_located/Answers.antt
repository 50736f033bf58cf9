use Rattle.ixdtf_durations.proofs.duration.IsoDurationParser.parse_located.Goals as goal
use Rattle.std.proofs.Common.{Err, refl, rules, ◌∙◌, sym, ap}
use Rattle.ixdtf_grammar.specs.{Views.Unread, language.{Readers.Reader.parse_duration, Languages.Found.lasting}}
use Rattle.ixdtf_reading.specs.reading.{Looks.error_of, Durations.duration_at}
use Rattle.ixdtf_reading.proofs.to_grammar.Durations.{duration_read}
use Rattle.ixdtf_explanations.proofs.code.Located.{located}
use Rattle.ixdtf_durations.proofs.code.DurationSteps.{reads_whole}

-- The beginning of a duration was read.
pub returns-in-Ok : goal.returns-in-Ok
returns-in-Ok g c =
    let groups = c.parse_groups.ensures.groups in
    let gives = located _ _ (parse_duration c.self.inside.profile) lasting (λ x y e. cc) tt _ c.fork-here.result groups.left refl _
    (duration_read error_of _ _) _ (c.fork-here.ensures.rest ∙ ap (λ (u : Unread). u.rest) (sym c.fork-here.ensures.same)) _ _
    (reads_whole _ _ _ c.fork-here.result c.parse_opening.new.cursor _ _ (c.in-Ok.ensures.sign _) groups.reads) groups.settled groups.place in
    let plain = gives.plain in
    let no_other_reader = plain.no_other_reader c.self.inside.profile in
    let empty = plain.empty _ groups.ended in
    rw (← c.self.view_is, ← c.fork-here.ensures.same) (record {
      reads = record { ok = plain.ok; err = gives.err; place = gives.place; reason = gives.reason; one_reason = gives.one_reason; no_row = plain.no_row; only = plain.only; leaves = search rules };
      no_other_reader = no_other_reader;
      profile = search rules;
    })

-- The beginning of the text is not that of a duration.
pub returns-in-Err : goal.returns-in-Err
returns-in-Err g c =
    let gives = located _ _ (parse_duration c.self.inside.profile) lasting (λ x y e. cc) tt (duration_at error_of _)
    c.fork-here.result c.parse_opening.new.cursor refl _ (duration_read error_of _ _) _
    (c.fork-here.ensures.rest ∙ ap (λ (u : Unread). u.rest) (sym c.fork-here.ensures.same)) (Err c.in-Err.stop) _
    (c.in-Err.ensures.sign _) c.settle.ensures.settled c.settle.ensures.place in
    let plain = gives.plain in
    rw (← c.self.view_is, ← c.fork-here.ensures.same) (record {
      reads = record { ok = plain.ok; err = gives.err; place = gives.place; reason = gives.reason; one_reason = gives.one_reason; no_row = plain.no_row; only = plain.only; leaves = search rules };
      no_other_reader = search rules;
      profile = search rules;
    })
