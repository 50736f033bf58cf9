-- Proves which characters are shown.
use Rattle.ixdtf_checks.proofs.marked_text.window_of.Goals as goal
use Rattle.ixdtf_checks.proofs.PointedLemmas.{chosen_fits, chosen_shown}

pub returns-clause-fits : goal.returns-clause-fits
returns-clause-fits c =
    let last = c.last_characters-before.ensures in
    chosen_fits c.args.bytes.now c.character_at-mark.result c.last_characters-before.result.start c.first_characters.result c.last_characters-before.result.count c.indent_behind.result
    c.character_at-mark.ensures.within last.within last.rest last.count last.few c.first_characters.ensures.within c.first_characters.ensures.front c.first_characters.ensures.few
    c.indent_behind.ensures.cut c.indent_behind.ensures.whole

pub returns-clause-characters : goal.returns-clause-characters
returns-clause-characters c =
    let last = c.last_characters-before.ensures in
    let first = c.first_characters.ensures in
    chosen_shown c.args.bytes.now c.character_at-mark.result c.last_characters-before.result.start c.first_characters.result c.last_characters-before.result.count c.indent_behind.result
    c.character_at-mark.ensures.within last.within last.rest last.count last.few first.within first.front first.few c.indent_behind.ensures.cut c.indent_behind.ensures.whole
    c.args.place last.front first.rest c.character_at-mark.ensures.column last.cut first.cut
