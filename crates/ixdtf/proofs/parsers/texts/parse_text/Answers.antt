use Rattle.ixdtf.proofs.parsers.texts.parse_text.Goals as goal
use Rattle.ixdtf_grammar.specs.language.Readers.{has_exact_zones as exact_zones}
use Rattle.std.proofs.{Common.{length, refl, ◌∙◌, sym, arith}, lemmas.Result.err_from_is_err_and}
use Rattle.ixdtf_reading.proofs.code.Units.{no_units}
use Rattle.ixdtf.proofs.code.{Tail.{core_at_most, looks_at_most, core_opens, core_ends_text, core_refused}, Placed.{no_brackets, placed_alone}}

pub returns-in_err-read-clause-replied : goal.returns-in_err-read-clause-replied
returns-in_err-read-clause-replied g c =
    let p = err_from_is_err_and c.from_residual.result c.from_residual.ensures.1 in
    let read = rw c.fork-here.ensures.same at c.in_err-read.ensures.core in
    let looks = rw c.fork-here.ensures.same at c.in_err-read.ensures.looks in
    rw (p.1, p.2) (0, core_refused _ _ _ (g.C.CoreReader.kind c.args.profile) _ _ read, omega (arith, looks, core_at_most (exact_zones (g.C.CoreReader.kind c.args.profile)) (length c.args.cursor.now.rest)))

-- The text is a core, and ends after it.
pub returns-clause-replied : goal.returns-clause-replied
returns-clause-replied g c =
    let ends = sym c.opens_bracket.ensures ∙ c.if-opens_bracket.false in
    let read = rw (c.fork-here.ensures.same, ends) at c.in_ok-read.ensures.core in
    let kept = c.in_ok-read.ensures.kept in
    let none = no_brackets g.T.EncodingType.number c.parse_core-read.new.found (kept.0 ∙ c.requires.empty.tz) (kept.1 ∙ c.requires.empty.calendar) in
    let looks = rw c.fork-here.ensures.same at c.in_ok-read.ensures.looks in
    (0, placed_alone _ _ _ (exact_zones (g.C.CoreReader.kind c.args.profile)) _ _ _ none (g.C.CoreReader.kind c.args.profile) _ refl read, omega (arith, looks, core_at_most (exact_zones (g.C.CoreReader.kind c.args.profile)) (length c.args.cursor.now.rest)))

pub returns-clause-empty : goal.returns-clause-empty
returns-clause-empty g c =
    let ends = sym c.opens_bracket.ensures ∙ c.if-opens_bracket.false in
    let read = rw (c.fork-here.ensures.same, ends) at c.in_ok-read.ensures.core in
    no_units g.T.EncodingType.letter _ (core_ends_text (g.C.CoreReader.kind c.args.profile) _ _ _ read)

-- The first bracket is scanned once before it is read. The bound on the accesses allows this.
pub returns-then-opens_bracket-clause-replied : goal.returns-then-opens_bracket-clause-replied
returns-then-opens_bracket-clause-replied g c =
    let opens = sym c.opens_bracket.ensures ∙ c.if-opens_bracket.true in
    let read = rw (c.fork-here.ensures.same, opens) at c.in_ok-read.ensures.core in
    let looks = rw c.fork-here.ensures.same at c.in_ok-read.ensures.looks in
    let shorter = core_opens (g.C.CoreReader.kind c.args.profile) g.T.EncodingType.letter _ _ _ read in
    let within =
    looks_at_most c.has_exact_zones.result (exact_zones (g.C.CoreReader.kind c.args.profile)) (c.has_exact_zones.ensures c.args.profile) (length c.args.cursor.now.rest) _ shorter in
    let (spent, replied, paid) = c.parse_brackets.ensures.replied in (
      spent,
      replied (g.C.CoreReader.kind c.args.profile) _ (sym (c.has_exact_zones.ensures c.args.profile)) read,
      omega (arith, shorter, looks, paid, within),
    )
