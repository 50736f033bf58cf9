use Rattle.ixdtf.proofs.parsers.texts.parse_handled_text.Goals as goal
use Rattle.std.proofs.{Common.{◌≡◌, ◌∙◌, ◌+◌, ℕ, false, List, [], ◌∷◌, length, map, Ok, refl, sym, ap, arith}, lemmas.Result.err_from_is_err_and}
use Rattle.ixdtf_grammar.specs.language.Readers.{has_exact_zones as exact_zones}
use Rattle.ixdtf_reading.specs.reading.Clauses.{core_in}
use Rattle.ixdtf.proofs.code.{Tail.{core_opens, bracket_shortens}, Placed.{no_brackets, placed_alone, placed_later, front_refused}}

pub returns-in_err-parse_front-clause-replied : goal.returns-in_err-parse_front-clause-replied
returns-in_err-parse_front-clause-replied g c =
    let p = err_from_is_err_and c.from_residual.result c.from_residual.ensures.1 in
    let refused = rw c.fork.ensures.same at c.in_err-parse_front.ensures.front in
    let looks = rw c.fork.ensures.same at c.in_err-parse_front.ensures.looks in
    rw (p.1, p.2) (0, front_refused _ _ _ (g.C.CoreReader.kind c.args.profile) _ _ refused, omega (arith, looks))

-- All code units were consumed.
none_left : (units : List ℕ) (count all : ℕ) → length units + count ≡ all → count ≡ all → units ≡ []
none_left [] count all is same = refl
none_left (unit ∷ units) count all is same = absurd (omega (arith, is, same))

-- The text is a core, and ends after it.
pub returns-in-End-clause-replied : goal.returns-in-End-clause-replied
returns-in-End-clause-replied g c =
    let kind = g.C.CoreReader.kind c.args.profile in
    let (read, none) = rw (c.in-End.is, c.fork.ensures.same) at c.in_ok-parse_front.ensures.front in
    let looks = rw (c.in-End.is, c.fork.ensures.same) at c.in_ok-parse_front.ensures.looks in
    let ends = none_left c.advance_by.new.self.rest _ _ c.advance_by.ensures.shorter c.remaining.ensures in
    let whole = no_brackets g.T.EncodingType.number c.parse_front.new.text.found none.0 none.1 in
    let left = read ∙ ap (λ t. Ok ((core_in c.parse_front.new.text.found, false), map g.T.EncodingType.letter t)) (sym ends) in
    (0, placed_alone _ _ _ (exact_zones kind) _ _ _ whole kind _ refl left, omega (arith, looks, c.advance_by.ensures.looks))

pub returns-in-Bracket-clause-replied : goal.returns-in-Bracket-clause-replied
returns-in-Bracket-clause-replied g c =
    let kind = g.C.CoreReader.kind c.args.profile in
    let (core, inner, bracket, read, stands, pair, zone) = rw (c.in-Bracket.is, c.fork.ensures.same) at c.in_ok-parse_front.ensures.front in
    let looks = rw (c.in-Bracket.is, c.fork.ensures.same) at c.in_ok-parse_front.ensures.looks in
    let shorter = core_opens kind g.T.EncodingType.letter _ inner core read in
    let shorter_again = bracket_shortens (exact_zones kind) g.T.EncodingType.letter inner _ bracket stands in
    let (spent, replied, paid) = c.parse_later_brackets.ensures.replied in (
      spent,
      placed_later _ _ _ (exact_zones kind) core _ _ bracket _ _ _ _ stands pair zone _ _ replied kind _ refl read,
      omega (arith, shorter, shorter_again, looks, paid),
    )
