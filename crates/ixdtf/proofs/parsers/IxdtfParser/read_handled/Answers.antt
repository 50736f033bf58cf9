use Rattle.ixdtf.proofs.parsers.IxdtfParser.read_handled.Goals as goal
use Rattle.std.proofs.{Common.{map, length, refl, sym, ap, ◌∙◌, List, ℕ, arith, rules}, lemmas.List.length-map}
use Rattle.ixdtf_grammar.specs.Views.{Unread, parsed_of}
use Rattle.ixdtf_reading.proofs.theorems.{Handled.{handled, handled_comes}, HandledAt.left_fits}

pub returns-in-Err : goal.returns-in-Err
returns-in-Err g c =
    let letter = g.T.EncodingType.letter in
    let left = c.parse_handled_text.new.text.here.rest in
    let taken = c.fork.ensures.rest ∙ ap (λ (u : Unread). u.rest) (sym c.fork.ensures.same) in
    let (spent, replied, paid) = c.in-Err.ensures.replied in
    let short = left_fits _ _ _ _ _ _ replied.gives in
    let comes = handled_comes _ _ _ _ _ _ (handled _ _ _ _ _ _ _ replied) _ refl in
    let (why, e, is, named, there, reason, at, code) = c.refuse-refused.ensures.refused in
    record {
      reads = rw is (
        parsed_of g.T.EncodingType.number c.parse_handled_text.new.text.found,
        why,
        record {
          spent = spent;
          replied = rw (← c.self.view_is, ← c.fork.ensures.same, reason) (
            map letter left,
            omega (arith, short, at, ap (λ (t : List ℕ). length t) taken, length-map left letter, length-map c.fork.result.rest letter, c.remaining.ensures),
            replied,
            code,
          );
          leaves = search (rules, comes, code, is);
          profile = search rules;
        },
        named,
        there,
      );
    }
