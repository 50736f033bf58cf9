use Rattle.ixdtf_reading.proofs.cursor.Cursor.advance_by.Goals as goal
use Rattle.std.proofs.{Common.{map, drop, sym, ap, ◌∙◌}, lemmas.List.{drop-map, take_rest}}
use Rattle.ixdtf_grammar.specs.Views.{Unread}

pub returns-clause-rest : goal.returns-clause-rest
returns-clause-rest g c =
    ap (map g.T.EncodingType.number) (take_rest c.self.inside.rest.now c.args.count)
    ∙ (sym (drop-map g.T.EncodingType.number c.args.count c.self.inside.rest.now) ∙ ap (λ (u : Unread). drop c.args.count u.rest) c.self.view_is)
