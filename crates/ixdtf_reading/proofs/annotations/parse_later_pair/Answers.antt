use Rattle.ixdtf_reading.proofs.annotations.parse_later_pair.Goals as goal
use Rattle.std.proofs.Common.{rules, ◌≡◌, ◌∙◌, true, false, drop, map, refl}
use Rattle.ixdtf_grammar.specs.{Handlers.pair_of, language.Letters.{key_lead, exclamation}}
use Rattle.ixdtf_reading.specs.reading.{Clauses.behind, Looks.error_of, Pairs.{later_pair_at, pair_at}}
use Rattle.ixdtf_reading.proofs.code.FirstBytes.{reads_as, begins_key, later_key, later_flag, later_other}

pub parse_pair-requires : goal.parse_pair-requires
parse_pair-requires g c =
    let leads : key_lead c.byte_at-lead.result ≡ true = search rules in
    record { first = rw c.byte_at-lead.ensures.rest (begins_key (drop 1 (map g.T.EncodingType.letter c.args.cursor.now.rest)) (rw (← c.byte_at-lead.ensures.there) leads)) }

pub returns-then-is_a_key_leading_char-clause-pair : goal.returns-then-is_a_key_leading_char-clause-pair
returns-then-is_a_key_leading_char-clause-pair g c =
    let leads : key_lead c.byte_at-lead.result ≡ true = search rules in
    reads_as g.T.EncodingType.letter (pair_of g.T.EncodingType.number) c.args.cursor.now c.byte_at-lead.new.self c.parse_pair.new.cursor
    (behind (later_pair_at error_of)) (behind (pair_at error_of false)) c.parse_pair.result
    (later_key (drop 1 (map g.T.EncodingType.letter c.args.cursor.now.rest)) (rw (← c.byte_at-lead.ensures.there) leads) ∙ rw c.byte_at-lead.ensures.rest refl) c.parse_pair.ensures.pair

pub returns-then-is_critical_flag-clause-pair : goal.returns-then-is_critical_flag-clause-pair
returns-then-is_critical_flag-clause-pair g c =
    let out : key_lead c.byte_at-lead.result ≡ false = search rules in
    let flag : exclamation c.byte_at-lead.result ≡ true = search rules in
    reads_as g.T.EncodingType.letter (pair_of g.T.EncodingType.number) c.args.cursor.now c.advance.new.self c.call_critical_pair.new.cursor _ _ c.call_critical_pair.result
    (later_flag (drop 1 (map g.T.EncodingType.letter c.args.cursor.now.rest)) (rw (← c.byte_at-lead.ensures.there) out) (rw (← c.byte_at-lead.ensures.there) flag)
    ∙ rw (c.advance.ensures.letters, c.byte_at-lead.ensures.rest) refl) c.call_critical_pair.ensures.pair

pub returns-clause-pair : goal.returns-clause-pair
returns-clause-pair g c =
    let out : key_lead c.byte_at-lead.result ≡ false = search rules in
    let other : exclamation c.byte_at-lead.result ≡ false = search rules in
    rw c.stopped.ensures
    (later_other (drop 1 (map g.T.EncodingType.letter c.args.cursor.now.rest)) (rw (← c.byte_at-lead.ensures.there) out) (rw (← c.byte_at-lead.ensures.there) other)
    ∙ rw (c.advance.ensures.letters, c.byte_at-lead.ensures.rest) refl)
