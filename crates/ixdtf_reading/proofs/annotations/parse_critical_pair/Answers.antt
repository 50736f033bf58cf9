use Rattle.ixdtf_reading.proofs.annotations.parse_critical_pair.Goals as goal
use Rattle.std.proofs.Common.{rules, ◌≡◌, ◌∙◌, true, false, drop, map, refl}
use Rattle.ixdtf_grammar.specs.{Handlers.pair_of, language.Letters.key_lead}
use Rattle.ixdtf_reading.specs.reading.{Clauses.behind, Looks.error_of, Pairs.{critical_pair_at, pair_at}}
use Rattle.ixdtf_reading.proofs.code.FirstBytes.{reads_as, begins_key, critical_key, critical_other}

pub parse_pair-requires : goal.parse_pair-requires
parse_pair-requires g c =
    let leads : key_lead c.byte_at.result ≡ true = search rules in
    record { first = rw c.byte_at.ensures.rest (begins_key (drop 1 (map g.T.EncodingType.letter c.args.cursor.now.rest)) (rw (← c.byte_at.ensures.there) leads)) }

pub returns-then-is_a_key_leading_char-clause-pair : goal.returns-then-is_a_key_leading_char-clause-pair
returns-then-is_a_key_leading_char-clause-pair g c =
    let leads : key_lead c.byte_at.result ≡ true = search rules in
    reads_as g.T.EncodingType.letter (pair_of g.T.EncodingType.number) c.args.cursor.now c.byte_at.new.self c.parse_pair.new.cursor
    (behind (critical_pair_at error_of)) (behind (pair_at error_of true)) c.parse_pair.result
    (critical_key (drop 1 (map g.T.EncodingType.letter c.args.cursor.now.rest)) (rw (← c.byte_at.ensures.there) leads) ∙ rw c.byte_at.ensures.rest refl) c.parse_pair.ensures.pair

pub returns-clause-pair : goal.returns-clause-pair
returns-clause-pair g c =
    let out : key_lead c.byte_at.result ≡ false = search rules in
    rw c.stopped.ensures
    (critical_other (drop 1 (map g.T.EncodingType.letter c.args.cursor.now.rest)) (rw (← c.byte_at.ensures.there) out) ∙ rw (c.advance.ensures.letters, c.byte_at.ensures.rest) refl)
