use Rattle.ixdtf_times.proofs.time.parse_digits.Goals as goal
use Rattle.std.proofs.Common.{[], ◌∷◌, rules}
use Rattle.ixdtf_grammar.specs.language.Letters.Letter.{Plain}
use Rattle.ixdtf_reading.specs.reading.{Looks.next_by, Clauses.{fraction_by, more_digits_at}}
use Rattle.ixdtf_reading.proofs.code.FixedPlaces.{reads_on}

-- The other digits are read after the first one.
pub returns-in-Ok-Some-clause-fraction : goal.returns-in-Ok-Some-clause-fraction
unfolding fraction_by next_by
returns-in-Ok-Some-clause-fraction g c =
    reads_on g.T.EncodingType.letter (λ fraction. fraction) c.args.cursor.now c.advance.new.self c.parse_more_digits-read.new.cursor c.parse_more_digits-read.result
    (fraction_by c.args.start c.args.digits) (more_digits_at c.args.digits (Plain c.in-Ok-Some.byte ∷ [])) (search rules) c.parse_more_digits-read.ensures.fraction
