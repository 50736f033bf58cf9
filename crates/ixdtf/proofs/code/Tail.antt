-- What the code read as a core, and as the first bracket after it, gives what the text is.
use Rattle.std.proofs.Common.{◌≡◌, ℕ, ◌≤◌, ◌+◌, ◌*◌, suc, Bool, true, false, List, [], ◌∷◌, ◌++◌, length, map, Option, None, Result, Ok, Err, sym, ap, ◌∙◌, subst}
use Rattle.std.proofs.{Common.arith, lemmas.List.{length-map, length-append}}
use Rattle.ixdtf_grammar.specs.language.{Letters.{Letter, Text, Letter.Plain}, Cores.Core, Brackets.Pair, Languages.parsed_with, Readers.{CoreKind, has_exact_zones}}
use Rattle.ixdtf_grammar.specs.{language.Readers.Reader.bracketed, Handlers.{Step, with_calendar}}
use Rattle.ixdtf_reading.specs.reading.{Looks.{Read, Placed, error_of}, Cores.{ClosedCore, core_at}, Brackets.{Bracket, pairs_in}, ExactZones.bracket_by}
use Rattle.ixdtf_reading.specs.reading.Chains.{PairsRead, TextRead, TextReadAfter}
use Rattle.ixdtf_reading.proofs.{parts.Looks.OnRead, to_grammar.Cores.{Splits, CoreFront, ReadsCore, core_read}}
use Rattle.ixdtf_reading.proofs.to_grammar.{ExactBracket.{BracketFront, FitsBracket, bracket_by_read}, Wholes.after_core_by}
use Rattle.ixdtf_reading.proofs.to_reading.ExactBracket.{IsBracketBy, bracket_by_takes}
use Rattle.ixdtf.specs.Readings.{ReadsOpenBracket, after_front, core_looks}
use Rattle.ixdtf_grammar.specs.{Views.Unread, declared.{reason.Reason.Reason, records.{Annotation.Annotation, IxdtfParseRecord.IxdtfParseRecord}}}
use Rattle.ixdtf_reading.specs.reading.Clauses.{Spends, SpendsOr}
use Rattle.ixdtf_times.specs.declared.offsets.AfterCore.{AfterCore, TheVariants.{End, Bracket as Opens}}
use Rattle.ixdtf_brackets.specs.BracketTypes.{exact_looks}
use Rattle.ixdtf.proofs.code.Chains.{text_result, text_fault, text_derived, text_read}

-- ---- accesses

pub core_at_most : (exact : Bool) (count : ℕ) → core_looks exact count ≤ count + 38
core_at_most true count = omega arith
core_at_most false count = omega arith

-- If a zone has to be exact, the bound for the core is smaller by the accesses that the test of the zone takes.
pub looks_at_most : (exact same : Bool) → exact ≡ same → (count left : ℕ) → suc left ≤ count → core_looks same count + exact_looks exact left ≤ count + 38
looks_at_most true same is count left less = rw (← is) (omega (arith, less))
looks_at_most false same is count left less = rw (← is) (omega (arith, less))

-- ---- a core

-- The text from which a core was read begins with this core.
core_is : (kind : CoreKind) (text rest : Text) (core : ClosedCore) → core_at error_of kind text ≡ Ok (core, rest) → CoreFront kind text core rest
core_is kind text rest core is = subst (ReadsCore error_of kind text) is (core_read error_of text kind)

split_shortens : (text front rest : Text) (has_bracket : Bool) → Splits text front has_bracket rest → length rest ≤ length text
split_shortens text front rest true h = omega (arith, ap (λ t. length t) h, length-append front (Plain 91 ∷ rest))
split_shortens text front rest false h = omega (arith, ap (λ t. length t) h.1)

-- The rest after a core is not longer than the text.
pub core_shortens : (kind : CoreKind) (letter : ℕ → Letter) (units left : List ℕ) (core : ClosedCore)
    → core_at error_of kind (map letter units) ≡ Ok (core, map letter left) → length left ≤ length units
core_shortens kind letter units left core is =
    let h = core_is kind _ _ core is in
    omega (arith, split_shortens _ h.0 _ core.1 h.1, length-map units letter, length-map left letter)

-- The rest after a core and a `[` is shorter than the text.
pub core_opens : (kind : CoreKind) (letter : ℕ → Letter) (units left : List ℕ) (core : Core)
    → core_at error_of kind (map letter units) ≡ Ok ((core, true), map letter left) → suc (length left) ≤ length units
core_opens kind letter units left core is =
    let h = core_is kind _ _ (core, true) is in
    let opens = ap (λ t. length t) h.1 in
    omega (arith, opens, length-append h.0 (Plain 91 ∷ map letter left), length-map units letter, length-map left letter)

-- If no bracket follows a core, no text is left after it.
pub core_ends_text : (kind : CoreKind) (text rest : Text) (core : Core) → core_at error_of kind text ≡ Ok ((core, false), rest) → rest ≡ []
core_ends_text kind text rest core is = (core_is kind text rest (core, false) is).1.1

-- ---- a first bracket

abbrev OnBracket : Bool → Text → Read Placed Bracket → Type 0
OnBracket exact inner r = OnRead error_of r (BracketFront exact (Plain 91 ∷ inner)) (λ row. FitsBracket exact row (Plain 91 ∷ inner))

bracket_is : (exact : Bool) (inner rest : Text) (bracket : Bracket) → bracket_by error_of exact inner ≡ Ok (bracket, rest)
    → BracketFront exact (Plain 91 ∷ inner) bracket rest
bracket_is exact inner rest bracket is = subst (OnBracket exact inner) is (bracket_by_read error_of exact inner)

-- The rest after a bracket is not longer than the text.
pub bracket_shortens : (exact : Bool) (letter : ℕ → Letter) (units left : List ℕ) (bracket : Bracket) → bracket_by error_of exact (map letter units) ≡ Ok (bracket, map letter left)
    → length left ≤ length units
bracket_shortens exact letter units left bracket is =
    let h = bracket_is exact _ _ bracket is in
    let opens = bracket_by_takes error_of exact h.0 [] bracket h.2 in
    omega (arith, ap (λ t. length t) h.1, ap (λ t. length t) opens.1, length-append h.0 (map letter left), length-map units letter, length-map left letter)

-- The accesses of a core and of the first bracket after it.
pub opened_looks : {T U : Type 0} (letter : ℕ → Letter) (number : U → ℕ) (kind : CoreKind) (exact : Bool) → exact ≡ has_exact_zones kind
    → (core : Core) (start middle here : Unread) (first : Option (Annotation T U)) (found : IxdtfParseRecord T U)
    → Spends (core_looks (has_exact_zones kind) (length start.rest)) start middle → suc (length middle.rest) ≤ length start.rest
    → (result : Result AfterCore Reason) → ReadsOpenBracket letter number exact core middle result first found here
    → SpendsOr (2 * length middle.rest + 18) (exact_looks exact (length middle.rest) + 16) middle result here
    → SpendsOr (3 * length start.rest + 54) (length start.rest + 54) start result (after_front result here)
opened_looks letter number kind exact same core start middle here first found looks shorter (Ok End) read spent = absurd cc
opened_looks letter number kind exact same core start middle here first found looks shorter (Ok Opens) read spent =
    let within = looks_at_most exact (has_exact_zones kind) same (length start.rest) (length middle.rest) shorter in
    (omega (arith, looks, spent, within), omega (arith, looks, spent))
opened_looks letter number kind exact same core start middle here first found looks shorter (Err stop) read spent =
    let most = core_at_most (has_exact_zones kind) (length start.rest) in
    (omega (arith, looks, spent, shorter, most), omega (arith, looks, spent))

-- ---- the complete text

module _ {T U F : Type 0} (number : U → ℕ) (step : Step T U F) (handler : F) where
  -- The core is refused.
  pub core_refused : (kind : CoreKind) (text : Text) (fault : Placed) → core_at error_of kind text ≡ Err fault
      → TextRead number step handler handler (bracketed kind) text (Err fault)
  core_refused kind text fault is =
      let row = subst (ReadsCore error_of kind text) is (core_read error_of text kind) in
      text_fault number step handler text _ fault (row.0, row.2, sym row.1)

  -- The text is a core, and ends after it.
  pub core_alone : (exact : Bool) (core : Core) (rest : Text) → TextReadAfter number step handler handler exact core false rest (Ok (with_calendar (parsed_with core None) None))
  core_alone exact core rest kind text asked is =
      let h = core_is kind text rest (core, false) is in
      text_derived number step handler text kind core (rw h.1.0 h.2)

  -- The first bracket is refused.
  pub first_refused : (exact : Bool) (core : Core) (inner : Text) (fault : Placed) → bracket_by error_of exact inner ≡ Err fault
      → TextReadAfter number step handler handler exact core true inner (Err fault)
  first_refused exact core inner fault refused kind text asked is =
      let h = core_is kind text inner (core, true) is in
      let row = subst (OnBracket exact inner) refused (bracket_by_read error_of exact inner) in
      let fits : FitsBracket (has_exact_zones kind) row.0 (Plain 91 ∷ inner) = rw asked row.2 in
      text_fault number step handler text _ fault (row.0, after_core_by kind row.0 text h.0 (Plain 91 ∷ inner) h.1 (core, h.2) fits, sym row.1)

  -- A first bracket was read, and the annotations after it.
  pub first_read : (exact : Bool) (core : Core) (inner : Text) (last : F) (bracket : Bracket) (rest : Text) (result : Result (Option Pair) Placed)
      → bracket_by error_of exact inner ≡ Ok (bracket, rest) → PairsRead number step handler last (pairs_in bracket) rest result
      → TextReadAfter number step handler last exact core true inner (text_result core bracket result)
  first_read exact core inner last bracket rest result read pairs kind text asked is =
      let h = core_is kind text inner (core, true) is in
      let b = bracket_is exact inner rest bracket read in
      let stands : IsBracketBy (has_exact_zones kind) b.0 bracket = rw asked b.2 in
      text_read kind text h.0 b.0 rest core bracket (h.1 ∙ ap (λ t. h.0 ++ t) b.1) h.2 stands number step handler last result pairs
