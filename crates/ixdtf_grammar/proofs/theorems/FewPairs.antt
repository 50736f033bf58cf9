-- A text has at least five code units for each of its annotations, because the shortest annotation has the form `[a=b]`.
use Rattle.std.proofs.{Common.{◌≡◌, ℕ, ◌≤◌, ◌*◌, Bool, true, false, List, [], ◌∷◌, ◌++◌, length, inl, inr, arith}, lemmas.List.length-append}
use Rattle.ixdtf_grammar.specs.language.{Letters.{Text, Class, Letter.Plain}, Shapes.{Shape, one, ◌then◌}, Times.Clock.Time, Readers.CoreKind}
use Rattle.ixdtf_grammar.specs.language.Brackets.{Pair, IsPair, ArePairs, Opens, Value}
use Rattle.ixdtf_grammar.specs.{language.{Readers.Reader.bracketed, Languages.{Found, Derives, Derives.as_parsed}}, table.{Faults.Fault, LineNames.LineName}}
use Rattle.ixdtf_grammar.specs.table.LineNames.{ZoneLine.{identifier_start, zone_name_start}, BracketLine.after_bracket}
use Rattle.ixdtf_grammar.specs.table.LineNames.{PairLine.{key_start, critical_key_start}, LineName.{of_clock, of_zone, of_bracket, of_pair, of_duration}}
use Rattle.ixdtf_grammar.specs.{table.{Before.{BeforeBracketed, Bracketed, BeforeKey}, Outcomes.HasFault}, Handlers.{Reply, GivesFault}}

-- A part of a text is not longer than the text.
part_few : (front rest : Text) (n : ℕ) → n ≤ length rest → n ≤ length (front ++ rest)
part_few front rest n few = omega (arith, length-append front rest, few)

front_few : (front rest : Text) (n : ℕ) → n ≤ length front → n ≤ length (front ++ rest)
front_few front rest n few = omega (arith, length-append front rest, few)

-- A text that begins with a code unit of a class has at least one code unit.
one_some : (class : Class) (rest : Shape) (text : Text) → (one class then rest) text → 1 ≤ length text
one_some class rest text (first, second, is, (c, one, _), _) = rw (is, one) (omega arith)

opens_some : (text : Text) (critical : Bool) → Opens text critical → 1 ≤ length text
opens_some text true is = one_some _ _ text is
opens_some text false (c, one, _) = rw one (omega arith)

value_some : (text : Text) → Value text → 1 ≤ length text
value_some text (run, more, is, some, _) = rw is (front_few run more 1 (one_some _ _ run some))

-- An annotation has at least five code units: `[`, one of a key, `=`, one of a value, and `]`.
pair_five : (text : Text) (pair : Pair) → IsPair text pair → 5 ≤ length text
pair_five text pair is = rw is.is (omega (
  arith,
  length-append is.start (is.keys ++ (Plain 61 ∷ (is.values ++ (Plain 93 ∷ [])))),
  length-append is.keys (Plain 61 ∷ (is.values ++ (Plain 93 ∷ []))),
  length-append is.values (Plain 93 ∷ []),
  opens_some is.start pair.critical is.opens,
  one_some _ _ is.keys is.is_key,
  value_some is.values is.is_value,
))

are_few : (text : Text) (pairs : List Pair) → ArePairs text pairs → 5 * length pairs ≤ length text
are_few text [] are = omega arith
are_few text (pair ∷ pairs) (first, rest, is, one, are) = rw is
    (omega (arith, length-append first rest, pair_five first pair one, are_few rest pairs are))

bracketed_few : (kind : CoreKind) (pairs : List Pair) (before : Text) → Bracketed kind pairs before → 5 * length pairs ≤ length before
bracketed_few kind pairs before (cores, brackets, is, core, _, (first, rest, whole, bracket, are), some) =
    rw (is, whole) (part_few cores _ _ (part_few first rest _ (are_few rest pairs are)))

none_few : (pairs : List Pair) (before : Text) → pairs ≡ [] → 5 * length pairs ≤ length before
none_few pairs before none = rw none (omega arith)

key_few : (kind : CoreKind) (pairs : List Pair) (before rest : Text) → BeforeKey kind pairs before rest → 5 * length pairs ≤ length before
key_few kind pairs before rest (inl p) = none_few pairs before p.2
key_few kind pairs before rest (inr (first, second, is, brackets, opens)) = rw is (front_few first second _ (bracketed_few kind pairs first brackets))

before_few : (kind : CoreKind) (name : LineName) (pairs : List Pair) (before rest : Text) → BeforeBracketed kind name pairs before rest
    → 5 * length pairs ≤ length before
before_few kind (of_pair key_start) pairs before rest p = bracketed_few kind pairs before p
before_few kind (of_pair critical_key_start) pairs before rest p = bracketed_few kind pairs before p
before_few kind (of_pair line) pairs before rest p = key_few kind pairs before rest p
before_few kind (of_bracket after_bracket) pairs before rest p = bracketed_few kind pairs before p
before_few kind (of_duration profile line) pairs before rest p = absurd p
before_few kind (of_zone identifier_start) pairs before rest p = absurd p
before_few kind (of_zone zone_name_start) pairs before rest p = absurd p
before_few kind (of_clock Time line) pairs before rest p = none_few pairs before p.1
before_few kind name pairs before rest p = none_few pairs before p.1

-- If the text has an error with these annotations before it, it has at least five code units for each of them.
pub fault_few : (kind : CoreKind) (text : Text) (pairs : List Pair) (fault : Fault) → HasFault (bracketed kind) text pairs fault → 5 * length pairs ≤ length text
fault_few kind text pairs fault (row, (before, rest, is, stands, here), has) =
    rw is (front_few before rest _ (before_few kind row.name pairs before rest stands))

-- If the grammar derives a value from the text with these annotations, the text has at least five code units for each of them.
pub derived_few : (kind : CoreKind) (text : Text) (found : Found) (pairs : List Pair) → Derives (bracketed kind) text found pairs → 5 * length pairs ≤ length text
derived_few kind text found pairs (as_parsed whole) = let tail = whole.is_tail in
    rw (whole.is, tail.2) (part_few whole.cores _ _ (part_few tail.0 tail.1 _ (are_few tail.1 pairs tail.4)))

-- If the text with these annotations and the replies gives an error, the text has at least five code units for each annotation.
pub gives_few : (kind : CoreKind) (text : Text) (pairs : List Pair) (replies : List Reply) (fault : Fault)
    → GivesFault (bracketed kind) text pairs replies fault → 5 * length pairs ≤ length text
gives_few kind text pairs replies fault (inl ((front, rest, is, read, whole), last)) = rw is (front_few front rest _ (derived_few kind front _ pairs whole))
gives_few kind text pairs replies fault (inr p) = fault_few kind text pairs fault p.0
