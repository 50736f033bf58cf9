-- What the code returns for the annotations after complete brackets, and for a complete text, if it made these calls of the
-- handler. No public clause refers to this.
use Rattle.ixdtf_grammar.specs.declared.reason.Reason.{Reason}
use Rattle.std.specs.Prelude.{◌≡◌, ◌⊎◌, true, ℕ, ◌+◌, ◌-◌, ◌*◌, length, Bool, List, ◌++◌, Option, Result, Ok, Err, [], Some, None, ◌∷◌}
use Rattle.ixdtf_grammar.specs.{declared.records.Annotation.Annotation}
use Rattle.ixdtf_grammar.specs.language.{Letters.Text, Shapes.some, Brackets.{Pair, ArePairs, Opens}, Cores.Core, Languages.{Parsed, Derives, Found.parsed}}
use Rattle.ixdtf_grammar.specs.{language.Readers.{Reader, CoreKind, has_brackets, has_exact_zones, Reader.bracketed}, table.LineNames.{LineName, PairLine}}
use Rattle.ixdtf_grammar.specs.table.LineNames.LineName.{of_core, of_clock, of_offset, of_date_time, of_zone, of_bracket, of_pair, of_duration}
use Rattle.ixdtf_grammar.specs.table.LineNames.BracketLine.{first_bracket_start, first_critical_start, first_bracket_scan, first_dots_form, first_name_form, first_offset_form, after_bracket}
use Rattle.ixdtf_grammar.specs.table.LineNames.PairLine.{key_start, critical_key_start, in_key, value_start, in_value, after_value_hyphen}
use Rattle.ixdtf_grammar.specs.table.Rows.{Row, Fits, FitsHere}
use Rattle.ixdtf_grammar.specs.Handlers.{Reply, first_calendar, GivesRecord, NoneRefused, LastRefused, Calls, handed, replies_of, Step, IsChain}
use Rattle.ixdtf_grammar.specs.table.Faults.{Fault}
use Rattle.ixdtf_reading.specs.{declared.stop.StopAt.StopAt, reading.{Looks.{Placed, error_of}, Cores.core_at, Stops.{Refuses, fault_at, fault_of_code}}}

-- The text between complete brackets and the prefix of a table line of annotations.
abbrev pub BeforePair : PairLine → Text → Type 0
BeforePair key_start before = before ≡ []
BeforePair critical_key_start before = before ≡ []
BeforePair in_key before = some Opens before
BeforePair value_start before = some Opens before
BeforePair in_value before = some Opens before
BeforePair after_value_hyphen before = some Opens before

-- As above, for any table line of what follows complete brackets.
abbrev pub AfterBrackets : LineName → Text → Type 0
AfterBrackets (of_pair line) before = BeforePair line before
AfterBrackets (of_bracket after_bracket) before = before ≡ []
AfterBrackets (of_bracket first_bracket_start) before = ⊥
AfterBrackets (of_bracket first_critical_start) before = ⊥
AfterBrackets (of_bracket first_bracket_scan) before = ⊥
AfterBrackets (of_bracket first_dots_form) before = ⊥
AfterBrackets (of_bracket first_name_form) before = ⊥
AfterBrackets (of_bracket first_offset_form) before = ⊥
AfterBrackets (of_core line) before = ⊥
AfterBrackets (of_clock clock line) before = ⊥
AfterBrackets (of_offset line) before = ⊥
AfterBrackets (of_date_time line) before = ⊥
AfterBrackets (of_zone line) before = ⊥
AfterBrackets (of_duration profile line) before = ⊥

-- The row fits the text after complete brackets.
abbrev pub FitsAfterBrackets : Row → Text → Type 0
FitsAfterBrackets row text = (before rest : Text) × (text ≡ before ++ rest) × AfterBrackets row.name before × FitsHere true row rest

-- The text after complete brackets consists of these annotations, up to `rest`.
abbrev pub PairsUpTo : Text → List Pair → Text → Type 0
PairsUpTo text pairs rest = (front : Text) × (text ≡ front ++ rest) × ArePairs front pairs

-- The `Reason` is that of a refused annotation: the last reply is refused with its error.
abbrev pub LastStops : List Reply → Reason → Type 0
LastStops replies stop = (fault : Fault) × LastRefused replies fault × Refuses stop fault

-- The result for the text after the first annotations. `more` has the annotations of this text, and `replies` the replies to all
-- annotations. Either the last reply is refused at the beginning of `rest`, or the `Reason` is that of a row, at its position.
abbrev pub PairsGive : Text → List Pair → List Reply → Result (Option Pair) Placed → Type 0
PairsGive text more replies (Ok calendar) = ArePairs text more × NoneRefused replies × (calendar ≡ first_calendar replies)
PairsGive text more replies (Err placed) = (rest : Text) × PairsUpTo text more rest
    × ((LastStops replies placed.0 × (rest ≡ placed.1)) ⊎ (((row : Row) × FitsAfterBrackets row rest × (error_of row ≡ placed)) × NoneRefused replies))

-- The result for a text, by the replies to its annotations. Either the last reply is refused after a prefix that the grammar
-- derives, or the `Reason` is that of a row, at its position.
abbrev pub TextGives : Reader → Text → List Pair → List Reply → Result Parsed Placed → Type 0
TextGives reader text pairs replies (Ok found) = GivesRecord reader text pairs replies found
TextGives reader text pairs replies (Err placed) =
    (((front : Text) × (text ≡ front ++ placed.1) × (read : Parsed) × Derives reader front (parsed read) pairs) × LastStops replies placed.0)
    ⊎ (((row : Row) × Fits reader row pairs text × (error_of row ≡ placed)) × NoneRefused replies)

-- A list of at most one annotation.
abbrev pub first_pairs : Option Pair → List Pair
first_pairs None = []
first_pairs (Some pair) = pair ∷ []

-- The number of code units of the value of a reply. It is 0 if the handler dropped the annotation.
abbrev pub reply_units : {T U : Type 0} → Option (Annotation T U) → ℕ
reply_units None = 0
reply_units (Some reply) = length reply.value.now

-- A step of a handler, and a count. The value of a reply can be longer than that of the annotation.
-- The count grows by 2 for each additional code unit.
abbrev pub Counting : {T U F : Type 0} → Step T U F → Step T U (F × ℕ)
Counting step here annotation reply next =
    step here.0 annotation reply next.0 × (next.1 ≡ here.1 + 2 * (reply_units reply - length annotation.value.now))

module _ {T U F : Type 0} (number : U → ℕ) (step : Step T U F) (handler last : F) where
  -- The statement for a chain of calls with the first annotations, and with `more` annotations of the text.
  pub record PairsRead (first : List Pair) (text : Text) (result : Result (Option Pair) Placed) : Type 0 where
    pub calls : Calls T U
    pub chain : IsChain step handler calls last
    pub more : List Pair
    pub all : handed number calls ≡ first ++ more
    pub gives : PairsGive text more (replies_of number calls) result

  -- The statement for a chain of calls with annotations of the text.
  pub record TextRead (reader : Reader) (text : Text) (result : Result Parsed Placed) : Type 0 where
    pub calls : Calls T U
    pub chain : IsChain step handler calls last
    pub gives : TextGives reader text (handed number calls) (replies_of number calls) result

  -- The statement for any text of which this core was read, and for which `rest` is left. `has_bracket` says whether a bracket
  -- follows the core, and `exact` whether a zone must be exact.
  abbrev pub TextReadAfter : Bool → Core → Bool → Text → Result Parsed Placed → Type 0
  TextReadAfter exact core has_bracket rest result =
      (kind : CoreKind) (text : Text) → has_exact_zones kind ≡ exact → core_at error_of kind text ≡ Ok ((core, has_bracket), rest) → TextRead (bracketed kind) text result

  -- The statement for the result for a complete text. The position `at` of a `Reason` is the number of code units before it, and its
  -- code is that of the error.
  abbrev pub TextReadTo : {X : Type 0} → (X → Parsed) → Reader → Text → Result X StopAt → Type 0
  TextReadTo view reader text (Ok x) = TextRead reader text (Ok (view x))
  TextReadTo view reader text (Err why) = (left : Text) × (why.at + length left ≡ length text) × TextRead reader text (Err (why.reason, left))
      × (fault_of_code why.code ≡ fault_at (has_brackets reader) why.reason left)
