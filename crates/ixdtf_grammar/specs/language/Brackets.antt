-- Brackets: zones (`time-zone` of RFC 9557 section 4.1), annotations with a key and a value (`suffix-tag`), and the rule that says
-- whether the first bracket of a text is a zone or an annotation.
use Rattle.std.specs.Prelude.{◌≡◌, Bool, true, false, [], ◌∷◌, ◌++◌, Option, Some, None, not, ◌&&◌, ◌||◌, ℕ, List, map}
use Rattle.ixdtf_grammar.specs.language.Letters.{Text, Class, zone_lead, key_lead, opening, closing, exclamation, equals, hyphen, key_char, value_char}
use Rattle.ixdtf_grammar.specs.language.{Letters.Letter.Plain, Shapes.{Shape, one, ◌then◌, ◌either◌, many, anything}, ZoneNames.{Zone, IsZone, IsExactZone}}

-- A zone annotation has a zone, and is critical or not.
pub record ZoneNote : Type 0 where
  pub critical : Bool
  pub zone : Zone

-- The text is `[`, followed by `!` if the bracket is critical.
abbrev pub Opens : Text → Bool → Type 0
Opens text true = (one opening then one exclamation) text
Opens text false = one opening text

-- The text is `[`, an optional `!`, a zone, and `]`.
pub record IsZoneBracket (text : Text) (note : ZoneNote) : Type 0 where
  pub start : Text
  pub inside : Text
  pub is : text ≡ start ++ (inside ++ (Plain 93 ∷ []))
  pub opens : Opens start note.critical
  pub zone : IsZone inside note.zone

-- The text is exactly a `time-zone` of RFC 9557: `time-zone = "[" critical-flag time-zone-name / time-numoffset "]"`.
pub record IsExactBracket (text : Text) (note : ZoneNote) : Type 0 where
  pub start : Text
  pub inside : Text
  pub is : text ≡ start ++ (inside ++ (Plain 93 ∷ []))
  pub opens : Opens start note.critical
  pub zone : IsExactZone inside note.zone

-- If a zone annotation has to be exact, it must also be an `IsExactBracket`.
abbrev pub MayStand : Bool → Text → ZoneNote → Type 0
MayStand true text note = IsExactBracket text note
MayStand false text note = Unit {0}

abbrev pub OptionalBracket : Bool → Text → Option ZoneNote → Type 0
OptionalBracket exact text None = text ≡ []
OptionalBracket exact text (Some note) = IsZoneBracket text note × MayStand exact text note

-- ---- zone or key

-- The class has the code units with which a zone name can begin, but a key cannot.
abbrev pub zone_only_lead : Class
zone_only_lead c = zone_lead c && not (key_lead c)

-- The class has all code units except `=` and `]`.
abbrev pub skipped : Class
skipped c = not (equals c || closing c)

-- The first `=` or `]` of the text is in the class, and no bad code unit is before it.
abbrev pub FirstIs : Class → Shape
FirstIs class = many (one skipped) then one class then anything

-- A zone name begins here. If a key can begin with the first code unit too, then a `]` is before the first `=`.
abbrev pub ReadsAsName : Shape
ReadsAsName = (one zone_only_lead then anything) either (one key_lead then FirstIs closing)

-- An annotation has a key and a value, as the numbers of their code units, and is critical or not.
pub record Pair : Type 0 where
  pub critical : Bool
  pub key : List ℕ
  pub value : List ℕ

abbrev pub Key : Shape
Key = one key_lead then many (one key_char)

-- The text has one or more code units of a value.
abbrev pub ValueRun : Shape
ValueRun = one value_char then many (one value_char)

-- The text has one or more runs of code units, with a hyphen between each two of them.
abbrev pub Value : Shape
Value = ValueRun then many (one hyphen then ValueRun)

-- The text is `[`, an optional `!`, a key, `=`, a value and `]`.
pub record IsPair (text : Text) (pair : Pair) : Type 0 where
  pub start : Text
  pub keys : Text
  pub values : Text
  pub is : text ≡ start ++ (keys ++ (Plain 61 ∷ (values ++ (Plain 93 ∷ []))))
  pub opens : Opens start pair.critical
  pub is_key : Key keys
  pub is_value : Value values
  pub key : keys ≡ map Plain pair.key
  pub value : values ≡ map Plain pair.value

-- The text has the brackets of these annotations, in this order.
abbrev pub ArePairs : Text → List Pair → Type 0
ArePairs text [] = text ≡ []
ArePairs text (pair ∷ pairs) = (first rest : Text) × (text ≡ first ++ rest) × IsPair first pair × ArePairs rest pairs

-- The text has at most one zone annotation, and then any number of annotations. If `exact` is true, the zone has to be exact.
abbrev pub IsTail : Bool → Text → Option ZoneNote → List Pair → Type 0
IsTail exact text zone pairs = (first rest : Text) × (text ≡ first ++ rest) × OptionalBracket exact first zone × ArePairs rest pairs

-- In the first bracket, a key begins here: an `=` is before the first `]`.
abbrev pub ReadsAsPair : Shape
ReadsAsPair = one key_lead then FirstIs equals
