-- Plain texts: a text is plain if it has no bad code unit. Each text of a shape of the grammar is plain. The shapes of durations are in
-- PlainDurations. A core, and the text in a bracket, have only code units of ASCII.
use Rattle.std.proofs.Common.{ℕ, suc, Bool, true, false, List, [], ◌∷◌, ◌++◌, Option, Some, None, inl, inr, refl, arith}
use Rattle.std.proofs.lemmas.Bool.Decides.{nat_tests}
use Rattle.ixdtf_grammar.specs.declared.records.{DateRecord.DateRecord, TimeRecord.TimeRecord}
use Rattle.ixdtf_grammar.specs.language.{Letters.{Text, Class, any, zone_char, value_char, Letter.Plain}, Shapes.{Shape, one, digits, fewer_digits_than, some}}
use Rattle.ixdtf_grammar.specs.language.{Dates.IsDate, Times.{Clock, TimeShape, IsTime}, Fractions.SomeDigits, Offsets.IsSigned}
use Rattle.ixdtf_grammar.specs.language.{ZoneNames.{ZoneName, Zone, IsZone}, Brackets.{ZoneNote, Opens, IsZoneBracket, OptionalBracket, Pair, Key, ValueRun, Value, ArePairs, IsTail}}
use Rattle.ixdtf_grammar.specs.language.{Cores.{Core, TimeMark, MarkedTime, IsCore}, Readers.CoreKind}
use Rattle.ixdtf_grammar.proofs.{parts.CoreLetters.{core_unit, AllInside}, theorems.CoreEnds.{in_date, in_clock, in_signed, in_marked_time, core_inside}}
use Rattle.ixdtf_grammar.proofs.parts.Classes.{ascii, AllOf, all_append, Within, all_within, PlainOf, one_of, all_digits}
pub use Rattle.ixdtf_grammar.proofs.parts.Classes.{plain_nowhere, plain_nothing, ◌and_then◌, ◌or_else◌, plain_many, plain_some}

-- The text has no bad code unit.
abbrev pub IsPlain : Text → Type 0
IsPlain text = AllOf any text

pub plain_append : (a b : Text) → IsPlain a → IsPlain b → IsPlain (a ++ b)
plain_append a b h g = all_append any a b h g

pub is_plain : (class : Class) (text : Text) → AllOf class text → IsPlain text
is_plain class text h = all_within (λ c k. refl) text h

-- ---- shapes

-- Each text of the shape is plain.
abbrev pub PlainShape : Shape → Type 0
PlainShape shape = PlainOf any shape

pub plain_shape : {class : Class} {shape : Shape} → PlainOf class shape → PlainShape shape
plain_shape x = record { plain = λ text h. is_plain _ text (x.plain text h) }

pub plain_one : {class : Class} → PlainShape (one class)
plain_one = one_of (λ c h. refl)

pub plain_digits : (n : ℕ) → PlainShape (digits n)
plain_digits n = record { plain = all_digits (λ c h. refl) n }

pub plain_fewer : {n : ℕ} → PlainShape (fewer_digits_than n)
plain_fewer = record { plain = λ text h. (plain_digits h.0).plain text h.2 }

pub plain_some_digits : PlainShape SomeDigits
plain_some_digits = record { plain = λ text h. (plain_digits (suc h.0)).plain text h.1 }

-- A shape stays plain with a further condition on the text.
pub plain_with : {shape more : Shape} → PlainShape shape → PlainShape (λ text. shape text × more text)
plain_with x = record { plain = λ text h. x.plain text h.0 }

-- A shape stays plain with a condition that does not depend on the text.
pub plain_where : {shape : Shape} {known : Type 0} → PlainShape shape → PlainShape (λ text. known × shape text)
plain_where x = record { plain = λ text h. x.plain text h.1 }

-- A shape is plain if each of its texts has only code units of cores.
pub plain_inside : {V : Type 0} {part : Text → V → Type 0} → ((text : Text) (value : V) → part text value → AllInside text) → PlainShape (some part)
plain_inside h = plain_shape (plain_some h)

-- ---- cores

pub date_plain : (text : Text) (date : DateRecord) → IsDate text date → IsPlain text
date_plain text date h = is_plain _ text (in_date text date h.0)

pub time_plain : (text : Text) (time : TimeRecord) → IsTime text time → IsPlain text
time_plain text time h = is_plain _ text (in_clock _ h.0 text time h.1)

pub signed_plain : {O : Type 0} (clock : Clock) (record_of : ℕ → TimeShape → TimeRecord → O) (text : Text) (offset : O) → IsSigned clock record_of text offset
    → IsPlain text
signed_plain clock record_of text offset h = is_plain _ text (in_signed clock record_of text offset h)

pub plain_mark : PlainShape TimeMark
plain_mark = plain_nothing or_else plain_one

pub marked_plain : (text : Text) (core : Core) → MarkedTime text core → IsPlain text
marked_plain text core h = is_plain _ text (in_marked_time text core h)

pub core_plain : (kind : CoreKind) (text : Text) (core : Core) → IsCore kind text core → IsPlain text
core_plain kind text core h = is_plain _ text (core_inside kind text core h)

-- ---- zones and brackets

ascii_name : PlainOf ascii ZoneName
ascii_name =
    let char : PlainOf ascii (one zone_char) = one_of (λ c h. grind (arith, nat_tests, h)) in
    one_of (λ c h. grind (arith, nat_tests, h)) and_then plain_many (char or_else one_of (λ c h. grind (arith, nat_tests, h)) and_then char)

ascii_key : PlainOf ascii Key
ascii_key = one_of (λ c h. grind (arith, nat_tests, h)) and_then plain_many (one_of (λ c h. grind (arith, nat_tests, h)))

ascii_value : PlainOf ascii Value
ascii_value =
    let char : PlainOf ascii (one value_char) = one_of (λ c h. grind (arith, nat_tests, h)) in
    let run : PlainOf ascii ValueRun = char and_then plain_many char in
    run and_then plain_many (one_of (λ c h. grind (arith, nat_tests, h)) and_then run)

pub plain_name : PlainShape ZoneName
plain_name = plain_shape ascii_name

pub plain_key : PlainShape Key
plain_key = plain_shape ascii_key

pub plain_value : PlainShape Value
plain_value = plain_shape ascii_value

-- A code unit of a core is a code unit of ASCII.
pub core_ascii : Within core_unit ascii
core_ascii c h = grind (arith, nat_tests, h)

zone_ascii : (text : Text) (zone : Zone) → IsZone text zone → AllOf ascii text
zone_ascii text zone (inl h) = ascii_name.plain text h.1.0
zone_ascii text zone (inr h) = all_within core_ascii text (in_signed _ _ text h.0 h.1)

pub zone_plain : (text : Text) (zone : Zone) → IsZone text zone → IsPlain text
zone_plain text zone h = is_plain _ text (zone_ascii text zone h)

ascii_opens : (text : Text) (critical : Bool) → Opens text critical → AllOf ascii text
ascii_opens text true h = (one_of (λ c k. grind (arith, nat_tests, k)) and_then one_of (λ c k. grind (arith, nat_tests, k))).plain text h
ascii_opens text false h = (one_of (λ c k. grind (arith, nat_tests, k))).plain text h

pub opens_plain : (text : Text) (critical : Bool) → Opens text critical → IsPlain text
opens_plain text critical h = is_plain _ text (ascii_opens text critical h)

zone_bracket_ascii : (text : Text) (note : ZoneNote) → IsZoneBracket text note → AllOf ascii text
zone_bracket_ascii text note h =
    rw h.is (all_append _ h.start _ (ascii_opens _ _ h.opens) (all_append _ h.inside _ (zone_ascii _ _ h.zone) (refl, tt)))

pub zone_bracket_plain : (text : Text) (note : ZoneNote) → IsZoneBracket text note → IsPlain text
zone_bracket_plain text note h = is_plain _ text (zone_bracket_ascii text note h)

optional_bracket_ascii : (exact : Bool) (text : Text) (note : Option ZoneNote) → OptionalBracket exact text note → AllOf ascii text
optional_bracket_ascii exact text None h = rw h tt
optional_bracket_ascii exact text (Some note) h = zone_bracket_ascii text note h.0

pairs_ascii : (text : Text) (pairs : List Pair) → ArePairs text pairs → AllOf ascii text
pairs_ascii text [] h = rw h tt
pairs_ascii text (pair ∷ pairs) h =
    let p = h.3 in
    rw (h.2, p.is) (all_append _ (p.start ++ (p.keys ++ (Plain 61 ∷ (p.values ++ (Plain 93 ∷ []))))) h.1
    (all_append _ p.start _ (ascii_opens _ _ p.opens)
    (all_append _ p.keys _ (ascii_key.plain _ p.is_key) (refl, all_append _ p.values (Plain 93 ∷ []) (ascii_value.plain _ p.is_value) (refl, tt))))
    (pairs_ascii h.1 pairs h.4))

pub tail_ascii : (exact : Bool) (text : Text) (zone : Option ZoneNote) (pairs : List Pair) → IsTail exact text zone pairs → AllOf ascii text
tail_ascii exact text note pairs h = rw h.2 (all_append _ h.0 h.1 (optional_bracket_ascii exact h.0 note h.3) (pairs_ascii h.1 pairs h.4))

pub tail_plain : (exact : Bool) (text : Text) (zone : Option ZoneNote) (pairs : List Pair) → IsTail exact text zone pairs → IsPlain text
tail_plain exact text note pairs h = is_plain _ text (tail_ascii exact text note pairs h)
