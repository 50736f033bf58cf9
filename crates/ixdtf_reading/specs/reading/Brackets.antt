-- The reading functions of a first bracket.
use Rattle.ixdtf_grammar.specs.declared.reason.Reason.{Reason}
use Rattle.std.specs.Prelude.{ℕ, Bool, true, false, List, [], ◌∷◌, drop, Result, Ok, Err, if◌then◌else◌, Option, Some, None}
use Rattle.ixdtf_grammar.specs.language.{Times.{Clock as clocks}, Letters.{Text, Class, sign, equals, closing, exclamation, key_lead, Letter.{Plain, Bad}}}
use Rattle.ixdtf_grammar.specs.language.{Offsets.minutes_of, ZoneNames.{Zone, Zone.Offset}, Brackets.{ZoneNote, Pair}}
use Rattle.ixdtf_grammar.specs.table.{Faults.Fault.NonAsciiCodePoint, LineNames.{LineName.{of_bracket, of_pair}, PairLine.in_key}}
use Rattle.ixdtf_grammar.specs.table.{LineNames.BracketLine.{first_bracket_start, first_critical_start, first_bracket_scan}, Lines.abrupt_bracket, Rows.Row}
use Rattle.ixdtf_grammar.specs.table.Rows.Place.{end, bad}
use Rattle.ixdtf_reading.specs.reading.{Looks.{Read, Placed, ◌>>=◌, row_of, letter_at, next_by}, Times.clock_at, Pairs.pair_at}
use Rattle.ixdtf_reading.specs.{reading.{Stops.reason_of, Zones.{follow_look, name_line, name_run, name_look, as_zone, zone_readings}}}

-- Whether an `=` comes before any `]`.
unfoldable pub sight_at : {E : Type 0} → (Row → E) → Text → Result Bool E
sight_at fault [] = Err (fault (row_of (of_bracket first_bracket_scan) (end []) abrupt_bracket))
sight_at fault (Bad ∷ rest) = Err (fault (row_of (of_bracket first_bracket_scan) (bad (Bad ∷ rest)) NonAsciiCodePoint))
sight_at fault (Plain c ∷ rest) = if equals c then Ok true else (if closing c then Ok false else sight_at fault rest)

-- The `Reason` of a bracket and the text at its position. If an `=` comes before any `]`, the bracket is an annotation. Then the
-- position is after the code units of its key. If a `]` comes first, it is a zone. Then the position is after those of its name.
abbrev pub refusal : Result Bool Placed → Reason → Text → Text → Placed
refusal (Ok true) name behind_key behind_name = (reason_of (of_pair in_key), behind_key)
refusal (Ok false) name behind_key behind_name = (name, behind_name)
refusal (Err e) name behind_key behind_name = e

-- The `Reason` after the code units of a name. The argument says whether the name can end there.
abbrev pub name_stop : Bool → Reason
name_stop may_end = reason_of (name_line may_end)

-- Whether there is a next code unit, and it is of the class.
abbrev pub next_is : Class → Option ℕ → Bool
next_is class None = false
next_is class (Some c) = class c

-- Reads a name and `]`.
unfoldable pub name_in_bracket_at : {E : Type 0} → (Row → E) → Text → Read E (List ℕ)
name_in_bracket_at fault text = do
  name ← name_run fault true text
  next ← next_by (name_look fault true closing) name.1
  Ok (name.0, next.1)

-- A first bracket: a zone or an annotation.
pub data Bracket : Type 0 where
  zoned : ZoneNote → Bracket
  paired : Pair → Bracket

-- The bracket of a zone, which is critical or not.
abbrev pub noted : {E : Type 0} → Bool → Read E Zone → Read E Bracket
noted critical (Ok x) = Ok (zoned (record { critical = critical; zone = x.0 }), x.1)
noted critical (Err e) = Err e

abbrev pub as_pair : {E : Type 0} → Read E Pair → Read E Bracket
as_pair (Ok x) = Ok (paired x.0, x.1)
as_pair (Err e) = Err e

-- Reads a bracket that begins with a code unit of a key: an annotation if an `=` comes before any `]`, and otherwise a name.
unfoldable pub name_or_pair_at : {E : Type 0} → (Row → E) → Bool → Text → Read E Bracket
name_or_pair_at fault critical text = do
  pair ← sight_at fault text
  if pair then as_pair (pair_at fault critical text) else noted critical (as_zone (name_in_bracket_at fault text))

-- Reads an offset without seconds after its sign, and `]`.
unfoldable pub offset_in_bracket_at : {E : Type 0} → (Row → E) → ℕ → Text → Read E Zone
offset_in_bracket_at fault c text = do
  time ← clock_at fault clocks.MinuteOffset text
  next ← next_by (follow_look fault true clocks.MinuteOffset time.0) time.1
  Ok (Offset (minutes_of c time.0.1), next.1)

-- Reads the content of a first bracket and its `]`. `lead` is the first code unit of the content.
unfoldable pub inside_at : {E : Type 0} → (Row → E) → Bool → ℕ → Text → Read E Bracket
inside_at fault critical lead text =
    if sign lead then noted critical (offset_in_bracket_at fault lead (drop 1 text))
    else (if key_lead lead then name_or_pair_at fault critical text else noted critical (as_zone (name_in_bracket_at fault text)))

-- Reads a first bracket after its `[!`.
unfoldable pub critical_bracket_at : {E : Type 0} → (Row → E) → Text → Read E Bracket
critical_bracket_at fault text = do
  lead ← letter_at fault (of_bracket first_critical_start) text
  inside_at fault true lead.0 text

-- Reads a first bracket after its `[`.
unfoldable pub bracket_at : {E : Type 0} → (Row → E) → Text → Read E Bracket
bracket_at fault text = do
  lead ← letter_at fault (of_bracket first_bracket_start) text
  if exclamation lead.0 then critical_bracket_at fault lead.1 else inside_at fault false lead.0 text

-- The zone of a first bracket, if it is a zone. `pairs_in` has its annotations: one or none.
abbrev pub zone_in : Bracket → Option ZoneNote
zone_in (zoned note) = Some note
zone_in (paired pair) = None

abbrev pub pairs_in : Bracket → List Pair
pairs_in (zoned note) = []
pairs_in (paired pair) = pair ∷ []

-- To unfold this unfolds the reading functions of first brackets and of their content.
unfoldable pub bracket_readings : ℕ
unfolding zone_readings name_in_bracket_at offset_in_bracket_at inside_at critical_bracket_at bracket_at
bracket_readings = 0
