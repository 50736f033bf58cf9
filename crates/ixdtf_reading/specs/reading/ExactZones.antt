-- The test whether a zone in a bracket has the form of RFC 9557 section 4.1 (then it is *exact*), and the reading of a first
-- bracket whose zone must be exact.
use Rattle.std.specs.Prelude.{ℕ, Bool, true, false, [], ◌∷◌, drop, nat_eq, ◌&&◌, if◌then◌else◌, Option, Some, None, Ok, Err}
use Rattle.ixdtf_grammar.specs.language.{Letters.{Text, Class, slash, colon, closing, zone_lead, zone_char, Letter.{Plain, Bad}}, ZoneNames.{Zone, Zone.{Name, Offset}, has_dots}}
use Rattle.ixdtf_grammar.specs.table.{Faults.Fault.{IanaChar, InvalidMinutePrecisionOffset}, LineNames.{LineName.of_bracket, BracketLine, BracketLine.{first_dots_form, first_name_form, first_offset_form}}}
use Rattle.ixdtf_grammar.specs.table.Rows.{Row, Place.anywhere}
use Rattle.ixdtf_reading.specs.reading.{Looks.{Read, ◌>>=◌, row_of}, Runs.on_letter, FixedPlaces.byte_place, Brackets.{Bracket, zoned, paired, bracket_at}}

-- The class of `.`.
abbrev pub dot : Class
dot c = nat_eq c 46

-- What was read of a part of a name: nothing, only `.`, only `..`, or code units that can be a complete part.
pub data PartForm : Type 0 where
  part_start one_dot two_dots in_part : PartForm

abbrev pub form_after : PartForm → ℕ → Option PartForm
form_after part_start c = if dot c then Some one_dot else (if zone_lead c then Some in_part else None)
form_after one_dot c = if dot c then Some two_dots else (if zone_char c then Some in_part else None)
form_after two_dots c = if zone_char c then Some in_part else None
form_after in_part c = if zone_char c then Some in_part else (if slash c then Some part_start else None)

abbrev pub may_end : PartForm → Bool
may_end part_start = false
may_end one_dot = false
may_end two_dots = false
may_end in_part = true

-- Whether the text begins with exact parts, a slash between each two, and then `]`. `form` is what was read of the first part.
unfoldable pub has_parts : PartForm → Text → Bool
has_parts form [] = false
has_parts form (Bad ∷ rest) = false
has_parts form (Plain c ∷ rest) = on_letter (form_after form c) (λ next. has_parts next rest) (may_end form && closing c)

-- Whether a zone that was read at the beginning of this text is exact.
abbrev pub is_exact : Zone → Text → Bool
is_exact (Name name) text = has_parts part_start text
is_exact (Offset offset) text = colon (byte_place 3 text)

-- The text of a zone, after the `!` of its bracket, if there is one.
abbrev pub behind_flag : Bool → Text → Text
behind_flag true text = drop 1 text
behind_flag false text = text

-- The table line of a name that is not exact. The argument says whether one of its parts is `.` or `..`.
abbrev pub name_line : Bool → BracketLine
name_line true = first_dots_form
name_line false = first_name_form

-- The table row of a zone that is not exact.
abbrev pub form_row : Zone → Text → Row
form_row (Name name) rest = row_of (of_bracket (name_line (has_dots name))) (anywhere rest) IanaChar
form_row (Offset offset) rest = row_of (of_bracket first_offset_form) (anywhere rest) InvalidMinutePrecisionOffset

-- The result of reading a bracket, if its zone must be exact. `text` is the text after the `[`, and `rest` that after the `]`.
abbrev pub checked : {E : Type 0} → (Row → E) → Text → Bracket → Text → Read E Bracket
checked fault text (paired pair) rest = Ok (paired pair, rest)
checked fault text (zoned note) rest =
    if is_exact note.zone (behind_flag note.critical text) then Ok (zoned note, rest) else Err (fault (form_row note.zone rest))

-- Reads a first bracket after its `[`. The second argument says whether a zone must be exact.
abbrev pub bracket_by : {E : Type 0} → (Row → E) → Bool → Text → Read E Bracket
bracket_by fault true text = bracket_at fault text >>= λ bracket. checked fault text bracket.0 bracket.1
bracket_by fault false text = bracket_at fault text
