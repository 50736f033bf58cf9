-- The reading functions of complete texts.
use Rattle.std.specs.Prelude.{Bool, None, Ok, Err, List, [], suc, length, if◌then◌else◌}
use Rattle.ixdtf_grammar.specs.language.{Letters.Text, Cores.Core, Brackets.Pair, Readers.{Reader, CoreKind, has_exact_zones}}
use Rattle.ixdtf_grammar.specs.language.Readers.Reader.{bracketed, parse_rfc3339, parse_offset, parse_identifier, parse_iana_identifier, parse_duration}
use Rattle.ixdtf_grammar.specs.{language.Languages.{Parsed, parsed_with, Found, Found.{parsed, dated, shifted, identified, named, lasting}}, table.Rows.Row}
use Rattle.ixdtf_grammar.specs.table.Outcomes.{Outcome, Outcome.{derived, refused}}
use Rattle.ixdtf_reading.specs.reading.{Looks.{Read, ◌>>=◌}, Durations.duration_at, Zones.{offset_at, identifier_at, iana_identifier_at}, Pairs.pairs_at}
use Rattle.ixdtf_reading.specs.reading.{DateTimes.rfc_3339_at, Cores.{ClosedCore, core_at}, Brackets.{Bracket, zone_in, pairs_in}, ExactZones.bracket_by}

-- Reads the other brackets after a core and a first bracket, up to the end of the text.
unfoldable pub bracketed_at : {E : Type 0} → (List Pair → Row → E) → Core → Bracket → Text → Read E (Parsed × List Pair)
bracketed_at fault core bracket text = do
  pairs ← pairs_at fault (suc (length text)) (pairs_in bracket) text
  Ok ((parsed_with core (zone_in bracket), pairs.0), pairs.1)

-- Reads the brackets after a core and `[`, up to the end of the text. `exact` says whether a zone must be exact.
unfoldable pub annotated_at : {E : Type 0} → (List Pair → Row → E) → Bool → Core → Text → Read E (Parsed × List Pair)
annotated_at fault exact core text = do
  bracket ← bracket_by (fault []) exact text
  bracketed_at fault core bracket.0 bracket.1

-- Reads the brackets after a core, if a `[` followed it. This `[` has been consumed.
abbrev pub tail_at : {E : Type 0} → (List Pair → Row → E) → Bool → ClosedCore → Text → Read E (Parsed × List Pair)
tail_at fault exact core text = if core.1 then annotated_at fault exact core.0 text else Ok ((parsed_with core.0 None, []), text)

-- Reads a core of this kind, the optional brackets for a zone and for annotations, and the end of the text.
unfoldable pub bracketed_text_at : {E : Type 0} → (List Pair → Row → E) → CoreKind → Text → Read E (Parsed × List Pair)
bracketed_text_at fault kind text = do
  core ← core_at (fault []) kind text
  tail_at fault (has_exact_zones kind) core.0 core.1

-- The result as a `Found`, with the annotations.
abbrev pub with_pairs : {E : Type 0} → Read E (Parsed × List Pair) → Read E (Found × List Pair)
with_pairs (Ok x) = Ok ((parsed x.0.0, x.0.1), x.1)
with_pairs (Err e) = Err e

-- The result as a `Found`, for a reader that reads no annotations.
abbrev pub finding : {E A : Type 0} → (A → Found) → Read E A → Read E (Found × List Pair)
finding found (Ok x) = Ok ((found x.0, []), x.1)
finding found (Err e) = Err e

abbrev pub read_at : {E : Type 0} → (List Pair → Row → E) → Reader → Text → Read E (Found × List Pair)
read_at fault (bracketed kind) text = with_pairs (bracketed_text_at fault kind text)
read_at fault parse_rfc3339 text = finding dated (rfc_3339_at (fault []) text)
read_at fault parse_offset text = finding shifted (offset_at (fault []) text)
read_at fault parse_identifier text = finding identified (identifier_at (fault []) text)
read_at fault parse_iana_identifier text = finding named (iana_identifier_at (fault []) text)
read_at fault (parse_duration profile) text = finding lasting (duration_at (fault []) profile text)

-- A table row, and the annotations before its position.
abbrev pub RowBehind : Type 0
RowBehind = List Pair × Row

abbrev pub row_behind : List Pair → Row → RowBehind
row_behind pairs row = (pairs, row)

-- The outcome for a text: what the grammar derives, or the row that fits.
abbrev pub outcome_of : Read RowBehind (Found × List Pair) → Outcome
outcome_of (Ok x) = derived x.0.0 x.0.1
outcome_of (Err e) = refused e.1 e.0

abbrev pub outcome : Reader → Text → Outcome
outcome reader text = outcome_of (read_at row_behind reader text)
