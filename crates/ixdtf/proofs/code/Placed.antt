-- What was read of a complete text, stated for the record into which it was written.
use Rattle.ixdtf_grammar.specs.declared.reason.Reason.{Reason}
use Rattle.std.proofs.Common.{◌≡◌, ℕ, Bool, true, false, List, map, Option, None, Result, Ok, Err, inl, inr, refl, sym, ap, ◌∙◌}
use Rattle.ixdtf_grammar.specs.{declared.records.IxdtfParseRecord.IxdtfParseRecord, language.{Letters.{Letter, Text}, Cores.Core, Brackets.Pair}}
use Rattle.ixdtf_grammar.specs.{language.{Languages.{Parsed, parsed_with}, Readers.{CoreKind, Reader.bracketed, has_exact_zones}}, Handlers.{Step, with_calendar, calendar_value}}
use Rattle.ixdtf_grammar.specs.Views.{Unread, IsEmptyRecord, parsed_of}
use Rattle.ixdtf_reading.specs.reading.{Looks.{Placed, error_of}, Brackets.{Bracket, zone_in, pairs_in}, ExactZones.bracket_by, Chains.{PairsRead, TextRead, TextReadAfter}}
use Rattle.ixdtf_reading.specs.{reading.{Clauses.{Reads, KeepsBrackets, core_in, yielded_at}, DateTimes.rfc_3339_at}}
use Rattle.ixdtf.proofs.code.Tail.{core_alone, core_refused, first_refused, first_read}
use Rattle.ixdtf.specs.Readings.{FrontRefused, PairsReadInto}

-- The record of a text without brackets.
pub no_brackets : {T U : Type 0} (number : U → ℕ) (found : IxdtfParseRecord T U) → found.tz ≡ None → found.calendar ≡ None
    → parsed_of number found ≡ with_calendar (parsed_with (core_in found) None) None
no_brackets number found p q = cc

-- What a function returned that writes into a record, with the record.
abbrev pub returned_with : {R E : Type 0} → R → Result (Unit {0}) E → Result R E
returned_with found (Ok x) = Ok found
returned_with found (Err e) = Err e

-- So a date-time of RFC 3339 is read. No bracket follows it.
pub reads_record : {T U : Type 0} (letter : ℕ → Letter) (number : U → ℕ) (old new : Unread) (found empty : IxdtfParseRecord T U) (result : Result (Unit {0}) Reason)
    → IsEmptyRecord empty → KeepsBrackets empty found
    → Reads letter (λ _. parsed_with (core_in found) None) old result new (rfc_3339_at error_of)
    → Reads letter (parsed_of number) old (returned_with found result) new (rfc_3339_at error_of)
reads_record letter number old new found empty (Ok x) e kept read =
    let whole : parsed_of number found ≡ parsed_with (core_in found) None = no_brackets number found (kept.0 ∙ e.tz) (kept.1 ∙ e.calendar) in
    read ∙ ap (λ p. Ok (p, map letter new.rest)) (sym whole)
reads_record letter number old new found empty (Err stop) e kept read = read

module _ {T U F : Type 0} (number : U → ℕ) (step : Step T U F) (handler : F) where
  pub placed_alone : (exact : Bool) (core : Core) (rest : Text) (found : Parsed) → found ≡ with_calendar (parsed_with core None) None
      → TextReadAfter number step handler handler exact core false rest (Ok found)
  placed_alone exact core rest found is kind text asked read = rw is (core_alone number step handler exact core rest kind text asked read)

  pub placed : {exact : Bool} {core : Core} {inner : Text} {last : F} {bracket : Bracket} {first : List Pair} {rest : Text} {calendar : Option Pair} {found : Parsed}
      → bracket_by error_of exact inner ≡ Ok (bracket, rest) → first ≡ pairs_in bracket → PairsRead number step handler last first rest (Ok calendar)
      → found ≡ with_calendar (parsed_with core (zone_in bracket)) (calendar_value calendar) → TextReadAfter number step handler last exact core true inner (Ok found)
  placed is same pairs has kind text asked read = rw has (first_read number step handler _ _ _ _ _ _ (Ok _) is (rw (← same) pairs) kind text asked read)

  pub placed_fault : {exact : Bool} {core : Core} {inner : Text} {last : F} {bracket : Bracket} {first : List Pair} {rest : Text} {fault : Placed}
      → bracket_by error_of exact inner ≡ Ok (bracket, rest) → first ≡ pairs_in bracket → PairsRead number step handler last first rest (Err fault)
      → TextReadAfter number step handler last exact core true inner (Err fault)
  placed_fault is same pairs = first_read number step handler _ _ _ _ _ _ (Err _) is (rw (← same) pairs)

  -- As the two theorems above. The function wrote the calendar into the record that had the core and the zone.
  pub placed_later : (exact : Bool) (core : Core) (inner : Text) (last : F) (bracket : Bracket) (first : List Pair) (rest : Text) (old new : Parsed)
      → bracket_by error_of exact inner ≡ Ok (bracket, rest) → first ≡ pairs_in bracket → old ≡ parsed_with core (zone_in bracket)
      → (result : Result (Unit {0}) Reason) (left : Text) → PairsReadInto number step handler last first rest old new result left
      → TextReadAfter number step handler last exact core true inner (yielded_at (λ _. new) result left)
  placed_later exact core inner last bracket first rest old new is same zone (Ok x) left (calendar, pairs, has) =
      placed is same pairs (has ∙ ap (λ (p : Parsed). with_calendar p (calendar_value calendar)) zone)
  placed_later exact core inner last bracket first rest old new is same zone (Err stop) left pairs = placed_fault is same pairs

-- The text is refused if its front is refused.
pub front_refused : {T U F : Type 0} (number : U → ℕ) (step : Step T U F) (handler : F) (kind : CoreKind) (text : Text) (fault : Placed) → FrontRefused kind text fault
    → TextRead number step handler handler (bracketed kind) text (Err fault)
front_refused number step handler kind text fault (inl is) = core_refused number step handler kind text fault is
front_refused number step handler kind text fault (inr (core, inner, is, refused)) =
    first_refused number step handler (has_exact_zones kind) core inner fault refused kind text refl is
