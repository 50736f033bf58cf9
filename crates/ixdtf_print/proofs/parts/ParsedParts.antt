-- What a reader of texts with brackets returns without a handler, stated for the parts of the text, and the converse. The other
-- proofs are about these parts, and not about readers.
use Rattle.std.proofs.Common.{◌≡◌, ◌++◌, List, Option, refl, ◌∙◌, ap}
use Rattle.ixdtf.specs.language.{Letters.Text, Brackets.{ZoneNote, Pair, OptionalBracket, ArePairs}, Cores.{Core, IsCore}}
use Rattle.ixdtf.specs.language.{Languages.{Parsed, parsed_with, IsBracketed, Derives, Derives.as_parsed, Found.parsed}, Readers.{CoreKind, has_exact_zones, Reader.bracketed}}
use Rattle.ixdtf.specs.{Handlers.{UnhandledRecord, NoneRefused, own_replies, calendar_value, first_calendar, with_calendar}}
use Rattle.ixdtf_print.proofs.theorems.OneTexts.{StandsForOne, one_found}

-- The record of these parts.
abbrev pub joined : Core → Option ZoneNote → List Pair → Parsed
joined core zone pairs = record {
  date = core.date;
  time = core.time;
  offset = core.offset;
  zone = zone;
  calendar = calendar_value (first_calendar (own_replies pairs));
}

-- The text is a core, a bracket with a zone or none, and annotations, none of which is refused. The record is that of these parts.
pub record HasParts (kind : CoreKind) (text : Text) (found : Parsed) : Type 0 where
  pub cores : Text
  pub zones : Text
  pub pair_texts : Text
  pub core : Core
  pub zone : Option ZoneNote
  pub pairs : List Pair
  pub is : text ≡ cores ++ (zones ++ pair_texts)
  pub is_core : IsCore kind cores core
  pub is_bracket : OptionalBracket (has_exact_zones kind) zones zone
  pub are_pairs : ArePairs pair_texts pairs
  pub accepted : NoneRefused (own_replies pairs)
  pub has : found ≡ joined core zone pairs

-- A reader of this kind derives a core of its kind, and brackets.
bracketed_of : (kind : CoreKind) (text : Text) (found : Parsed) (pairs : List Pair) → Derives (bracketed kind) text (parsed found) pairs
    → IsBracketed kind text found pairs
bracketed_of kind text found pairs (as_parsed h) = h

pub to_parts : (kind : CoreKind) (text : Text) (found : Parsed) → UnhandledRecord (bracketed kind) text found → HasParts kind text found
to_parts kind text found (pairs, gives) =
    let whole = bracketed_of kind text gives.read pairs gives.whole in
    let tail = whole.is_tail in
    record {
      cores = whole.cores;
      zones = tail.0;
      pair_texts = tail.1;
      core = whole.core;
      zone = whole.zone;
      pairs = pairs;
      is = whole.is ∙ ap (λ t. whole.cores ++ t) tail.2;
      is_core = whole.is_core;
      is_bracket = tail.3;
      are_pairs = tail.4;
      accepted = gives.accepted;
      has = gives.has ∙ ap (λ read. with_calendar read (calendar_value (first_calendar (own_replies pairs)))) whole.has;
    }

pub of_parts : {kind : CoreKind} (text : Text) (found : Parsed) → HasParts kind text found → UnhandledRecord (bracketed kind) text found
of_parts text found h = (
  h.pairs,
  record {
    read = parsed_with h.core h.zone;
    whole = as_parsed (record {
      cores = h.cores;
      brackets = h.zones ++ h.pair_texts;
      core = h.core;
      zone = h.zone;
      is = h.is;
      is_core = h.is_core;
      is_tail = (h.zones, h.pair_texts, refl, h.is_bracket, h.are_pairs);
      has = refl;
    });
    accepted = h.accepted;
    has = h.has;
  },
)

-- A text gives at most one record.
pub one_record : (kind : CoreKind) → StandsForOne (UnhandledRecord (bracketed kind))
one_record kind text a b p q = let same = one_found (bracketed kind) text (parsed a) (parsed b) p q in cc
