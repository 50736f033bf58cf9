-- Defines the message about a text that a reader refuses. There is a message about a space before an offset, because some programs write one.
use Rattle.ixdtf_explanations.specs.Hints.{IsHint}
use Rattle.std.specs.{Prelude.{◌≡◌, ℕ, Bool, false, ◌==◌, ◌&&◌, ◌||◌, nat_le, List, [], ◌∷◌, drop, codes, Option, Some, option_map}, Bool.MatchBool}
use Rattle.ixdtf_grammar.specs.ReasonNames.{reason_name}
use Rattle.ixdtf_explanations.specs.declared.located.LocatedReason.{LocatedReason}
use Rattle.ixdtf_explanations.specs.declared.message.Message.{Message}
use Rattle.ixdtf_explanations.specs.declared.part.WrongPart.{WrongPart}
use Rattle.ixdtf_explanations.specs.Messages.{IsMessage, message_text}

abbrev pub is_sign : ℕ → Bool
is_sign byte = (byte == 43) || (byte == 45)

abbrev pub is_digit : ℕ → Bool
is_digit byte = nat_le 48 byte && nat_le byte 57

-- The bytes begin with `Z`, `z`, or a sign and a digit.
abbrev pub begins_offset : List ℕ → Bool
begins_offset [] = false
begins_offset (byte ∷ []) = (byte == 90) || (byte == 122)
begins_offset (byte ∷ (next ∷ bytes)) = ((byte == 90) || (byte == 122)) || (is_sign byte && is_digit next)

-- The bytes begin with a space and the beginning of an offset.
abbrev pub is_spaced : List ℕ → Bool
is_spaced [] = false
is_spaced (byte ∷ bytes) = (byte == 32) && begins_offset bytes

-- These are the name of the reason and the words of the message about a text with this error, in which this part is wrong. `has_offset`
-- says whether an offset may follow a time in the text.
abbrev pub SaysWhy : Bool → List ℕ → LocatedReason → WrongPart → List ℕ → List ℕ → Type 0
SaysWhy has_offset bytes error part reason words = MatchBool (has_offset && is_spaced (drop part.begin bytes))
    ((reason ≡ codes "space_before_offset") × (words ≡ codes "a space stands before the offset"))
    ((reason ≡ reason_name error.reason) × ((message : Message) × IsMessage error.reason bytes error.at message × (words ≡ message_text message)))

-- This is the hint about a text with this error, in which this part is wrong.
abbrev pub HasHint : Bool → List ℕ → LocatedReason → WrongPart → Option (List ℕ) → Type 0
HasHint has_offset bytes error part hint = MatchBool (has_offset && is_spaced (drop part.begin bytes))
    (hint ≡ Some (codes "remove the space before the offset"))
    ((given : Option Message) × IsHint error.reason bytes error.at given × (hint ≡ option_map message_text given))
