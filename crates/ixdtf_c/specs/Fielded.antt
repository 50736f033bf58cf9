-- What is kept from an annotation that names a calendar.
use Rattle.ixdtf.specs.{language.Brackets.Pair, Handlers.calendar_key}

-- The annotation with the key `u-ca` instead of its own key.
abbrev pub keyed : Pair → Pair
keyed pair = record pair { key = calendar_key }
