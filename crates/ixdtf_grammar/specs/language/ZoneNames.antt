-- Zones: which texts are names of time zones (`time-zone-name` of RFC 9557 section 4.1), and which texts are zones.
use Rattle.std.specs.{Prelude.{◌≡◌, ◌≢◌, ℕ, ◌⊎◌, Bool, false, List, [], ◌∷◌, map, nat_eq, ◌&&◌, IsTrue, All}, List.{list_any, slice_split}}
use Rattle.ixdtf_grammar.specs.{declared.records.MinutePrecisionOffset.MinutePrecisionOffset, language.Letters.{Text, zone_lead, zone_char, slash}}
use Rattle.ixdtf_grammar.specs.language.{Letters.Letter.Plain, Shapes.{Shape, one, ◌then◌, ◌either◌, many}, Offsets.IsMinuteOffset, DateTimes.IsNumOffset}

-- The text is a code unit of a name, or a slash and a code unit of a name.
abbrev pub NameItem : Shape
NameItem = one zone_char either (one slash then one zone_char)

abbrev pub ZoneName : Shape
ZoneName = one zone_lead then many NameItem

-- The text is a zone name, and `name` has the numbers of its code units.
abbrev pub IsZoneName : Text → List ℕ → Type 0
IsZoneName text name = ZoneName text × (text ≡ map Plain name)

-- A zone is a name, as the numbers of its code units, or an offset.
pub data Zone : Type 0 where
  Name : List ℕ → Zone
  Offset : MinutePrecisionOffset → Zone

-- The text is a zone name, or an offset without seconds.
abbrev pub IsZone : Text → Zone → Type 0
IsZone text zone =
    ((name : List ℕ) × IsZoneName text name × (zone ≡ Name name))
    ⊎ ((offset : MinutePrecisionOffset) × IsMinuteOffset text offset × (zone ≡ Offset offset))

-- ---- zones exactly as in RFC 9557 section 4.1

-- The text is `time-zone-part = time-zone-initial *time-zone-char`, but it is neither `.` nor `..`.
pub record IsNamePart (text : Text) : Type 0 where
  pub lead : ℕ
  pub others : List ℕ
  pub is : text ≡ map Plain (lead ∷ others)
  pub leads : IsTrue (zone_lead lead)
  pub chars : All (λ c. IsTrue (zone_char c)) others
  pub no_dot : text ≢ Plain 46 ∷ []
  pub no_dots : text ≢ Plain 46 ∷ (Plain 46 ∷ [])

-- The text is `time-zone-name = time-zone-part *("/" time-zone-part)`.
abbrev pub IsPartedName : Shape
IsPartedName = IsNamePart then many (one slash then IsNamePart)

-- This says whether the code units are `.` or `..`.
abbrev pub is_dots : List ℕ → Bool
is_dots [] = false
is_dots (c ∷ []) = nat_eq c 46
is_dots (c ∷ (d ∷ [])) = nat_eq c 46 && nat_eq d 46
is_dots (c ∷ (d ∷ (e ∷ rest))) = false

-- The slashes separate a name into parts. This says whether one of the parts is `.` or `..`.
abbrev pub has_dots : List ℕ → Bool
has_dots name = list_any is_dots (slice_split slash name)

-- The text is `time-zone-name / time-numoffset`.
abbrev pub IsExactZone : Text → Zone → Type 0
IsExactZone text (Name name) = IsPartedName text × (text ≡ map Plain name)
IsExactZone text (Offset offset) = IsNumOffset text offset
