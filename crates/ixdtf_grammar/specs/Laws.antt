-- The statements of the laws. Each law about texts is for every text.
use Rattle.std.specs.{Prelude.{◌≡◌, ◌≢◌, ◌↔◌, ℕ, Bool, IsTrue, List, [], ◌∷◌, ◌++◌, map, length, Result, Ok, Err}, Cmp.IsEquivalence}
use Rattle.ixdtf_grammar.specs.declared.{profile.Profile.Profile, records.{MinutePrecisionOffset.MinutePrecisionOffset, UtcOffsetRecord.UtcOffsetRecord}}
use Rattle.ixdtf_grammar.specs.{declared.records.UtcOffsetRecord.TheVariants.MinutePrecision, Handlers.{Reply, GivesRecord, GivesFault, UnhandledRecord}}
use Rattle.ixdtf_grammar.specs.language.{Brackets.Pair, Dates.{Year, Month}, Languages.{Parsed, Found, Derives, Found.{parsed, shifted, identified, named}}}
use Rattle.ixdtf_grammar.specs.language.{Letters.{Text, Letter.Plain}, Readers.{Reader, CoreKind, parse}}
use Rattle.ixdtf_grammar.specs.language.Readers.CoreKind.{date_time, internet_date_time, year_month, month_day, time_of_day}
use Rattle.ixdtf_grammar.specs.language.Readers.Reader.{bracketed, parse_rfc3339, parse_offset, parse_identifier, parse_iana_identifier, parse_duration}
use Rattle.ixdtf_grammar.specs.{language.{Rfc3339.IsRfcDateTime, Shapes.{digits, some}, ZoneNames.{Zone, Zone.{Name, Offset}}}, table.Faults.Fault}
use Rattle.ixdtf_grammar.specs.{table.{Faults.Fault.DateSeparator, Outcomes.ExactlyOne}, Places.{GivesFaultAt, GivesOnlyPlace}}
use Rattle.ixdtf_grammar.specs.Widths.{UnhandledOutcome, HasUnhandledOutcome, UnhandledOutcome.faulted}

-- The grammar derives a record from every date-time of RFC 3339 section 5.6, with no annotations. Without a handler, `parse` gives
-- this record for the text.
abbrev pub EveryDateTimeIsRead : Type 0
EveryDateTimeIsRead = (text : Text) → IsRfcDateTime text → (found : Parsed) × Derives parse text (parsed found) [] × UnhandledRecord parse text found

-- If `parse_iana_identifier` derives a name from a text, the name is the complete text, and `parse_identifier` derives the time
-- zone with this name.
abbrev pub EveryNameIsAnIdentifier : Type 0
EveryNameIsAnIdentifier = (text : Text) (name : List ℕ) → Derives parse_iana_identifier text (named name) [] →
    (text ≡ map Plain name) × Derives parse_identifier text (identified (Name name)) []

-- If `parse_offset` and `parse_identifier` both derive a value from one text, both values have the same sign, hour and minute, and
-- no seconds.
abbrev pub OffsetsAgree : Type 0
OffsetsAgree = (text : Text) (offset : UtcOffsetRecord) (zone : Zone) → Derives parse_offset text (shifted offset) [] →
    Derives parse_identifier text (identified zone) [] → (minutes : MinutePrecisionOffset) × (offset ≡ MinutePrecision minutes) × (zone ≡ Offset minutes)

-- ---- the hyphens of a date

-- The three texts are a year, a month, and two digits of a day.
abbrev pub IsDateParts : Text → Text → Text → Type 0
IsDateParts years months days = some Year years × some Month months × digits 2 days

-- For a date without hyphens and for the same date with both hyphens, `parse` has the same outcome, whatever follows the date.
abbrev pub HyphensSayNothing : Type 0
HyphensSayNothing = (years months days rest : Text) → IsDateParts years months days → (outcome : UnhandledOutcome) →
    HasUnhandledOutcome parse (years ++ (months ++ (days ++ rest))) outcome ↔ HasUnhandledOutcome parse
    (years ++ (Plain 45 ∷ (months ++ (Plain 45 ∷ (days ++ rest))))) outcome

-- A date with only one hyphen is refused with `DateSeparator`, whatever follows it.
abbrev pub OneHyphenIsRefused : Type 0
OneHyphenIsRefused = (years months days rest : Text) → IsDateParts years months days →
    HasUnhandledOutcome parse (years ++ (Plain 45 ∷ (months ++ (days ++ rest)))) (faulted DateSeparator)
    × HasUnhandledOutcome parse (years ++ (months ++ (Plain 45 ∷ (days ++ rest)))) (faulted DateSeparator)

-- ---- the languages of the readers of dates, times and durations

-- The kind of core belongs to the profile. The date-times of RFC 3339 are left out, because they are also cores of `parse`.
abbrev pub IsKindUnder : Profile → CoreKind → Type 0
IsKindUnder profile date_time = Unit {0}
IsKindUnder profile internet_date_time = ⊥
IsKindUnder profile year_month = Unit {0}
IsKindUnder profile (month_day other) = other ≡ profile
IsKindUnder profile (time_of_day other) = other ≡ profile

-- The reader is one of the five text readers, under the profile. These read dates, times and durations. The readers of only an
-- offset or a zone are no text readers. The readers of date-times of RFC 3339 are left out, because `parse` accepts their texts.
abbrev pub IsTextReader : Profile → Reader → Type 0
IsTextReader profile (bracketed kind) = IsKindUnder profile kind
IsTextReader profile parse_rfc3339 = ⊥
IsTextReader profile parse_offset = ⊥
IsTextReader profile parse_identifier = ⊥
IsTextReader profile parse_iana_identifier = ⊥
IsTextReader profile (parse_duration other) = other ≡ profile

-- The text is in the language of the reader: the grammar derives a value from it.
abbrev pub InLanguage : Reader → Text → Type 0
InLanguage reader text = (found : Found) × (pairs : List Pair) × Derives reader text found pairs

-- Under each profile, no text is in the languages of two text readers.
abbrev pub LanguagesDisjoint : Type 0
LanguagesDisjoint = (profile : Profile) (text : Text) (first second : Reader) → IsTextReader profile first → IsTextReader profile second →
    InLanguage first text → InLanguage second text → first ≡ second

-- If the reader is a text reader under the profile, the text is in the language of no other text reader.
abbrev pub InNoOther : Profile → Reader → Text → Type 0
InNoOther profile reader text =
    IsTextReader profile reader → (other : Reader) → IsTextReader profile other → reader ≢ other → ¬ (InLanguage other text)

-- ---- replies

-- The text with these annotations and these replies gives the result: a record or an error.
abbrev pub GivesResult : Reader → Text → List Pair → List Reply → Result Parsed Fault → Type 0
GivesResult reader text pairs replies (Ok found) = GivesRecord reader text pairs replies found
GivesResult reader text pairs replies (Err fault) = GivesFault reader text pairs replies fault

-- A text with the same annotations and the same replies gives at most one result.
abbrev pub OneResult : Type 0
OneResult = (reader : Reader) (text : Text) (pairs : List Pair) (replies : List Reply) (result other : Result Parsed Fault) →
    GivesResult reader text pairs replies result → GivesResult reader text pairs replies other → result ≡ other

-- A text with the same annotations and one reply for each of them gives at most one error, at one position.
abbrev pub OnePlace : Type 0
OnePlace = (reader : Reader) (text : Text) (pairs : List Pair) (replies : List Reply) (fault : Fault) (at : ℕ) → length replies ≡ length pairs
    → GivesFaultAt reader text pairs replies fault at → GivesOnlyPlace reader text pairs replies fault at

-- These are the replies of a handler whose reply depends only on the annotations so far. The last of the annotations so far is the
-- one that the handler is called with.
abbrev pub replies_to : (List Pair → Reply) → List Pair → List Reply
replies_to reply [] = []
replies_to reply (pair ∷ pairs) = reply (pair ∷ []) ∷ replies_to (λ more. reply (pair ∷ more)) pairs

-- For a handler whose reply depends only on the annotations so far, there is exactly one list of annotations with exactly one result.
abbrev pub OneChain : Type 0
OneChain = (kind : CoreKind) (text : Text) (reply : List Pair → Reply) →
    ExactlyOne (λ (x : List Pair × Result Parsed Fault). GivesResult (bracketed kind) text x.0 (replies_to reply x.0) x.1)

-- ---- defaults, clones and equality

-- Every default value is equal to `value`.
abbrev pub DefaultIs : {K : Type 0} → (K → Type 0) → K → Type 0
DefaultIs {K} is_default value = (it : K) → is_default it → it ≡ value

-- To clone a value never fails, and each clone is equal to its source.
abbrev pub ClonesAreEqual : {K : Type 0} → (K → K → Type 0) → (K → Type 0) → Type 0
ClonesAreEqual {K} is_clone is_infallible = (source : K) → is_infallible source × ((copy : K) → is_clone source copy → copy ≡ source)

-- The test is true exactly for two values that contracts see as the same. So it is reflexive, symmetric and transitive.
pub record IsEqualityBy {K V : Type 0} (seen : K → V) (eq : K → K → Bool) : Type 0 where
  pub exact : (a b : K) → IsTrue (eq a b) ↔ (seen a ≡ seen b)
  pub equivalence : IsEquivalence eq
