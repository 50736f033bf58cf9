-- 8-bit and 16-bit text: laws about the outcome of a reader without a handler for a list of numbers. The numbers are read as 16-bit
-- code units, and as 8-bit code units.
use Rattle.std.specs.Prelude.{◌≡◌, ◌↔◌, ◌⊎◌, ℕ, Bool, IsTrue, IsFalse, List, [], ◌∷◌, ◌++◌, map, length, All, Any, nat_le, ◌&&◌, if◌then◌else◌}
use Rattle.ixdtf_grammar.specs.language.{Letters.{Text, byte_letter, wide_letter}, Readers.{Reader, CoreKind}}
use Rattle.ixdtf_grammar.specs.language.Readers.Reader.{bracketed, parse_rfc3339, parse_offset, parse_identifier, parse_iana_identifier, parse_duration}
use Rattle.ixdtf_grammar.specs.{language.Languages.{Found, Derives, Found.{parsed, dated, shifted, identified, named, lasting}}, table.Faults.Fault}
use Rattle.ixdtf_grammar.specs.{table.{Faults.Fault.NonAsciiCodePoint, Outcomes.{HasFault, ExactlyOne}}, Handlers.{UnhandledRecord, UnhandledFault}}
use Rattle.ixdtf_grammar.specs.Places.{HasUnhandledFaultAt}

-- ---- outcomes without a handler

-- An outcome of a reader without a handler is a value or an error. Slices are seen as the numbers of their code units.
pub data UnhandledOutcome : Type 0 where
  read_as : Found → UnhandledOutcome
  faulted : Fault → UnhandledOutcome

-- The text has the outcome in the reader of this kind of core and brackets, without a handler.
abbrev pub HasWithPairs : CoreKind → Text → UnhandledOutcome → Type 0
HasWithPairs kind text (read_as (parsed found)) = UnhandledRecord (bracketed kind) text found
HasWithPairs kind text (read_as (dated found)) = ⊥
HasWithPairs kind text (read_as (shifted offset)) = ⊥
HasWithPairs kind text (read_as (identified zone)) = ⊥
HasWithPairs kind text (read_as (named units)) = ⊥
HasWithPairs kind text (read_as (lasting duration)) = ⊥
HasWithPairs kind text (faulted fault) = UnhandledFault (bracketed kind) text fault

-- The text has the outcome in a reader of texts without brackets.
abbrev pub HasAlone : Reader → Text → UnhandledOutcome → Type 0
HasAlone reader text (read_as found) = Derives reader text found []
HasAlone reader text (faulted fault) = HasFault reader text [] fault

-- The text has the outcome in the reader, without a handler.
abbrev pub HasUnhandledOutcome : Reader → Text → UnhandledOutcome → Type 0
HasUnhandledOutcome (bracketed kind) text outcome = HasWithPairs kind text outcome
HasUnhandledOutcome parse_rfc3339 text outcome = HasAlone parse_rfc3339 text outcome
HasUnhandledOutcome parse_offset text outcome = HasAlone parse_offset text outcome
HasUnhandledOutcome parse_identifier text outcome = HasAlone parse_identifier text outcome
HasUnhandledOutcome parse_iana_identifier text outcome = HasAlone parse_iana_identifier text outcome
HasUnhandledOutcome (parse_duration profile) text outcome = HasAlone (parse_duration profile) text outcome

-- Each text has exactly one outcome in each reader without a handler.
abbrev pub OneUnhandledOutcome : Type 0
OneUnhandledOutcome = (reader : Reader) (text : Text) → ExactlyOne (HasUnhandledOutcome reader text)

-- ---- 8-bit and 16-bit text

-- The number is from 1 to 126. These numbers stand for the same character as 8-bit and as 16-bit code units.
abbrev pub is_shared : ℕ → Bool
is_shared n = nat_le 1 n && nat_le n 126

-- These are the texts of the numbers as 16-bit code units, and as 8-bit code units.
abbrev pub wide_text : List ℕ → Text
wide_text numbers = map wide_letter numbers

abbrev pub byte_text : List ℕ → Text
byte_text numbers = map byte_letter numbers

-- The mask has 128 instead of each number that is not from 1 to 126.
abbrev pub mask : List ℕ → List ℕ
mask numbers = map (λ n. if is_shared n then n else 128) numbers

-- If all numbers are from 1 to 126, the 16-bit text and the 8-bit text have the same outcome.
abbrev pub SameWhereShared : Type 0
SameWhereShared = (reader : Reader) (numbers : List ℕ) → All (λ n. IsTrue (is_shared n)) numbers
    → (outcome : UnhandledOutcome) → HasUnhandledOutcome reader (wide_text numbers) outcome ↔ HasUnhandledOutcome reader (byte_text numbers) outcome

-- If a number is not from 1 to 126, the outcome of the 16-bit text is an error. The error is `NonAsciiCodePoint`, or the outcome of
-- the mask as 8-bit text.
abbrev pub FaultWhereNotShared : Type 0
FaultWhereNotShared = (reader : Reader) (numbers : List ℕ) → Any (λ n. IsFalse (is_shared n)) numbers
    → (fault : Fault) × HasUnhandledOutcome reader (wide_text numbers) (faulted fault)
    × ((fault ≡ NonAsciiCodePoint) ⊎ HasUnhandledOutcome reader (byte_text (mask numbers)) (faulted fault))

-- ---- the positions of errors in 8-bit and 16-bit text

-- If all numbers are from 1 to 126, the 16-bit text and the 8-bit text have the same errors at the same positions.
abbrev pub SamePlaceWhereShared : Type 0
SamePlaceWhereShared = (reader : Reader) (numbers : List ℕ) → All (λ n. IsTrue (is_shared n)) numbers
    → (fault : Fault) (at : ℕ) → HasUnhandledFaultAt reader (wide_text numbers) fault at ↔ HasUnhandledFaultAt reader (byte_text numbers) fault at

-- If a number is not from 1 to 126, the 16-bit text has an error at a position. The error is `NonAsciiCodePoint`, or the mask as
-- 8-bit text has the same error at the same position.
abbrev pub PlaceWhereNotShared : Type 0
PlaceWhereNotShared = (reader : Reader) (numbers : List ℕ) → Any (λ n. IsFalse (is_shared n)) numbers
    → (fault : Fault) × (at : ℕ) × HasUnhandledFaultAt reader (wide_text numbers) fault at
    × ((fault ≡ NonAsciiCodePoint) ⊎ HasUnhandledFaultAt reader (byte_text (mask numbers)) fault at)

-- There are `at` numbers before the first number that is not from 1 to 126.
abbrev pub IsFirstNotShared : List ℕ → ℕ → Type 0
IsFirstNotShared numbers at =
    (front rest : List ℕ) × (n : ℕ) × (numbers ≡ front ++ (n ∷ rest)) × (at ≡ length front) × All (λ n. IsTrue (is_shared n)) front × IsFalse (is_shared n)

-- If the 16-bit text has `NonAsciiCodePoint` at a position, this is the position of the first number that is not from 1 to 126.
abbrev pub NonAsciiIsFirst : Type 0
NonAsciiIsFirst = (reader : Reader) (numbers : List ℕ) (at : ℕ) → HasUnhandledFaultAt reader (wide_text numbers) NonAsciiCodePoint at → IsFirstNotShared numbers at

-- The 8-bit text never has the error `NonAsciiCodePoint`.
abbrev pub NonAsciiIsWide : Type 0
NonAsciiIsWide = (reader : Reader) (numbers : List ℕ) (at : ℕ) → ¬ (HasUnhandledFaultAt reader (byte_text numbers) NonAsciiCodePoint at)
