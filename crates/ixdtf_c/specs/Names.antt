-- The names of numbers in the C header.
use Rattle.std.specs.Prelude.{ℕ, List, [], ◌∷◌, codes, get_or, nat_le, nat_eq, if◌then◌else◌}

-- The names of the numbers 0 to 46.
abbrev pub names : List (List ℕ)
names =
    codes "IXDTF_OK"
    ∷ codes "IXDTF_IMPL_ASSERT"
    ∷ codes "IXDTF_NON_ASCII_CODE_POINT"
    ∷ codes "IXDTF_PARSE_FLOAT"
    ∷ codes "IXDTF_ABRUPT_END"
    ∷ codes "IXDTF_INVALID_END"
    ∷ codes "IXDTF_INVALID_MONTH_RANGE"
    ∷ codes "IXDTF_INVALID_DAY_RANGE"
    ∷ codes "IXDTF_DATE_YEAR"
    ∷ codes "IXDTF_DATE_EXTENDED_YEAR"
    ∷ codes "IXDTF_DATE_MONTH"
    ∷ codes "IXDTF_DATE_DAY"
    ∷ codes "IXDTF_DATE_UNEXPECTED_END"
    ∷ codes "IXDTF_TIME_REQUIRED"
    ∷ codes "IXDTF_TIME_HOUR"
    ∷ codes "IXDTF_TIME_MINUTE_SECOND"
    ∷ codes "IXDTF_TIME_SECOND"
    ∷ codes "IXDTF_FRACTION_PART"
    ∷ codes "IXDTF_DATE_SEPARATOR"
    ∷ codes "IXDTF_TIME_SEPARATOR"
    ∷ codes "IXDTF_DECIMAL_SEPARATOR"
    ∷ codes "IXDTF_INVALID_ANNOTATION"
    ∷ codes "IXDTF_ANNOTATION_OPEN"
    ∷ codes "IXDTF_ANNOTATION_CLOSE"
    ∷ codes "IXDTF_ANNOTATION_CHAR"
    ∷ codes "IXDTF_ANNOTATION_KEY_VALUE_SEPARATOR"
    ∷ codes "IXDTF_ANNOTATION_KEY_LEADING_CHAR"
    ∷ codes "IXDTF_ANNOTATION_KEY_CHAR"
    ∷ codes "IXDTF_ANNOTATION_VALUE_CHAR_POST_HYPHEN"
    ∷ codes "IXDTF_ANNOTATION_VALUE_CHAR"
    ∷ codes "IXDTF_INVALID_MINUTE_PRECISION_OFFSET"
    ∷ codes "IXDTF_CRITICAL_DUPLICATE_CALENDAR"
    ∷ codes "IXDTF_UNRECOGNIZED_CRITICAL"
    ∷ codes "IXDTF_TZ_LEADING_CHAR"
    ∷ codes "IXDTF_IANA_CHAR_POST_SEPARATOR"
    ∷ codes "IXDTF_IANA_CHAR"
    ∷ codes "IXDTF_UTC_TIME_SEPARATOR"
    ∷ codes "IXDTF_OFFSET_NEEDS_SIGN"
    ∷ codes "IXDTF_MONTH_DAY_HYPHEN"
    ∷ codes "IXDTF_DURATION_DISGNATOR"
    ∷ codes "IXDTF_DURATION_VALUE_EXCEEDED_RANGE"
    ∷ codes "IXDTF_DATE_DURATION_PART_ORDER"
    ∷ codes "IXDTF_TIME_DURATION_PART_ORDER"
    ∷ codes "IXDTF_TIME_DURATION_DESIGNATOR"
    ∷ codes "IXDTF_AMBIGUOUS_TIME_MONTH_DAY"
    ∷ codes "IXDTF_AMBIGUOUS_TIME_YEAR_MONTH"
    ∷ codes "IXDTF_INVALID_MONTH_DAY"
    ∷ []

-- The name of a number that a function returns. For every other number, the name is empty.
abbrev pub name_of : ℕ → List ℕ
name_of number =
    if nat_le number 46 then get_or names number []
    else (if nat_eq number 101 then codes "IXDTF_NOT_PRINTABLE"
    else (if nat_eq number 102 then codes "IXDTF_TOO_SHORT"
    else (if nat_eq number 103 then codes "IXDTF_NO_INSTANT"
    else (if nat_eq number 104 then codes "IXDTF_NOT_EXACT"
    else (if nat_eq number 105 then codes "IXDTF_NO_READER"
    else [])))))
