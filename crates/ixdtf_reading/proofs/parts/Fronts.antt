-- The test of the beginning of a time. Reading a month-day or a year-month succeeds exactly if the text begins with one. If the
-- end of the text or a bracket follows the core, the core begins with it too.
use Rattle.std.proofs.Common.{◌≡◌, ℕ, Bool, false, IsTrue, IsFalse, ◌++◌, Ok, Err, inl, inr, refl, ap, ◌∙◌, append_assoc, arith}
use Rattle.std.proofs.lemmas.Bool.{both_ways, false_from_ne_true, Decides.nat_tests}
use Rattle.ixdtf_grammar.specs.{declared.{profile.Profile.Profile, records.DateRecord.DateRecord}, language.{Letters.{Text, digit, hyphen, colon}, Shapes.{Shape, some}}}
use Rattle.ixdtf_grammar.specs.language.{Months.{IsYearMonth, IsMonthDay, MonthDayText}, Cores.{BeginsWith, HasNoDateFront}}
use Rattle.ixdtf_grammar.specs.table.{Faults.Fault.{AmbiguousTimeMonthDay, AmbiguousTimeYearMonth}, LineNames.of_time}
use Rattle.ixdtf_grammar.specs.table.{LineNames.TimeLine.{time_reads_as_month_day, time_reads_as_year_month}, Rows.{Row, Place.anywhere}}
use Rattle.ixdtf_grammar.proofs.parts.CoreLetters.{AllInside, CoreEnds, in_core, in_month_day, in_year_month}
use Rattle.ixdtf_reading.specs.reading.{Looks.{Read, Placed, row_of, error_of}, FixedPlaces.byte_place}
use Rattle.ixdtf_reading.specs.reading.{Months.{year_month_at, month_day_at, left_by, is_read, month_day_begins, year_month_begins}, Cores.unfronted}
use Rattle.ixdtf_reading.proofs.{parts.Looks.{OnRead, read_if}, to_reading.Months.{year_month_takes, month_day_takes}}
use Rattle.ixdtf_reading.proofs.to_grammar.Months.{FrontIs, year_month_read, month_day_read}

-- ---- reading from the beginning

-- The test is true exactly if the statement is true.
abbrev pub Exact : Bool → Type 0 → Type 0
Exact test holds = (IsTrue test → holds) × (holds → IsTrue test)

not_there : (test : Bool) (holds : Type 0) → Exact test holds → ¬ holds → IsFalse test
not_there test holds h none = false_from_ne_true test (λ yes. none (h.0 yes))

none_there : (test : Bool) (holds : Type 0) → Exact test holds → IsFalse test → ¬ holds
none_there test holds h fails there = both_ways test fails (h.1 there)

-- The text begins with the part, and `left` is the text after it.
abbrev pub Fronted : (Text → DateRecord → Type 0) → Text → Text → Type 0
Fronted part text left = (front : Text) × (text ≡ front ++ left) × some part front

-- A reading function that reads exactly the prefixes of this kind tells whether the text begins with one, and what is left.
tells : (part : Text → DateRecord → Type 0) (text : Text) (read : Read Placed DateRecord) (stopped : Row → Type 0)
    → OnRead error_of read (FrontIs part text) stopped
    → ((front : Text) (date : DateRecord) (rest : Text) → text ≡ front ++ rest → part front date → read ≡ Ok (date, rest))
    → Exact (is_read read) (BeginsWith (some part) text) × ((left : Text) → Fronted part text left → left_by read ≡ left)
tells part text (Ok x) stopped gives takes =
    (((λ h. (gives.0, x.1, gives.1, (x.0, gives.2), tt)), λ h. refl), λ left h. ap left_by (takes h.0 h.2.0 left h.1 h.2.1))
tells part text (Err e) stopped gives takes =
    (((λ h. absurd (both_ways false refl h)), λ h. ap is_read (takes h.0 h.3.0 h.1 h.2 h.3.1)), λ left h. ap left_by (takes h.0 h.2.0 left h.1 h.2.1))

-- The tests for a month-day and for a year-month.
month_day_tells : (profile : Profile) (text : Text)
    → Exact (month_day_begins profile text) (BeginsWith (some (IsMonthDay profile)) text)
    × ((left : Text) → Fronted (IsMonthDay profile) text left → left_by (month_day_at error_of profile text) ≡ left)
month_day_tells profile text = tells _ text _ _ (month_day_read error_of profile text)
    (λ front date rest is h. ap (month_day_at error_of profile) is ∙ month_day_takes error_of profile front date rest h)

year_month_tells : (text : Text) → Exact (year_month_begins text) (BeginsWith (some IsYearMonth) text)
    × ((left : Text) → Fronted IsYearMonth text left → left_by (year_month_at error_of text) ≡ left)
year_month_tells text = tells IsYearMonth text _ _ (year_month_read error_of text)
    (λ front date rest is h. ap (year_month_at error_of) is ∙ year_month_takes error_of front date rest h)

-- ---- prefixes of a core, and of the text with what follows the core

front_in_core : (shape : Shape) → ((text : Text) → shape text → AllInside text) → (cores rest : Text) → CoreEnds rest → BeginsWith shape (cores ++ rest)
    → BeginsWith shape cores
front_in_core shape inside cores rest ends h = let more = in_core h.0 h.1 cores rest (inside h.0 h.3) ends h.2 in (h.0, more.0, more.1, h.3, tt)

-- If the core does not begin with a date of this kind, neither does the core with what follows it.
pub no_front_after : (profile : Profile) (cores rest : Text) → CoreEnds rest → HasNoDateFront profile cores → HasNoDateFront profile (cores ++ rest)
no_front_after profile cores rest ends none = (
  (λ h. none.0 (front_in_core _ (λ t front. in_month_day t front.0 front.1.0) cores rest ends h)),
  λ h. none.1 (front_in_core _ (λ t front. in_year_month t front.0 front.1) cores rest ends h),
)

longer_front : (shape : Shape) (cores rest : Text) → BeginsWith shape cores → BeginsWith shape (cores ++ rest)
longer_front shape cores rest h = (h.0, h.1 ++ rest, ap (λ t. t ++ rest) h.2 ∙ append_assoc h.0 h.1 rest, h.3, tt)

-- If a core with what follows it begins with a month-day, the core begins with it, whatever follows.
pub month_day_front_stays : (profile : Profile) (cores rest other_rest : Text) → CoreEnds rest → BeginsWith (some (IsMonthDay profile)) (cores ++ rest)
    → BeginsWith (some (IsMonthDay profile)) (cores ++ other_rest)
month_day_front_stays profile cores rest other_rest ends h =
    longer_front _ cores other_rest (front_in_core _ (λ t front. in_month_day t front.0 front.1.0) cores rest ends h)

-- A prefix of the core is a prefix of the text.
pub no_front_of : (profile : Profile) (cores rest : Text) → HasNoDateFront profile (cores ++ rest) → HasNoDateFront profile cores
no_front_of profile cores rest none =
    ((λ h. none.0 (longer_front (some (IsMonthDay profile)) cores rest h)), λ h. none.1 (longer_front (some IsYearMonth) cores rest h))

-- ---- a colon at index 2

digit_no_colon : (c : ℕ) → IsTrue (digit c) → IsFalse (colon c)
digit_no_colon c h = grind (arith, nat_tests, h)

hyphen_no_colon : (c : ℕ) → IsTrue (hyphen c) → IsFalse (colon c)
hyphen_no_colon c h = grind (arith, nat_tests, h)

third_of_month_day : (text left front : Text) (date : DateRecord) → text ≡ front ++ left → MonthDayText front date → IsFalse (colon (byte_place 2 text))
third_of_month_day text left front date split h =
    let tens = h.month.0.0 in
    let ones = tens.4 in
    elim h.mark [
      | inl none ↦ elim h.hyphen [
        | inl no_hyphen ↦ rw (split, h.is, none, tens.2, ones.2, ones.4, no_hyphen, h.day.0.2) (digit_no_colon h.day.0.0 h.day.0.3)
        | inr mark ↦ rw (split, h.is, none, tens.2, ones.2, ones.4, mark.1) (hyphen_no_colon mark.0 mark.2)
      ]
      | inr two ↦ rw (split, h.is, two.2, two.3.1, two.4.1, tens.2) (digit_no_colon tens.0 tens.3)
    ]

third_of_year_month : (text left front : Text) (date : DateRecord) → text ≡ front ++ left → IsYearMonth front date → IsFalse (colon (byte_place 2 text))
third_of_year_month text left front date split h = elim h.year [
  | inl year ↦
      let second = year.0.4 in
      rw (split, h.is, year.0.2, second.2, second.4.2) (digit_no_colon second.4.0 second.4.3)
  | inr year ↦ rw (split, h.is, year.is, year.digits.2, year.digits.4.2) (digit_no_colon year.digits.4.0 year.digits.4.3)
]

-- A text with a colon at index 2 does not begin with a month-day or a year-month.
pub no_front_at_colon : (profile : Profile) (text : Text) → IsTrue (colon (byte_place 2 text)) → HasNoDateFront profile text
no_front_at_colon profile text is = (
  (λ h. both_ways _ (third_of_month_day text h.1 h.0 h.3.0 h.2 h.3.1.0) is),
  λ h. both_ways _ (third_of_year_month text h.1 h.0 h.3.0 h.2 h.3.1) is,
)

-- ---- the test

abbrev pub month_day_front : Profile → Text → Row
month_day_front profile left = row_of (of_time (time_reads_as_month_day profile)) (anywhere left) AmbiguousTimeMonthDay

abbrev pub year_month_front : Text → Row
year_month_front left = row_of (of_time time_reads_as_year_month) (anywhere left) AmbiguousTimeYearMonth

module _ (profile : Profile) (text : Text) where
  abbrev pub MonthDayBegins : Type 0
  MonthDayBegins = BeginsWith (some (IsMonthDay profile)) text

  module _ {E A : Type 0} (fault : Row → E) (read : Read E A) where
    -- Each row for the beginning of a time is returned.
    pub month_day_stops : (left : Text) → Fronted (IsMonthDay profile) text left
        → unfronted fault profile text read ≡ Err (fault (month_day_front profile left))
    month_day_stops left h = rw ((month_day_tells profile text).0.1 (h.0, left, h.1, h.2, tt), (month_day_tells profile text).1 left h) refl

    pub year_month_stops : (left : Text) → Fronted IsYearMonth text left → ¬ MonthDayBegins
        → unfronted fault profile text read ≡ Err (fault (year_month_front left))
    year_month_stops left h none = rw (
      not_there _ _ (month_day_tells profile text).0 none,
      (year_month_tells text).0.1 (h.0, left, h.1, h.2, tt),
      (year_month_tells text).1 left h,
    ) refl

    -- If the text does not begin with one of the two, reading continues.
    pub unfronted_goes : HasNoDateFront profile text → unfronted fault profile text read ≡ read
    unfronted_goes none =
        let no_month_day = not_there _ _ (month_day_tells profile text).0 none.0 in
        let no_year_month = not_there _ _ (year_month_tells text).0 none.1 in
        rw (no_month_day, no_year_month) refl

    -- The other direction: what the result says about the text.
    pub unfronted_read : (found : A → Text → Type 0) (stopped : Row → Type 0)
        → ((left : Text) → Fronted (IsMonthDay profile) text left → stopped (month_day_front profile left))
        → ((left : Text) → Fronted IsYearMonth text left → ¬ MonthDayBegins → stopped (year_month_front left))
        → (HasNoDateFront profile text → OnRead fault read found stopped) → OnRead fault (unfronted fault profile text read) found stopped
    unfronted_read found stopped at_month_day at_year_month goes = read_if fault _ _ _ found stopped
        (λ yes. let h = (month_day_tells profile text).0.0 yes in
        let front : Fronted (IsMonthDay profile) text h.1 = (h.0, h.2, h.3) in
        rw ((month_day_tells profile text).1 h.1 front) (month_day_front profile h.1, refl, at_month_day h.1 front))
        (λ fails. let none = none_there _ _ (month_day_tells profile text).0 fails in
        read_if fault _ _ _ found stopped
        (λ yes. let h = (year_month_tells text).0.0 yes in
        let front : Fronted IsYearMonth text h.1 = (h.0, h.2, h.3) in
        rw ((year_month_tells text).1 h.1 front) (year_month_front h.1, refl, at_year_month h.1 front none))
        (λ neither. goes (none, none_there (year_month_begins text) _ (year_month_tells text).0 neither)))
