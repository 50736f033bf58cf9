-- Code units that no core has: `[`, and `P` and `p`, with which a duration begins. If a core ends at the end of the text or at a `[`, this
-- has three consequences. A text has only one core. A prefix without these code units is a prefix of the core. No core begins like a
-- duration.
use Rattle.std.proofs.Common.{◌≡◌, ℕ, IsTrue, ◌&&◌, ◌||◌, not, ◌⊎◌, ℤ, [], ◌∷◌, ◌++◌, refl, sym, ◌∙◌, subst, inl, inr, arith}
use Rattle.std.proofs.lemmas.Bool.{both_ways, eqb-true, Decides.nat_tests}
use Rattle.ixdtf_grammar.specs.declared.records.{DateRecord.DateRecord, Sign.Sign}
use Rattle.ixdtf_grammar.specs.language.Letters.{Class, Letter, Text, hyphen, sign, opening, duration_designator, Letter.Plain}
use Rattle.ixdtf_grammar.specs.language.{Shapes.{Shape, digits}, Dates.Year, Durations.SignedDesignator}
use Rattle.ixdtf_grammar.specs.{language.Months.{OptionalHyphen, Marks, IsYearMonth, MonthDayText}, table.Before.AtCoreEnd}
use Rattle.ixdtf_grammar.proofs.parts.Classes.{ascii, IsOf, AllOf, all_append, Within, PlainOf, plain_nothing, one_of, ◌and_then◌, ◌or_else◌, all_digits}

-- The class has the code units of ASCII that can be in a core: all except `[`, `P` and `p`.
abbrev pub core_unit : Class
core_unit c = ascii c && not (opening c || duration_designator c)

abbrev pub AllInside : Shape
AllInside = AllOf core_unit

-- ---- the text after a core

-- A core ends here: the text ends, or `[` follows.
abbrev pub CoreEnds : Text → Type 0
CoreEnds rest = (rest ≡ []) ⊎ ((more : Text) × (rest ≡ Plain 91 ∷ more))

pub core_ends : (rest : Text) → AtCoreEnd rest → CoreEnds rest
core_ends rest (inl is) = inl is
core_ends rest (inr h) = let bracket : h.3.0 ≡ 91 = eqb-true h.3.0 91 h.3.2 in inr (h.1, rw (h.2, h.3.1, bracket) refl)

not_at_end : (c : Letter) (more rest : Text) → IsOf core_unit c → CoreEnds rest → rest ≡ c ∷ more → ⊥
not_at_end c more rest none (inl h) is = let cells : [] ≡ c ∷ more = sym h ∙ is in absurd cc
not_at_end c more rest none (inr h) is =
    let cells : c ∷ more ≡ Plain 91 ∷ h.0 = sym is ∙ h.1 in
    let same : c ≡ Plain 91 = cc in
    both_ways (core_unit 91) refl (subst (IsOf core_unit) same none)

-- A prefix with none of these code units is a prefix of the core.
pub in_core : (front after cores rest : Text) → AllInside front → CoreEnds rest → cores ++ rest ≡ front ++ after → (more : Text) × (cores ≡ front ++ more)
in_core [] after cores rest none ends is = (cores, refl)
in_core (c ∷ front) after [] rest none ends is = absurd (not_at_end c (front ++ after) rest none.0 ends is)
in_core (c ∷ front) after (d ∷ cores) rest none ends is =
    let heads : d ≡ c = cc in
    let tails : cores ++ rest ≡ front ++ after = cc in
    let inner = in_core front after cores rest none.1 ends tails in
    (inner.0, λ i. heads i ∷ inner.1 i)

-- So a text has only one core.
pub same_core : (a b s t : Text) → AllInside a → AllInside b → CoreEnds s → CoreEnds t → a ++ s ≡ b ++ t → a ≡ b
same_core [] [] s t f g x y is = refl
same_core [] (d ∷ b) s t f g x y is = absurd (not_at_end d (b ++ t) s g.0 x is)
same_core (c ∷ a) [] s t f g x y is = absurd (not_at_end c (a ++ s) t f.0 y (sym is))
same_core (c ∷ a) (d ∷ b) s t f g x y is =
    let heads : c ≡ d = cc in
    let tails : a ++ s ≡ b ++ t = cc in
    let inner = same_core a b s t f.1 g.1 x y tails in
    λ i. heads i ∷ inner i

-- ---- no core begins as a duration

-- A core does not begin with the `P` of a duration.
no_designator : (cores rest after : Text) (c : ℕ) → AllInside cores → CoreEnds rest → IsTrue (duration_designator c) → cores ++ rest ≡ Plain c ∷ after → ⊥
no_designator [] rest after c inside (inl h) designates is = let cells : [] ≡ Plain c ∷ after = sym h ∙ is in absurd cc
no_designator [] rest after c inside (inr h) designates is =
    let cells : Plain c ∷ after ≡ Plain 91 ∷ h.0 = sym is ∙ h.1 in
    let same : c ≡ 91 = cc in
    both_ways (duration_designator 91) refl (subst (λ n. IsTrue (duration_designator n)) same designates)
no_designator (d ∷ cores) rest after c inside ends designates is =
    let same : d ≡ Plain c = cc in
    let unit : IsTrue (core_unit c) = subst (IsOf core_unit) same inside.0 in
    grind (arith, nat_tests, unit, designates)

-- A core begins neither with the `P` of a duration, nor with a sign and the `P` of a duration.
pub no_duration : (cores rest start after : Text) (s : Sign) → AllInside cores → CoreEnds rest → SignedDesignator start s → cores ++ rest ≡ start ++ after → ⊥
no_duration cores rest start after s inside ends (inl h) is = no_designator cores rest after h.0.0 inside ends h.0.2 (is ∙ rw h.0.1 refl)
no_duration [] rest start after s inside (inl none) (inr h) is = let cells : [] ≡ Plain h.0 ∷ (h.1 ++ after) = sym none ∙ is ∙ rw h.2 refl in absurd cc
no_duration [] rest start after s inside (inr opens) (inr h) is =
    let cells : Plain 91 ∷ opens.0 ≡ Plain h.0 ∷ (h.1 ++ after) = sym opens.1 ∙ is ∙ rw h.2 refl in
    let same : h.0 ≡ 91 = cc in
    both_ways (sign 91) refl (subst (λ n. IsTrue (sign n)) same h.3)
no_duration (d ∷ cores) rest start after s inside ends (inr h) is =
    let cells : d ∷ (cores ++ rest) ≡ Plain h.0 ∷ (Plain h.4.0 ∷ after) = is ∙ rw (h.2, h.4.1) refl in
    no_designator cores rest after h.4.0 inside.1 ends h.4.2 cc

-- ---- the parts of dates

pub of_sign : Within sign core_unit
of_sign c h = grind (arith, nat_tests, h)

of_hyphen : Within hyphen core_unit
of_hyphen c h = grind (arith, nat_tests, h)

pub in_digits : (n : ℕ) (text : Text) → digits n text → AllInside text
in_digits n text h = all_digits (λ c d. grind (arith, nat_tests, d)) n text h

pub in_year : (text : Text) (year : ℤ) → Year text year → AllInside text
in_year text year (inl h) = in_digits 4 text h.0
in_year text year (inr h) = rw h.is (of_sign h.c h.sign, in_digits 6 h.ds h.digits)

pub in_hyphens : PlainOf core_unit OptionalHyphen
in_hyphens = plain_nothing or_else one_of of_hyphen

pub in_marks : PlainOf core_unit Marks
in_marks = plain_nothing or_else one_of of_hyphen and_then one_of of_hyphen

pub in_year_month : (text : Text) (date : DateRecord) → IsYearMonth text date → AllInside text
in_year_month text date h =
    rw h.is (all_append _ h.years _ (in_year h.years date.year h.year)
    (all_append _ h.hyphens _ (in_hyphens.plain _ h.hyphen) (in_digits 2 h.months h.month.0.0)))

pub in_month_day : (text : Text) (date : DateRecord) → MonthDayText text date → AllInside text
in_month_day text date h =
    rw h.is (all_append _ h.marks _ (in_marks.plain _ h.mark) (all_append _ h.months _ (in_digits 2 h.months h.month.0.0)
    (all_append _ h.hyphens _ (in_hyphens.plain _ h.hyphen) (in_digits 2 h.days h.day.0))))
