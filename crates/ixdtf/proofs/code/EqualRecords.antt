-- Two records are equal if and only if contracts see them as the same.
use Rattle.ixdtf_grammar.specs.declared.records.UtcOffsetRecord.TheVariants as offsets
use Rattle.ixdtf_grammar.specs.declared.records.UtcOffsetRecordOrZ.TheVariants as offsets_or_z
use Rattle.ixdtf_grammar.specs.declared.records.TimeZoneRecord.TheVariants as zones
use Rattle.ixdtf_grammar.specs.declared.records.TimeDurationRecord.TheVariants as time_durations
use Rattle.ixdtf_grammar.specs.contracts.records.MinutePrecisionOffsetPartialEq.TheImpl as minute_offsets
use Rattle.ixdtf_grammar.specs.contracts.records.FullPrecisionOffsetPartialEq.TheImpl as full_offsets
use Rattle.ixdtf_grammar.specs.contracts.records.UtcOffsetRecordPartialEq.TheImpl as offset_records
use Rattle.ixdtf_grammar.specs.contracts.records.UtcOffsetRecordOrZPartialEq.TheImpl as offsets_or_z_equal
use Rattle.ixdtf_grammar.specs.contracts.records.FractionPartialEq.TheImpl as fractions
use Rattle.ixdtf_grammar.specs.contracts.records.TimeDurationRecordPartialEq.TheImpl as time_durations_equal
use Rattle.std.proofs.Common.{nat_eq, ◌≡◌, ◌↔◌, ℕ, Bool, false, ◌&&◌, IsTrue, map, Option, Some, None, option_map, refl, sym, ap, ◌∙◌}
use Rattle.std.proofs.lemmas.Iterator.Adapters.{option_map_id}
use Rattle.std.specs.{Bool.one_answer, Cmp.{unsigned_Decides, first_so, second_so, Derive.both_true}, Option.option_eq}
use Rattle.ixdtf_grammar.specs.declared.records.{TimeZoneRecord.TimeZoneRecord}
use Rattle.ixdtf_grammar.specs.{declared.records.TimeDurationRecord.TimeDurationRecord, language.{Fractions.FractionParts, ZoneNames.Zone.{Name, Offset}}}
use Rattle.ixdtf_grammar.specs.{Laws.IsEqualityBy, Views.zone_of}

-- The test returns true if and only if contracts see the two values as the same.
abbrev pub Exact : {K V : Type 0} → (K → V) → (K → K → Bool) → Type 0
Exact {K} {V} seen eq = (a b : K) → IsTrue (eq a b) ↔ (seen a ≡ seen b)

pub by_exact : {K V : Type 0} {seen : K → V} {eq : K → K → Bool} → Exact seen eq → IsEqualityBy seen eq
by_exact {K} {V} {seen} {eq} exact = record {
  exact = exact;
  equivalence = record {
    refl = λ x. (exact x x).1 refl;
    symm = λ x y. one_answer (eq x y) (eq y x) (exact x y) (λ t. sym ((exact y x).0 t), λ e. (exact y x).1 (sym e));
    congr = λ x y z t. one_answer (eq x z) (eq y z) (exact x z) (λ u. (exact x y).0 t ∙ (exact y z).0 u, λ e. (exact y z).1 (sym ((exact x y).0 t) ∙ e));
  };
}

-- If the test is exact for a part, it is exact for the values by this part.
pub on_part : {J K V : Type 0} (part : J → K) {seen : K → V} {eq : K → K → Bool} → Exact seen eq → Exact (λ x. seen (part x)) (λ x y. eq (part x) (part y))
on_part part exact a b = exact (part a) (part b)

-- Two exact tests of two parts, joined with `&&`, are exact for the pair.
pub on_both : {K V W : Type 0} {f : K → V} {g : K → W} {E F : K → K → Bool} →
    Exact f E → Exact g F → Exact {V = V × W} (λ x. (f x, g x)) (λ x y. E x y && F x y)
on_both {K} {V} {W} {f} {g} {E} {F} e h a b = (to, λ p. both_true ((e a b).1 (ap (λ x. x.0) p)) ((h a b).1 (ap (λ x. x.1) p)))
  where
    to : IsTrue (E a b && F a b) → ◌≡◌ {A = V × W} (f a, g a) (f b, g b)
    to t i = ((e a b).0 (first_so (E a b) (F a b) t) i, (h a b).0 (second_so (E a b) (F a b) t) i)

-- A test stays exact if the values are seen through a function that can be undone.
pub put_together : {K V W : Type 0} {seen : K → V} {eq : K → K → Bool} (to : V → W) (back : W → V) →
    ((x : V) → back (to x) ≡ x) → Exact seen eq → Exact (λ x. to (seen x)) eq
put_together {seen = seen} to back undone exact a b =
    (λ t. ap to ((exact a b).0 t), λ p. (exact a b).1 (sym (undone (seen a)) ∙ ap back p ∙ undone (seen b)))

-- If a test is exact for values, it is exact for optional values.
pub on_option : {K V : Type 0} {seen : K → V} {eq : K → K → Bool} → Exact seen eq → Exact (option_map seen) (option_eq eq)
on_option exact None None = (λ t. refl, λ p. refl)
on_option exact None (Some y) = (λ t. absurd cc, λ p. absurd cc)
on_option exact (Some x) None = (λ t. absurd cc, λ p. absurd cc)
on_option exact (Some x) (Some y) = (λ t. ap Some ((exact x y).0 t), λ p. (exact x y).1 cc)

-- If a test is exact for values that are seen as they are, it is exact for optional values.
pub on_option_itself : {K : Type 0} {eq : K → K → Bool} → Exact (λ x. x) eq → Exact (λ o. o) (option_eq eq)
on_option_itself exact a b = let both = on_option exact a b in (rw (option_map_id a, option_map_id b) at both)

-- The test of zones consists of the tests of their two variants.
pub record ByVariant {T U : Type 0} (eq : TimeZoneRecord T U → TimeZoneRecord T U → Bool) (eq_names : _ → _ → Bool) (eq_offsets : _ → _ → Bool) : Type 0 where
  pub names : (u v : _) → eq (zones.Name u) (zones.Name v) ≡ eq_names u v
  pub offsets : (o p : _) → eq (zones.Offset o) (zones.Offset p) ≡ eq_offsets o p
  pub name_first : (u o : _) → eq (zones.Name u) (zones.Offset o) ≡ false
  pub offset_first : (o u : _) → eq (zones.Offset o) (zones.Name u) ≡ false

module _ {T U : Type 0} (number : U → ℕ) {eq : TimeZoneRecord T U → TimeZoneRecord T U → Bool} where
  pub zones_exact : {E F : _ → _ → Bool} → ByVariant eq E F → Exact (λ units. map number units.now) E → Exact (λ o. o) F → Exact (zone_of number) eq
  zones_exact by names shifts (zones.Name u) (zones.Name v) = rw (by.names u v) (λ t. ap Name ((names u v).0 t), λ e. (names u v).1 cc)
  zones_exact by names shifts (zones.Offset o) (zones.Offset p) = rw (by.offsets o p) (λ t. ap Offset ((shifts o p).0 t), λ e. (shifts o p).1 cc)
  zones_exact by names shifts (zones.Name u) (zones.Offset p) = rw (by.name_first u p) (λ t. absurd cc, λ e. absurd cc)
  zones_exact by names shifts (zones.Offset o) (zones.Name v) = rw (by.offset_first o v) (λ t. absurd cc, λ e. absurd cc)

-- The test of offsets is exact.
pub offsets_exact : Exact (λ o. o) minute_offsets.eq-value.it → Exact (λ o. o) full_offsets.eq-value.it → Exact (λ o. o) offset_records.eq-value.it
offsets_exact short long (offsets.MinutePrecision o) (offsets.MinutePrecision p) =
    (λ t. ap offsets.MinutePrecision ((short o p).0 t), λ e. (short o p).1 cc)
offsets_exact short long (offsets.FullPrecisionOffset o) (offsets.FullPrecisionOffset p) =
    (λ t. ap offsets.FullPrecisionOffset ((long o p).0 t), λ e. (long o p).1 cc)
offsets_exact short long o p = (λ t. absurd cc, λ e. absurd cc)

-- The test of offsets or `Z` is exact.
pub offsets_or_z_exact : Exact (λ o. o) offset_records.eq-value.it → Exact (λ o. o) offsets_or_z_equal.eq-value.it
offsets_or_z_exact shifts (offsets_or_z.Offset o) (offsets_or_z.Offset p) =
    (λ t. ap offsets_or_z.Offset ((shifts o p).0 t), λ e. (shifts o p).1 cc)
offsets_or_z_exact shifts offsets_or_z.Z offsets_or_z.Z = (λ t. refl, λ e. refl)
offsets_or_z_exact shifts o p = (λ t. absurd cc, λ e. absurd cc)

-- The hours of a duration and a fraction.
abbrev InHours : Type 0
InHours = ℕ × Option FractionParts

abbrev hours_of : InHours → TimeDurationRecord
hours_of p = time_durations.Hours p.0 p.1

abbrev minutes_of : ℕ × InHours → TimeDurationRecord
minutes_of p = time_durations.Minutes p.0 p.1.0 p.1.1

abbrev seconds_of : ℕ × (ℕ × InHours) → TimeDurationRecord
seconds_of p = time_durations.Seconds p.0 p.1.0 p.1.1.0 p.1.1.1

-- The test stays exact with one more number before the others.
with_number : {V : Type 0} {eq : V → V → Bool} → Exact (λ v. v) eq → Exact (λ p. p) (λ (p q : ℕ × V). nat_eq p.0 q.0 && eq p.1 q.1)
with_number exact = on_both (on_part (λ p. p.0) unsigned_Decides) (on_part (λ p. p.1) exact)

-- The test of the time of a duration is exact.
pub time_durations_exact : Exact (λ f. f) (option_eq fractions.eq-value.it) → Exact (λ o. o) time_durations_equal.eq-value.it
time_durations_exact fraction (time_durations.Hours h f) (time_durations.Hours i g) =
    let hours = with_number fraction (h, f) (i, g) in
    (λ t. ap hours_of (hours.0 t), λ e. hours.1 cc)
time_durations_exact fraction (time_durations.Minutes h m f) (time_durations.Minutes i n g) =
    let minutes = with_number (with_number fraction) (h, (m, f)) (i, (n, g)) in
    (λ t. ap minutes_of (minutes.0 t), λ e. minutes.1 cc)
time_durations_exact fraction (time_durations.Seconds h m s f) (time_durations.Seconds i n u g) =
    let seconds = with_number (with_number (with_number fraction)) (h, (m, (s, f))) (i, (n, (u, g))) in
    (λ t. ap seconds_of (seconds.0 t), λ e. seconds.1 cc)
time_durations_exact fraction a b = (λ t. absurd cc, λ e. absurd cc)
