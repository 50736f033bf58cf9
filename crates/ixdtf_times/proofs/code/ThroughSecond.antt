-- The beginning of a date-time, up to the end of its second: the reading functions that go on after the second have the same errors,
-- and a beginning that is read is in fixed columns.
use Rattle.std.proofs.Common.{◌≡◌, ℕ, zero, suc, ◌<◌, Bool, true, false, IsTrue, IsFalse, length, [], ◌∷◌, ◌++◌, Ok, Err, Option, Some, None, refl, sym, ap, ◌∙◌}
use Rattle.std.proofs.Common.{if◌then◌else◌, append_assoc, pos, ℤ, arith}
use Rattle.std.proofs.lemmas.Bool.{and_parts, both_ways, leb-true, eqb-true, Decides.nat_tests}
use Rattle.ixdtf_grammar.specs.declared.records.{DateRecord.DateRecord, TimeRecord.TimeRecord}
use Rattle.ixdtf_grammar.specs.language.{Letters.{Text, digit, hyphen, time_letter, date_time_separator, Letter.{Plain, Bad}}, Shapes.digits}
use Rattle.ixdtf_grammar.specs.language.{Digits.decimal, FixedPlaces.{FixedDateTime}}
use Rattle.ixdtf_grammar.specs.table.LineNames.LineName.{of_date_time}
use Rattle.ixdtf_reading.specs.reading.Stops.{reason_of}
use Rattle.ixdtf_grammar.specs.table.DateTimeFronts.{Field, Field.{month_field, day_field, hour_field, minute_field, second_field}}
use Rattle.ixdtf_grammar.specs.table.LineNames.DateTimeLine.{four_digits, after_four_digits, field_digits, after_field}
use Rattle.ixdtf_grammar.proofs.parts.Texts.{colon_seconds_text}
use Rattle.ixdtf_reading.specs.reading.Looks.{Read, Look, Placed, ◌>>=◌, error_of, as_number, digit_look, digits_by, digits_at, look_for, look_at_line}
use Rattle.ixdtf_reading.specs.reading.{Looks.{missing, look_at, next_by, letter_at}, Dates.date_of, Times.time_of, FixedPlaces.byte_place}
use Rattle.ixdtf_reading.specs.reading.DateTimes.{Finish, field_at, marked_field_at, is_month, is_day, at_most, date_time_by, full_month_at, full_day_at}
use Rattle.ixdtf_reading.specs.reading.DateTimes.{full_time_at, whole_minute_at, whole_second_at}
use Rattle.ixdtf_reading.proofs.parts.Looks.{onto}
use Rattle.ixdtf_reading.proofs.code.{FixedDateTimes.year_then, FixedPlaces.{date_time_stands, too_short}}
use Rattle.ixdtf_times.specs.ThroughSecond.{time_through_second, day_through_second, date_time_through_second, NoDateTime}

-- ---- the same errors

-- If both go on after the same part, and have the same errors after it, they have the same errors.
part_errs : {A B C : Type 0} (r : Read Placed A) (f : A × Text → Read Placed B) (g : A × Text → Read Placed C) (e : Placed)
    → ((x : A × Text) → f x ≡ Err e → g x ≡ Err e) → (r >>= f) ≡ Err e → (r >>= g) ≡ Err e
part_errs (Ok x) f g e same is = same x is
part_errs (Err d) f g e same is = let it : d ≡ e = cc in ap (λ d. Err d) it

first_errs : {A B : Type 0} (r : Read Placed A) (g : A × Text → Read Placed B) (e : Placed) → r ≡ Err e → (r >>= g) ≡ Err e
first_errs r g e is = rw is refl

module _ {A : Type 0} (finish : Finish Placed A) (e : Placed) where
  time_errs : (date : DateRecord) (text : Text) → time_through_second text ≡ Err e → full_time_at error_of finish date text ≡ Err e
  unfolding time_through_second full_time_at whole_minute_at whole_second_at
  time_errs date text = part_errs (marked_field_at error_of hour_field (at_most 23) text) _ _ e
      (λ hour. part_errs (marked_field_at error_of minute_field (at_most 59) hour.1) _ _ e
      (λ minute. first_errs (field_at error_of second_field (at_most 60) minute.1) _ e))

  day_errs : (year : ℤ) (month : ℕ) (text : Text) → day_through_second year month text ≡ Err e → full_day_at error_of finish year month text ≡ Err e
  unfolding day_through_second full_day_at
  day_errs year month text = part_errs (marked_field_at error_of day_field (is_day year month) text) _ _ e (λ day. time_errs _ day.1)

  -- If the beginning has an error, it is the error of the date-time.
  pub date_time_errs : (text : Text) → date_time_through_second text ≡ Err e → date_time_by error_of finish text ≡ Err e
  unfolding date_time_through_second full_month_at
  date_time_errs text is = year_then finish text ∙ part_errs (as_number (digits_by (digit_look (reason_of (of_date_time four_digits))) 4 text)) _ _ e
      (λ year. part_errs (next_by (look_for hyphen (reason_of (of_date_time after_four_digits))) year.1) _ _ e
      (λ mark. part_errs (marked_field_at error_of month_field is_month mark.1) _ _ e
      (λ month. day_errs (pos year.0) month.0 month.1))) is

-- ---- what was read

-- If two steps returned a value, the first step returned one too.
then_ok : {A B Goal : Type 0} (r : Read Placed A) (go : A × Text → Read Placed B) (y : B × Text) → (r >>= go) ≡ Ok y
    → ((x : A × Text) → r ≡ Ok x → go x ≡ Ok y → Goal) → Goal
then_ok (Ok x) go y e next = next x refl e
then_ok (Err d) go y e next = absurd cc

then_held : {A : Type 0} (test : Bool) (x y : A × Text) (d : Placed) → (if test then Ok x else Err d) ≡ Ok y → IsTrue test × (x ≡ y)
then_held true x y d e = (refl, cc)
then_held false x y d e = absurd cc

none_missing : {A : Type 0} (o : Option Placed) (d : Placed) (x : A × Text) → missing o d ≡ Ok x → ⊥
none_missing None d x e = absurd cc
none_missing (Some e) d x is = absurd cc

letter_ok : (l : Look Placed) (text : Text) (x : ℕ × Text) → next_by l text ≡ Ok x → (text ≡ Plain x.0 ∷ x.1) × IsTrue (l.goes_on x.0)
unfolding next_by look_at
letter_ok l [] x e = absurd (none_missing (l.at_end []) (l.at_bad []) x e)
letter_ok l (Bad ∷ rest) x e = absurd cc
letter_ok l (Plain c ∷ rest) x e =
    let held = then_held (l.goes_on c) (c, rest) x _ e in (ap (λ y. Plain y.0 ∷ y.1) held.1, ap (λ y. l.goes_on y.0) (sym held.1) ∙ held.0)

digits_ok : (l : Look Placed) → ((c : ℕ) → l.goes_on c ≡ digit c) → (n : ℕ) (text : Text) (x : Text × Text) → digits_by l n text ≡ Ok x
    → (text ≡ x.0 ++ x.1) × digits n x.0
unfolding digits_by
digits_ok l asks zero text x e = let is : ([], text) ≡ x = cc in (ap (λ y. y.0 ++ y.1) is, sym (ap (λ y. y.0) is))
digits_ok l asks (suc n) text x e =
    then_ok (next_by l text) _ x e λ next f more.
    then_ok (digits_by l n next.1) _ x more λ ds g last.
    let (split, goes) = letter_ok l text next f in
    let (after, some) = digits_ok l asks n next.1 ds g in
    let is : (Plain next.0 ∷ ds.0, ds.1) ≡ x = cc in (
      split ∙ onto next.0 after ∙ ap (λ y. y.0 ++ y.1) is,
      (next.0, ds.0, sym (ap (λ y. y.0) is), sym (asks next.0) ∙ goes, some),
    )

year_ok : (text : Text) (x : ℕ × Text) → as_number (digits_by (digit_look (reason_of (of_date_time four_digits))) 4 text) ≡ Ok x
    → (ds : Text) × (text ≡ ds ++ x.1) × digits 4 ds × (x.0 ≡ decimal ds)
year_ok text x e = go (digits_by (digit_look (reason_of (of_date_time four_digits))) 4 text) refl e
  where
    go : (r : Read Placed Text) → digits_by (digit_look (reason_of (of_date_time four_digits))) 4 text ≡ r → as_number r ≡ Ok x
        → (ds : Text) × (text ≡ ds ++ x.1) × digits 4 ds × (x.0 ≡ decimal ds)
    go (Ok y) is e =
        let it : (decimal y.0, y.1) ≡ x = cc in
        let found = digits_ok (digit_look (reason_of (of_date_time four_digits))) (λ c. refl) 4 text y is in
        (y.0, found.0 ∙ ap (λ z. y.0 ++ z.1) it, found.1, sym (ap (λ z. z.0) it))
    go (Err d) is e = absurd cc

module _ (field : Field) (test : ℕ → Bool) (text : Text) where
  -- A number in its range was read, and `rest` is after it.
  abbrev Numbered : ℕ → Text → Type 0
  Numbered n rest = (ds : Text) × (text ≡ ds ++ rest) × digits 2 ds × IsTrue (test (decimal ds)) × (n ≡ decimal ds)

  field_ok : (x : ℕ × Text) → field_at error_of field test text ≡ Ok x → Numbered x.0 x.1
  unfolding field_at
  field_ok x e =
      then_ok (digits_at error_of (of_date_time (field_digits field)) 2 text) _ x e λ ds f last.
      let found = digits_ok (look_at_line error_of (of_date_time (field_digits field))) (λ c. refl) 2 text ds f in
      let held = then_held (test (decimal ds.0)) (decimal ds.0, ds.1) x _ last in
      (ds.0, found.0 ∙ ap (λ y. ds.0 ++ y.1) held.1, found.1, held.0, sym (ap (λ y. y.0) held.1))

  -- As above. Also, the code unit after the number was read.
  abbrev Marked : ℕ → Text → Type 0
  Marked n rest = (c : ℕ) × IsTrue ((look_at_line error_of (of_date_time (after_field field))).goes_on c) × Numbered n (Plain c ∷ rest)

  marked_ok : (x : ℕ × Text) → marked_field_at error_of field test text ≡ Ok x → Marked x.0 x.1
  unfolding marked_field_at
  marked_ok x e =
      then_ok (field_at error_of field test text) _ x e λ number f more.
      then_ok (letter_at error_of (of_date_time (after_field field)) number.1) _ x more λ mark g last.
      let found = field_ok number f in
      let next = letter_ok (look_at_line error_of (of_date_time (after_field field))) number.1 mark g in
      let is : (number.0, mark.1) ≡ x = cc in
      (mark.0, next.1, (found.0, found.1 ∙ ap (λ t. found.0 ++ t) (next.0 ∙ ap (λ y. Plain mark.0 ∷ y.1) is), found.2, found.3, sym (ap (λ y. y.0) is) ∙ found.4))

-- ---- the columns

separates : (c : ℕ) → IsTrue (time_letter c) → IsTrue (date_time_separator c)
separates c h = grind (arith, nat_tests, h)

-- The text begins with a date, `T` or `t`, and a time. `rest` is the text after them.
abbrev pub BeginsFixed : Text → Text → Type 0
BeginsFixed text rest = (date : DateRecord) × (time : TimeRecord) × FixedDateTime text date time rest × IsTrue (time_letter (byte_place 10 text))

module _ (ys ms ds hs ns ss rest : Text) (c : ℕ) where
  abbrev beginning : Text
  beginning = ys ++ (Plain 45 ∷ (ms ++ (Plain 45 ∷ (ds ++ (Plain c ∷ (hs ++ (Plain 58 ∷ (ns ++ (Plain 58 ∷ (ss ++ rest))))))))))

  joined : (text t0 t1 t2 t3 t4 t5 : Text) (a b p q : ℕ) → text ≡ ys ++ t0 → t0 ≡ Plain a ∷ t1 → a ≡ 45 → t1 ≡ ms ++ (Plain b ∷ t2) → b ≡ 45
      → t2 ≡ ds ++ (Plain c ∷ t3) → t3 ≡ hs ++ (Plain p ∷ t4) → p ≡ 58 → t4 ≡ ns ++ (Plain q ∷ t5) → q ≡ 58 → t5 ≡ ss ++ rest → text ≡ beginning
  joined text t0 t1 t2 t3 t4 t5 a b p q y k first m dash d h colon n last s = rw (y, k, first, m, dash, d, h, colon, n, last, s) refl

  fixed : (text : Text) (year month : ℕ) → text ≡ beginning → digits 4 ys → year ≡ decimal ys → digits 2 ms → IsTrue (is_month (decimal ms)) → month ≡ decimal ms
      → digits 2 ds → IsTrue (is_day (pos year) month (decimal ds)) → IsTrue (time_letter c)
      → digits 2 hs → IsTrue (at_most 23 (decimal hs)) → digits 2 ns → IsTrue (at_most 59 (decimal ns)) → digits 2 ss → IsTrue (at_most 60 (decimal ss))
      → BeginsFixed text rest
  fixed text year month is y year_is m m_in month_is d d_in letter h h_in n n_in s s_in =
      let months = and_parts _ _ m_in in
      let day_in : IsTrue (is_day (pos (decimal ys)) (decimal ms) (decimal ds)) = rw (year_is, month_is) at d_in in
      let days = and_parts _ _ day_in in
      let place : byte_place 10 text ≡ c = rw (is, y.2, y.4.2, y.4.4.2, y.4.4.4.2, y.4.4.4.4, m.2, m.4.2, m.4.4, d.2, d.4.2, d.4.4) refl in (
        date_of (pos (decimal ys)) (decimal ms) (decimal ds),
        time_of (decimal hs) (decimal ns) (decimal ss) None,
        record {
          dates = ys ++ (Plain 45 ∷ (ms ++ (Plain 45 ∷ ds)));
          separator = c;
          times = hs ++ (Plain 58 ∷ (ns ++ (Plain 58 ∷ ss)));
          is = is ∙ simp append_assoc;
          is_date = record {
            years = ys;
            months = ms;
            days = ds;
            is = refl;
            year = (y, refl);
            month = ((m, refl), leb-true _ _ months.0, leb-true _ _ months.1);
            day = (d, refl);
            in_month = (leb-true _ _ days.0, leb-true _ _ days.1);
          };
          separates = separates c letter;
          is_time = colon_seconds_text hs ns ss refl refl (h, refl, leb-true _ _ h_in) (n, refl, leb-true _ _ n_in) (s, refl, leb-true _ _ s_in) refl;
        },
        ap time_letter place ∙ letter,
      )

-- A beginning that was read is in fixed columns.
pub through_second_is_fixed : (text : Text) (second : ℕ) (rest : Text) → date_time_through_second text ≡ Ok (second, rest) → BeginsFixed text rest
unfolding date_time_through_second day_through_second time_through_second
through_second_is_fixed text second rest e =
    then_ok (as_number (digits_by (digit_look (reason_of (of_date_time four_digits))) 4 text)) _ (second, rest) e λ year e0 more0.
    then_ok (next_by (look_for hyphen (reason_of (of_date_time after_four_digits))) year.1) _ (second, rest) more0 λ mark e1 more1.
    then_ok (marked_field_at error_of month_field is_month mark.1) _ (second, rest) more1 λ month e2 more2.
    then_ok (marked_field_at error_of day_field (is_day (pos year.0) month.0) month.1) _ (second, rest) more2 λ day e3 more3.
    then_ok (marked_field_at error_of hour_field (at_most 23) day.1) _ (second, rest) more3 λ hour e4 more4.
    then_ok (marked_field_at error_of minute_field (at_most 59) hour.1) _ (second, rest) more4 λ minute e5 last.
    let y = year_ok text year e0 in
    let k = letter_ok (look_for hyphen (reason_of (of_date_time after_four_digits))) year.1 mark e1 in
    let m = marked_ok month_field is_month mark.1 month e2 in
    let d = marked_ok day_field (is_day (pos year.0) month.0) month.1 day e3 in
    let h = marked_ok hour_field (at_most 23) day.1 hour e4 in
    let n = marked_ok minute_field (at_most 59) hour.1 minute e5 in
    let s = field_ok second_field (at_most 60) minute.1 (second, rest) last in
    let is : text ≡ beginning y.0 m.2.0 d.2.0 h.2.0 n.2.0 s.0 rest d.0 =
    joined y.0 m.2.0 d.2.0 h.2.0 n.2.0 s.0 rest d.0 text year.1 mark.1 month.1 day.1 hour.1 minute.1 mark.0 m.0 h.0 n.0 y.1 k.0 (eqb-true mark.0 45 k.1)
    m.2.1 (eqb-true m.0 45 m.1) d.2.1 h.2.1 (eqb-true h.0 58 h.1) n.2.1 (eqb-true n.0 58 n.1) s.1 in
    fixed y.0 m.2.0 d.2.0 h.2.0 n.2.0 s.0 rest d.0 text year.0 month.0 is y.2 y.3 m.2.2 m.2.3 m.2.4 d.2.2 d.2.3 d.1 h.2.2 h.2.3 n.2.2 n.2.3 s.2 s.3

-- ---- texts without such a beginning

pub none_if_short : (text : Text) → length text < 19 → NoDateTime text
none_if_short text short second rest e =
    let f = through_second_is_fixed text second rest e in
    let some = date_time_stands text f.0 f.1 rest f.2 in
    let none = too_short text short in
    absurd (cc (some, none))

pub none_without_letter : (text : Text) → IsFalse (time_letter (byte_place 10 text)) → NoDateTime text
none_without_letter text other second rest e = both_ways _ other (through_second_is_fixed text second rest e).3

pub none_if_unfixed : (text : Text) → ((date : DateRecord) (time : TimeRecord) (rest : Text) → FixedDateTime text date time rest → ⊥) → NoDateTime text
none_if_unfixed text unfixed second rest e = let f = through_second_is_fixed text second rest e in unfixed f.0 f.1 rest f.2
