-- A zone that was read in a bracket has the form of RFC 9557 exactly if the test is true.
use Rattle.std.proofs.Common.{◌≡◌, ◌≢◌, ℕ, Bool, true, false, IsTrue, IsFalse, List, [], ◌∷◌, ◌++◌, map, All, Some, None, refl, sym, ap, ◌∙◌, inl, inr, append_assoc}
use Rattle.std.proofs.{Common.{arith, not, drop, ◌&&◌, if◌then◌else◌, Option}, lemmas.{Bool.{both_ways, eqb-true, true≢false, Decides.nat_tests}, List.Elements.{All-nil, All-cons, All-head, All-tail}}}
use Rattle.ixdtf_grammar.specs.language.Letters.{Text, Class, slash, closing, digit, colon, zone_lead, zone_char, Letter.{Plain, Bad}}
use Rattle.ixdtf_grammar.specs.language.{Shapes.{one, ◌then◌, many, Joined}, ZoneNames.{Zone, Zone.{Name, Offset}, IsNamePart, IsPartedName, ZoneName, IsZone, IsExactZone}}
use Rattle.ixdtf_grammar.specs.language.{Offsets.IsMinuteOffset, DateTimes.IsNumOffset, Brackets.{ZoneNote, Opens, IsZoneBracket, IsExactBracket}}
use Rattle.ixdtf_grammar.specs.language.Times.{TimeShape, ClockOf, SecondText, Clock as clocks, TimeShape.{hours, basic_minutes, colon_minutes, seconds, fractions}}
use Rattle.ixdtf_grammar.specs.declared.records.{MinutePrecisionOffset.MinutePrecisionOffset, TimeRecord.TimeRecord}
use Rattle.ixdtf_grammar.proofs.parts.Classes.{AllOf, PlainOf, one_of, ◌and_then◌, ◌or_else◌, plain_many}
use Rattle.ixdtf_reading.specs.reading.{Runs.on_letter, FixedPlaces.byte_place}
use Rattle.ixdtf_reading.specs.reading.ExactZones.{dot, PartForm, PartForm.{part_start, one_dot, two_dots, in_part}, form_after, may_end, has_parts, is_exact, behind_flag}

-- ---- names: what the test says

-- The code unit can be in a part of a name.
abbrev OfPart : ℕ → Type 0
OfPart c = IsTrue (zone_char c)

-- The class of all code units except `]`. A name has only these.
abbrev unclosed : Class
unclosed c = not (closing c)

name_unclosed : PlainOf unclosed ZoneName
name_unclosed = one_of (λ c h. grind (arith, nat_tests, h)) and_then
    plain_many (one_of (λ c h. grind (arith, nat_tests, h)) or_else one_of (λ c h. grind (arith, nat_tests, h)) and_then one_of (λ c h. grind (arith, nat_tests, h)))

-- The rest of a part, and more parts.
record Finishes (text : Text) : Type 0 where
  others : List ℕ
  rest : Text
  is : text ≡ map Plain others ++ rest
  chars : All OfPart others
  more : many (one slash then IsNamePart) rest

abbrev Behind : PartForm → Text → Type 0
Behind part_start text = IsPartedName text
Behind one_dot text = IsPartedName (Plain 46 ∷ text)
Behind two_dots text = IsPartedName (Plain 46 ∷ (Plain 46 ∷ text))
Behind in_part text = Finishes text

one_char : (c : ℕ) (text : Text) → IsTrue (zone_char c) → Finishes text → Finishes (Plain c ∷ text)
one_char c text char f = record { others = c ∷ f.others; rest = f.rest; is = ap (λ t. Plain c ∷ t) f.is; chars = All-cons OfPart c f.others char f.chars; more = f.more }

-- The name begins with a part whose first code unit is not a dot.
from_lead : (c : ℕ) (text : Text) → IsFalse (dot c) → IsTrue (zone_lead c) → Finishes text → IsPartedName (Plain c ∷ text)
from_lead c text no_dot leads f = (
  map Plain (c ∷ f.others),
  f.rest,
  ap (λ t. Plain c ∷ t) f.is,
  record {
    lead = c;
    others = f.others;
    is = refl;
    leads = leads;
    chars = f.chars;
    no_dot = λ same. let unit : c ≡ 46 = cc in both_ways (dot 46) (ap dot (sym unit) ∙ no_dot) refl;
    no_dots = λ same. let unit : c ≡ 46 = cc in both_ways (dot 46) (ap dot (sym unit) ∙ no_dot) refl;
  },
  f.more,
)

-- The name begins with a part that begins with one dot.
from_dot : (c : ℕ) (text : Text) → IsFalse (dot c) → IsTrue (zone_char c) → Finishes text → IsPartedName (Plain 46 ∷ (Plain c ∷ text))
from_dot c text no_dot char f = (
  map Plain (46 ∷ (c ∷ f.others)),
  f.rest,
  ap (λ t. Plain 46 ∷ (Plain c ∷ t)) f.is,
  record {
    lead = 46;
    others = c ∷ f.others;
    is = refl;
    leads = refl;
    chars = All-cons OfPart c f.others char f.chars;
    no_dot = λ same. absurd cc;
    no_dots = λ same. let unit : c ≡ 46 = cc in both_ways (dot 46) (ap dot (sym unit) ∙ no_dot) refl;
  },
  f.more,
)

-- The name begins with a part that begins with two dots.
from_dots : (c : ℕ) (text : Text) → IsTrue (zone_char c) → Finishes text → IsPartedName (Plain 46 ∷ (Plain 46 ∷ (Plain c ∷ text)))
from_dots c text char f = (
  map Plain (46 ∷ (46 ∷ (c ∷ f.others))),
  f.rest,
  ap (λ t. Plain 46 ∷ (Plain 46 ∷ (Plain c ∷ t))) f.is,
  record {
    lead = 46;
    others = 46 ∷ (c ∷ f.others);
    is = refl;
    leads = refl;
    chars = All-cons OfPart 46 (c ∷ f.others) refl (All-cons OfPart c f.others char f.chars);
    no_dot = λ same. absurd cc;
    no_dots = λ same. absurd cc;
  },
  f.more,
)

-- A slash, and a name after it, are the rest of a name.
from_slash : (c : ℕ) (text : Text) → IsTrue (slash c) → IsPartedName text → Finishes (Plain c ∷ text)
from_slash c text is (first, second, split, part, parts) = record {
  others = [];
  rest = Plain c ∷ text;
  is = refl;
  chars = All-nil OfPart;
  more = ((Plain c ∷ first) ∷ parts.0, (second, ap (λ t. Plain c ∷ t) split, (Plain c ∷ [], first, refl, (c, refl, is), part), parts.1));
}

-- If the test is true from the first code unit of a part on, the text consists of exact parts.
started : (c : ℕ) (text : Text) (b d : Bool) → dot c ≡ b → zone_lead c ≡ d → (go : PartForm → Bool) → ((form : PartForm) → IsTrue (go form) → Behind form text)
    → IsTrue (on_letter (if b then Some one_dot else (if d then Some in_part else None)) go (false && closing c)) → IsPartedName (Plain c ∷ text)
started c text true d is_dot is_lead go behind h =
    let same : c ≡ 46 = eqb-true c 46 is_dot in rw same (behind one_dot h)
started c text false true is_dot is_lead go behind h = from_lead c text is_dot is_lead (behind in_part h)
started c text false false is_dot is_lead go behind h = absurd (true≢false (sym h))

dotted : (c : ℕ) (text : Text) (b d : Bool) → dot c ≡ b → zone_char c ≡ d → (go : PartForm → Bool) → ((form : PartForm) → IsTrue (go form) → Behind form text)
    → IsTrue (on_letter (if b then Some two_dots else (if d then Some in_part else None)) go (false && closing c)) → IsPartedName (Plain 46 ∷ (Plain c ∷ text))
dotted c text true d is_dot is_char go behind h =
    let same : c ≡ 46 = eqb-true c 46 is_dot in rw same (behind two_dots h)
dotted c text false true is_dot is_char go behind h = from_dot c text is_dot is_char (behind in_part h)
dotted c text false false is_dot is_char go behind h = absurd (true≢false (sym h))

twice_dotted : (c : ℕ) (text : Text) (d : Bool) → zone_char c ≡ d → (go : PartForm → Bool) → ((form : PartForm) → IsTrue (go form) → Behind form text)
    → IsTrue (on_letter (if d then Some in_part else None) go (false && closing c)) → IsPartedName (Plain 46 ∷ (Plain 46 ∷ (Plain c ∷ text)))
twice_dotted c text true is_char go behind h = from_dots c text is_char (behind in_part h)
twice_dotted c text false is_char go behind h = absurd (true≢false (sym h))

closed_fails : (c : ℕ) → IsTrue (unclosed c) → IsFalse (closing c)
closed_fails c h = grind (arith, nat_tests, h)

inside_part : (c : ℕ) (text : Text) (b d : Bool) → IsTrue (unclosed c) → zone_char c ≡ b → slash c ≡ d → (go : PartForm → Bool)
    → ((form : PartForm) → IsTrue (go form) → Behind form text)
    → IsTrue (on_letter (if b then Some in_part else (if d then Some part_start else None)) go (true && closing c)) → Finishes (Plain c ∷ text)
inside_part c text true d ends is_char is_slash go behind h = one_char c text is_char (behind in_part h)
inside_part c text false true ends is_char is_slash go behind h = from_slash c text is_slash (behind part_start h)
inside_part c text false false ends is_char is_slash go behind h = absurd (both_ways (closing c) (closed_fails c ends) h)

-- If the test is true for a text without `]`, followed by `]`, the text consists of exact parts.
parts_behind : (form : PartForm) (text rest : Text) → AllOf unclosed text → IsTrue (has_parts form (text ++ (Plain 93 ∷ rest))) → Behind form text
unfolding has_parts
parts_behind part_start [] rest none h = absurd (true≢false (sym h))
parts_behind one_dot [] rest none h = absurd (true≢false (sym h))
parts_behind two_dots [] rest none h = absurd (true≢false (sym h))
parts_behind in_part [] rest none h = record { others = []; rest = []; is = refl; chars = All-nil OfPart; more = ([], refl) }
parts_behind form (Bad ∷ text) rest none h = absurd none.0
parts_behind part_start (Plain c ∷ text) rest none h =
    started c text (dot c) (zone_lead c) refl refl (λ next. has_parts next (text ++ (Plain 93 ∷ rest))) (λ next k. parts_behind next text rest none.1 k) h
parts_behind one_dot (Plain c ∷ text) rest none h =
    dotted c text (dot c) (zone_char c) refl refl (λ next. has_parts next (text ++ (Plain 93 ∷ rest))) (λ next k. parts_behind next text rest none.1 k) h
parts_behind two_dots (Plain c ∷ text) rest none h =
    twice_dotted c text (zone_char c) refl (λ next. has_parts next (text ++ (Plain 93 ∷ rest))) (λ next k. parts_behind next text rest none.1 k) h
parts_behind in_part (Plain c ∷ text) rest none h =
    inside_part c text (zone_char c) (slash c) none.0 refl refl (λ next. has_parts next (text ++ (Plain 93 ∷ rest))) (λ next k. parts_behind next text rest none.1 k) h

-- ---- names: if the test is true

over_chars : (others : List ℕ) (text : Text) → All OfPart others → has_parts in_part (map Plain others ++ text) ≡ has_parts in_part text
unfolding has_parts
over_chars [] text h = refl
over_chars (c ∷ others) text h = rw (All-head OfPart c others h) (over_chars others text (All-tail OfPart c others h))

-- A part begins with a code unit that is not a dot.
begun : (c : ℕ) (others : List ℕ) (text : Text) → IsFalse (dot c) → IsTrue (zone_lead c)
    → has_parts part_start (Plain c ∷ (map Plain others ++ text)) ≡ has_parts in_part (map Plain others ++ text)
unfolding has_parts
begun c others text no_dot leads = ap (λ form. on_letter form (λ next. has_parts next (map Plain others ++ text)) (false && closing c)) (goes_on (zone_lead c) no_dot leads)
  where
    goes_on : (b : Bool) → IsFalse (dot c) → IsTrue b → (if dot c then Some one_dot else (if b then Some in_part else None)) ≡ Some in_part
    goes_on true no_dot leads = rw no_dot refl
    goes_on false no_dot leads = absurd (true≢false (sym leads))

-- A part begins with a dot, and then a code unit that is not a dot.
behind_dot : (c : ℕ) (text : Text) → IsFalse (dot c) → IsTrue (zone_char c) → has_parts one_dot (Plain c ∷ text) ≡ has_parts in_part text
unfolding has_parts
behind_dot c text no_dot char = ap (λ form. on_letter form (λ next. has_parts next text) (false && closing c)) (goes_on (zone_char c) no_dot char)
  where
    goes_on : (b : Bool) → IsFalse (dot c) → IsTrue b → (if dot c then Some two_dots else (if b then Some in_part else None)) ≡ Some in_part
    goes_on true no_dot char = rw no_dot refl
    goes_on false no_dot char = absurd (true≢false (sym char))

-- The test goes over the first code unit of a part.
over_lead : (c : ℕ) (others : List ℕ) (text : Text) (b : Bool) → dot c ≡ b → IsTrue (zone_lead c) → All OfPart others
    → Plain c ∷ map Plain others ≢ Plain 46 ∷ [] → Plain c ∷ map Plain others ≢ Plain 46 ∷ (Plain 46 ∷ [])
    → has_parts part_start (Plain c ∷ (map Plain others ++ text)) ≡ has_parts in_part text
unfolding has_parts
over_lead c others text false is leads chars no_dot no_dots = begun c others text is leads ∙ over_chars others text chars
over_lead c [] text true is leads chars no_dot no_dots = let same : c ≡ 46 = eqb-true c 46 is in absurd (no_dot (ap (λ n. Plain n ∷ []) same))
over_lead c (d ∷ others) text true is leads chars no_dot no_dots =
    let same : c ≡ 46 = eqb-true c 46 is in
    rw is (second (dot d) refl others (All-head OfPart d others chars) (All-tail OfPart d others chars) (λ both. no_dots (rw (same, both) refl)))
  where
    second : (b : Bool) → dot d ≡ b → (more : List ℕ) → OfPart d → All OfPart more → (Plain d ∷ map Plain more ≢ Plain 46 ∷ [])
        → has_parts one_dot (Plain d ∷ (map Plain more ++ text)) ≡ has_parts in_part text
    second false is_too more char rest_chars apart = behind_dot d (map Plain more ++ text) is_too char ∙ over_chars more text rest_chars
    second true is_too [] char rest_chars apart = let unit : d ≡ 46 = eqb-true d 46 is_too in absurd (apart (ap (λ n. Plain n ∷ []) unit))
    second true is_too (e ∷ more) char rest_chars apart =
        rw (is_too, All-head OfPart e more rest_chars) (over_chars more text (All-tail OfPart e more rest_chars))

over_part : (part text : Text) → IsNamePart part → has_parts part_start (part ++ text) ≡ has_parts in_part text
over_part part text h = rw h.is (over_lead h.lead h.others text (dot h.lead) refl h.leads h.chars (rw h.is at h.no_dot) (rw h.is at h.no_dots))

over_slash : (c : ℕ) (text : Text) → IsTrue (slash c) → has_parts in_part (Plain c ∷ text) ≡ has_parts part_start text
unfolding has_parts
over_slash c text is = let same : c ≡ 47 = eqb-true c 47 is in rw same refl

over_parts : (parts : List Text) (rest text : Text) → Joined (one slash then IsNamePart) parts rest → IsTrue (has_parts in_part (rest ++ (Plain 93 ∷ text)))
unfolding has_parts
over_parts [] rest text h = rw h refl
over_parts (part ∷ parts) rest text (left, is, (mark, name, split, slashes, named), more) =
    rw (is, split, slashes.1, append_assoc name left (Plain 93 ∷ text))
    (over_slash slashes.0 (name ++ (left ++ (Plain 93 ∷ text))) slashes.2 ∙ over_part name (left ++ (Plain 93 ∷ text)) named ∙ over_parts parts left text more)

parted_holds : (inside text : Text) → IsPartedName inside → IsTrue (has_parts part_start (inside ++ (Plain 93 ∷ text)))
parted_holds inside text (first, second, is, part, parts) =
    rw (is, append_assoc first second (Plain 93 ∷ text)) (over_part first (second ++ (Plain 93 ∷ text)) part ∙ over_parts parts.0 second text parts.1)

-- ---- offsets

digit_no_colon : (c : ℕ) → IsTrue (digit c) → IsFalse (colon c)
digit_no_colon c h = grind (arith, nat_tests)

num_offset_holds : (inside text : Text) (offset : MinutePrecisionOffset) → IsNumOffset inside offset → IsTrue (colon (byte_place 3 (inside ++ text)))
num_offset_holds inside text offset o = let h = o.hour.0 in rw (o.is, h.2, h.4.2, h.4.4) refl

num_offset_is : (inside text : Text) (offset : MinutePrecisionOffset) → IsMinuteOffset inside offset → IsTrue (colon (byte_place 3 (inside ++ (Plain 93 ∷ text))))
    → IsNumOffset inside offset
num_offset_is inside text offset o h = by_shape o.shape o.clock
  where
    off : IsTrue (colon (byte_place 2 (o.body ++ (Plain 93 ∷ text))))
    off = rw o.is at h

    no_seconds : (whole : Text) (time : TimeRecord) → SecondText clocks.MinuteOffset whole time → ⊥
    no_seconds whole time (inl b) = true≢false (sym b.may)
    no_seconds whole time (inr b) = true≢false (sym b.may)

    by_shape : (shape : TimeShape) → ClockOf clocks.MinuteOffset shape o.body o.time → IsNumOffset inside offset
    by_shape hours b = let d = b.hour.0 in let none : IsTrue (colon 93) = rw (d.2, d.4.2, d.4.4) at off in absurd (true≢false (sym none))
    by_shape basic_minutes b =
        let d = b.hour.0 in
        let m = b.minute.0 in
        let unit : IsTrue (colon m.0) = rw (b.is, d.2, d.4.2, d.4.4, m.2) at off in
        absurd (both_ways _ (digit_no_colon m.0 m.3) unit)
    by_shape colon_minutes b = record {
      c = o.c;
      hs = b.hs;
      ms = b.ms;
      is = o.is ∙ ap (λ t. Plain o.c ∷ t) b.is;
      signed = o.sign;
      hour = rw o.value b.hour;
      minute = rw o.value b.minute;
      value = rw o.value refl;
    }
    by_shape seconds b = absurd (no_seconds o.body o.time b)
    by_shape fractions b = absurd (no_seconds b.whole _ b.second)

-- ---- complete brackets

-- The text of a zone is after `[` and the optional `!`.
behind : (critical : Bool) (start inside read text : Text) → Opens start critical → Plain 91 ∷ read ≡ start ++ (inside ++ (Plain 93 ∷ []))
    → behind_flag critical (read ++ text) ≡ inside ++ (Plain 93 ∷ text)
behind true start inside read text h is =
    let cells : Plain 91 ∷ read ≡ Plain h.3.0 ∷ (Plain h.4.0 ∷ (inside ++ (Plain 93 ∷ []))) = is ∙ rw (h.2, h.3.1, h.4.1) refl in
    let tail : read ≡ Plain h.4.0 ∷ (inside ++ (Plain 93 ∷ [])) = cc in
    rw tail (append_assoc inside (Plain 93 ∷ []) text)
behind false start inside read text h is =
    let cells : Plain 91 ∷ read ≡ Plain h.0 ∷ (inside ++ (Plain 93 ∷ [])) = is ∙ rw h.1 refl in
    let tail : read ≡ inside ++ (Plain 93 ∷ []) = cc in
    rw tail (append_assoc inside (Plain 93 ∷ []) text)

zone_holds : (zone : Zone) (inside text : Text) → IsExactZone inside zone → IsTrue (is_exact zone (inside ++ (Plain 93 ∷ text)))
zone_holds (Name name) inside text h = parted_holds inside text h.0
zone_holds (Offset offset) inside text h = num_offset_holds inside (Plain 93 ∷ text) offset h

zone_is : (zone : Zone) (inside text : Text) → IsZone inside zone → IsTrue (is_exact zone (inside ++ (Plain 93 ∷ text))) → IsExactZone inside zone
zone_is (Name name) inside text (inl (units, named, is)) h =
    let same : name ≡ units = cc in
    (parts_behind part_start inside text (name_unclosed.plain inside named.0) h, named.1 ∙ ap (λ n. map Plain n) (sym same))
zone_is (Name name) inside text (inr (offset, signed, is)) h = absurd cc
zone_is (Offset offset) inside text (inl (units, named, is)) h = absurd cc
zone_is (Offset offset) inside text (inr (other, signed, is)) h =
    let same : offset ≡ other = cc in num_offset_is inside text offset (rw same signed) h

module _ (front read text : Text) (note : ZoneNote) (opens : front ≡ Plain 91 ∷ read) where
  -- If a bracket is exact, the test is true.
  pub exact_holds : IsExactBracket front note → IsTrue (is_exact note.zone (behind_flag note.critical (read ++ text)))
  exact_holds h = rw (behind note.critical h.start h.inside read text h.opens (sym opens ∙ h.is)) (zone_holds note.zone h.inside text h.zone)

  -- If the test is true for a bracket, it is exact.
  pub exact_is : IsZoneBracket front note → IsTrue (is_exact note.zone (behind_flag note.critical (read ++ text))) → IsExactBracket front note
  exact_is h test =
      let there = behind note.critical h.start h.inside read text h.opens (sym opens ∙ h.is) in
      record { start = h.start; inside = h.inside; is = h.is; opens = h.opens; zone = zone_is note.zone h.inside text h.zone (rw there at test) }
