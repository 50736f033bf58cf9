-- Proves where the fields of a line begin.
use Rattle.std.proofs.Common.{◌≡◌, ℕ, zero, suc, ◌+◌, ◌-◌, ◌<◌, ◌≤◌, Bool, true, false, not, cond, ltb, List, [], ◌∷◌, length, take, drop, Option, Some, None, option_map, position, refl, sym, ap, ◌∙◌, arith, ⊎_elim}
use Rattle.std.proofs.lemmas.{Bool.{cases_lt, lt-ltb, le-ltb}, List.{Sums.sum_by-cons, take_all, length-drop}}
use Rattle.std.specs.List.{count_by, position_or_len}
use Rattle.ixdtf_buffers.specs.Lines.{is_byte}
use Rattle.ixdtf_checks.specs.Parts.{field_start}

-- If there is no separator, no further field begins.
pub field_start-none : (separator left : ℕ) (line : List ℕ) → 0 < left → None ≡ position (is_byte separator) line
    → field_start separator left line ≡ None
field_start-none separator zero line some none = absurd (omega (arith, some))
field_start-none separator (suc left) line some none = rw (← none) refl

-- The next field begins after the separator.
pub field_start-some : (separator left place : ℕ) (line : List ℕ) → 0 < left → Some place ≡ position (is_byte separator) line
    → field_start separator left line ≡ option_map (λ start. place + 1 + start) (field_start separator (left - 1) (drop (place + 1) line))
field_start-some separator zero place line some is = absurd (omega (arith, some))
field_start-some separator (suc left) place line some is =
    let e : suc left - 1 ≡ left = omega arith in
    rw (← is, e) refl

pub option_map-more : (a b c : ℕ) (o : Option ℕ) → c ≡ a + b → option_map (λ more. a + more) (option_map (λ more. b + more) o) ≡ option_map (λ more. c + more) o
option_map-more a b c None is = refl
option_map-more a b c (Some n) is = ap Some (omega (arith, is))

-- This is the index of the first such byte, if one more byte comes before the others.
abbrev first_of : Bool → Option ℕ → Option ℕ
first_of here behind = cond here (Some 0) (option_map (λ place. 1 + place) behind)

position-cons : (test : ℕ → Bool) (x : ℕ) (xs : List ℕ) → position test (x ∷ xs) ≡ first_of (test x) (position test xs)
position-cons test x xs = go (test x)
  where
    go : (here : Bool)
        → cond (ltb (cond (not here) (1 + position_or_len test xs) 0) (length (x ∷ xs))) (Some (cond (not here) (1 + position_or_len test xs) 0)) None
        ≡ first_of here (position test xs)
    go true = rw (lt-ltb 0 (length (x ∷ xs)) (omega arith)) refl
    go false = ⊎_elim
        (λ found. rw (lt-ltb (position_or_len test xs) (length xs) found, lt-ltb (1 + position_or_len test xs) (length (x ∷ xs)) (omega (arith, found))) refl)
        (λ none. rw (le-ltb (position_or_len test xs) (length xs) none, le-ltb (1 + position_or_len test xs) (length (x ∷ xs)) (omega (arith, none))) refl)
        (cases_lt (position_or_len test xs) (length xs))

-- If the first byte is a separator, the field begins after it like one of the rest of the line.
behind_separator : (separator left x : ℕ) (xs : List ℕ) → is_byte separator x ≡ true
    → field_start separator (suc left) (x ∷ xs) ≡ option_map (λ more. 1 + more) (field_start separator left xs)
behind_separator separator left x xs is =
    let here : Some 0 ≡ position (is_byte separator) (x ∷ xs) =
    sym (position-cons (is_byte separator) x xs ∙ ap (λ b. first_of b (position (is_byte separator) xs)) is) in
    rw (← here) refl

behind_other : (separator left x : ℕ) (xs : List ℕ) → is_byte separator x ≡ false
    → field_start separator (suc left) (x ∷ xs) ≡ option_map (λ more. 1 + more) (field_start separator (suc left) xs)
behind_other separator left x xs other = go (position (is_byte separator) xs) refl
  where
    go : (found : Option ℕ) → position (is_byte separator) xs ≡ found
        → field_start separator (suc left) (x ∷ xs) ≡ option_map (λ more. 1 + more) (field_start separator (suc left) xs)
    go None is =
        let here : position (is_byte separator) (x ∷ xs) ≡ None =
        position-cons (is_byte separator) x xs ∙ ap (λ b. first_of b (position (is_byte separator) xs)) other ∙ ap (first_of false) is in
        rw (is, here) refl
    go (Some place) is =
        let here : position (is_byte separator) (x ∷ xs) ≡ Some (1 + place) =
        position-cons (is_byte separator) x xs ∙ ap (λ b. first_of b (position (is_byte separator) xs)) other ∙ ap (first_of false) is in
        let next : 1 + place + 1 ≡ suc (place + 1) = omega arith in
        rw (is, here, next) (sym (option_map-more 1 (place + 1) (suc (place + 1)) _ (omega arith)))

map_none : (o : Option ℕ) → o ≡ option_map (λ more. 0 + more) o
map_none None = refl
map_none (Some n) = ap Some (omega arith)

-- If the first bytes of the line have some of the separators, the field begins after them like one of the rest of the line.
field_start-behind : (separator left place : ℕ) (line : List ℕ) → 0 < left → place ≤ length line
    → field_start separator (left + count_by (is_byte separator) (take place line)) line
    ≡ option_map (λ more. place + more) (field_start separator left (drop place line))
field_start-behind separator left zero line some within =
    let same : left + 0 ≡ left = omega arith in
    rw same (map_none (field_start separator left line))
field_start-behind separator left (suc place) [] some within = absurd (omega (arith, within))
field_start-behind separator left (suc place) (x ∷ xs) some within =
    go (is_byte separator x) refl (field_start-behind separator left place xs some (omega (arith, within)))
  where
    count : ℕ
    count = count_by (is_byte separator) (take place xs)

    more : count_by (is_byte separator) (x ∷ take place xs) ≡ cond (is_byte separator x) 1 0 + count
    more = sum_by-cons (λ b. cond (is_byte separator b) 1 0) x (take place xs)

    go : (test : Bool) → is_byte separator x ≡ test
        → field_start separator (left + count) xs ≡ option_map (λ more. place + more) (field_start separator left (drop place xs))
        → field_start separator (left + count_by (is_byte separator) (x ∷ take place xs)) (x ∷ xs)
        ≡ option_map (λ more. suc place + more) (field_start separator left (drop place xs))
    go true is next =
        let e : left + count_by (is_byte separator) (x ∷ take place xs) ≡ suc (left + count) = omega (arith, more, ap {B = ℕ} (λ b. cond b 1 0) is) in
        rw (e, behind_separator separator (left + count) x xs is, next) (option_map-more 1 place (suc place) _ (omega arith))
    go false is next =
        let e : left + count_by (is_byte separator) (x ∷ take place xs) ≡ suc (left + count - 1) = omega (arith, more, ap {B = ℕ} (λ b. cond b 1 0) is, some) in
        let f : suc (left + count - 1) ≡ left + count = omega (arith, some) in
        ap (λ n. field_start separator n (x ∷ xs)) e ∙ behind_other separator (left + count - 1) x xs is
        ∙ ap (option_map (λ more. 1 + more)) (ap (λ n. field_start separator n xs) f ∙ next)
        ∙ option_map-more 1 place (suc place) _ (omega arith)

pub start_behind : (separator before left place : ℕ) (line : List ℕ) (found : Option ℕ) → 0 < left → place ≤ length line
    → left + count_by (is_byte separator) (take place line) ≡ before → found ≡ field_start separator left (take (length line - place) (drop place line))
    → option_map (λ more. place + more) found ≡ field_start separator before line
start_behind separator before left place line found some within passed is =
    let all : take (length line - place) (drop place line) ≡ drop place line = take_all (length line - place) (drop place line) (omega (arith, length-drop place line)) in
    rw (is, all, ← passed) (sym (field_start-behind separator left place line some within))
