-- Proves how the fields of a record of RFC 4180 are found.
use Rattle.std.proofs.Common.{◌≡◌, inl, inr, ℕ, zero, suc, ◌+◌, ◌-◌, ◌<◌, ◌≤◌, ◌==◌, Bool, true, false, true≢false, List, [], ◌∷◌, ◌++◌, length, take, drop, get_or, Some, None, position, refl, sym, ap, subst, ◌∙◌, arith, append_assoc, length-append, length-drop, length-take-le, get_or-take, take_at, drop_at, eqb-true, min, ⊎_elim, take_all}
use Rattle.std.proofs.lemmas.Bool.{cases_lt}
use Rattle.std.proofs.lemmas.List.{append-nil, drop_all, drop_more, drop-drop, take-append-drop, Quantifiers.position-Some}
use Rattle.ixdtf_buffers.specs.{Adding.Adds, Lines.is_byte}
use Rattle.ixdtf_buffers.proofs.LinesLemmas.{position-None}
use Rattle.ixdtf_checks.specs.declared.csv.{Broken.Broken, Quoting.TheVariants.{NotClosed, TextAfter, Stray}, Ending.TheVariants.{Last, At, Bad}}
use Rattle.ixdtf_checks.specs.Csv.{Cell, Cell.{escaped, unescaped}, AreCells, HasFew, IsBad, IsBroken, IsCell, IsField, IsRecord, IsWithout, begins_quoted, doubled, fronts, is_escaped, quote, spelled, undoubled}
use Rattle.ixdtf_checks.specs.{Parts.{text_in}, Walks.{HasEnding, IsBehind, IsClosed, IsFirst}}

-- ---- the first byte of a kind

-- This is the first byte that is the wanted one, and the bytes are what is before it, the byte, and what is after it.
record First (wanted place : ℕ) (bytes : List ℕ) : Type 0 where
  inside : place < length bytes
  long : length (take place bytes) ≡ place
  free : IsWithout wanted (take place bytes)
  whole : bytes ≡ take place bytes ++ wanted ∷ drop (place + 1) bytes

first : (wanted place : ℕ) (bytes : List ℕ) → Some place ≡ position (is_byte wanted) bytes → First wanted place bytes
first wanted place bytes is =
    let (inside, there, none) = position-Some (is_byte wanted) bytes place 0 (sym is) in
    let long : length (take place bytes) ≡ place = length-take-le place bytes (omega (arith, inside)) in
    record {
      inside = inside;
      long = long;
      free = λ k below.
          let less : k < place = omega (arith, below, long) in
          ap (λ b. is_byte wanted b) (get_or-take place bytes k 0 less) ∙ none k less;
      whole = sym (take-append-drop place bytes) ∙ ap (λ t. take place bytes ++ t)
          (drop_more bytes place 0 inside ∙ ap (λ b. b ∷ drop (place + 1) bytes) (eqb-true (get_or bytes place 0) wanted there));
    }

free_take : (wanted n : ℕ) (bytes : List ℕ) → n ≤ length bytes → IsWithout wanted bytes → IsWithout wanted (take n bytes)
free_take wanted n bytes within free = λ k below.
    let long : length (take n bytes) ≡ n = length-take-le n bytes within in
    let less : k < n = omega (arith, below, long) in
    ap (λ b. is_byte wanted b) (get_or-take n bytes k 0 less) ∙ free k (omega (arith, less, within))

pub begins : (bytes : List ℕ) → begins_quoted bytes ≡ true → bytes ≡ quote ∷ drop 1 bytes
begins [] is = absurd (true≢false (sym is))
begins (byte ∷ bytes) is = ap (λ b. b ∷ bytes) (eqb-true byte 34 is)

begins_take : (n : ℕ) (bytes : List ℕ) → begins_quoted bytes ≡ false → begins_quoted (take n bytes) ≡ false
begins_take zero bytes is = refl
begins_take (suc n) [] is = refl
begins_take (suc n) (byte ∷ bytes) is = is

not_first : (bytes : List ℕ) (place : ℕ) → begins_quoted bytes ≡ false → Some place ≡ position (is_byte quote) bytes → 0 < place
not_first bytes (suc place) other is = omega arith
not_first [] zero other is = let (inside, there, none) = position-Some (is_byte quote) [] zero 0 (sym is) in absurd (omega (arith, inside))
not_first (byte ∷ bytes) zero other is =
    let (inside, there, none) = position-Some (is_byte quote) (byte ∷ bytes) zero 0 (sym is) in absurd (true≢false (sym there ∙ other))

-- ---- doubled quotes

doubled_none : doubled [] ≡ []
unfolding doubled
doubled_none = refl

doubled_other : (x : ℕ) (xs : List ℕ) → (x == 34) ≡ false → doubled (x ∷ xs) ≡ x ∷ doubled xs
unfolding doubled
doubled_other x xs other = rw other refl

doubled_quote : (x : ℕ) (xs : List ℕ) → (x == 34) ≡ true → doubled (x ∷ xs) ≡ 34 ∷ 34 ∷ doubled xs
unfolding doubled
doubled_quote x xs is = rw is refl

doubled-append : (xs ys : List ℕ) → doubled (xs ++ ys) ≡ doubled xs ++ doubled ys
doubled-append [] ys = ap (λ t. t ++ doubled ys) (sym doubled_none)
doubled-append (x ∷ xs) ys = go (x == 34) refl (doubled-append xs ys)
  where
    go : (test : Bool) → (x == 34) ≡ test → doubled (xs ++ ys) ≡ doubled xs ++ doubled ys → doubled (x ∷ (xs ++ ys)) ≡ doubled (x ∷ xs) ++ doubled ys
    go true is more = doubled_quote x (xs ++ ys) is ∙ ap (λ t. 34 ∷ 34 ∷ t) more ∙ ap (λ t. t ++ doubled ys) (sym (doubled_quote x xs is))
    go false is more = doubled_other x (xs ++ ys) is ∙ ap (λ t. x ∷ t) more ∙ ap (λ t. t ++ doubled ys) (sym (doubled_other x xs is))

doubled_free : (xs : List ℕ) → IsWithout quote xs → doubled xs ≡ xs
doubled_free [] free = doubled_none
doubled_free (x ∷ xs) free =
    doubled_other x xs (free 0 (omega arith)) ∙ ap (λ t. x ∷ t) (doubled_free xs (λ k below. free (suc k) (omega (arith, below))))

doubled_one : doubled (34 ∷ []) ≡ 34 ∷ 34 ∷ []
unfolding doubled
doubled_one = refl

undoubled_none : undoubled [] ≡ []
unfolding undoubled
undoubled_none = refl

undoubled_other : (x : ℕ) (xs : List ℕ) → (x == 34) ≡ false → undoubled (x ∷ xs) ≡ x ∷ undoubled xs
unfolding undoubled
undoubled_other x [] other = refl
undoubled_other x (y ∷ ys) other = rw other refl

undoubled_quote : (xs : List ℕ) → undoubled (34 ∷ xs) ≡ 34 ∷ undoubled (drop 1 xs)
unfolding undoubled
undoubled_quote [] = refl
undoubled_quote (y ∷ ys) = refl

undoubled-doubled : (xs : List ℕ) → undoubled (doubled xs) ≡ xs
undoubled-doubled [] = ap undoubled doubled_none ∙ undoubled_none
undoubled-doubled (x ∷ xs) = go (x == 34) refl (undoubled-doubled xs)
  where
    go : (test : Bool) → (x == 34) ≡ test → undoubled (doubled xs) ≡ xs → undoubled (doubled (x ∷ xs)) ≡ x ∷ xs
    go true is more =
        ap undoubled (doubled_quote x xs is) ∙ undoubled_quote (34 ∷ doubled xs) ∙ ap (λ t. 34 ∷ t) more ∙ ap (λ b. b ∷ xs) (sym (eqb-true x 34 is))
    go false is more = ap undoubled (doubled_other x xs is) ∙ undoubled_other x (doubled xs) is ∙ ap (λ t. x ∷ t) more

undoubled_run : (xs ys : List ℕ) → IsWithout quote xs → undoubled (xs ++ ys) ≡ xs ++ undoubled ys
undoubled_run [] ys free = refl
undoubled_run (x ∷ xs) ys free =
    undoubled_other x (xs ++ ys) (free 0 (omega arith)) ∙ ap (λ t. x ∷ t) (undoubled_run xs ys (λ k below. free (suc k) (omega (arith, below))))

pub undoubled_free : (xs : List ℕ) → None ≡ position (is_byte quote) xs → undoubled xs ≡ xs
undoubled_free xs none =
    ap undoubled (sym (append-nil xs)) ∙ undoubled_run xs [] (position-None (is_byte quote) xs none) ∙ ap (λ t. xs ++ t) undoubled_none ∙ append-nil xs

-- The first quote is at this index, and one more quote may follow it.
pub undoubled_first : (place : ℕ) (bytes : List ℕ) → Some place ≡ position (is_byte quote) bytes
    → undoubled bytes ≡ take place bytes ++ 34 ∷ undoubled (drop (place + 2) bytes)
undoubled_first place bytes is =
    let at = first quote place bytes is in
    let next : drop 1 (drop (place + 1) bytes) ≡ drop (place + 2) bytes = drop-drop 1 (place + 1) bytes ∙ ap (λ n. drop n bytes) (omega arith) in
    ap undoubled at.whole ∙ undoubled_run (take place bytes) (34 ∷ drop (place + 1) bytes) at.free
    ∙ ap (λ t. take place bytes ++ t) (undoubled_quote (drop (place + 1) bytes) ∙ ap (λ t. 34 ∷ undoubled t) next)

-- ---- the quote that closes a field

-- The bytes up to this index are doubled quotes and other bytes.
pub record Opened (bytes : List ℕ) (start : ℕ) : Type 0 where
  pub text : List ℕ
  pub long : start ≡ length (doubled text)
  pub whole : bytes ≡ doubled text ++ drop start bytes

pub opened_none : (bytes : List ℕ) → Opened bytes 0
opened_none bytes = record { text = []; long = ap length (sym doubled_none); whole = ap (λ t. t ++ bytes) (sym doubled_none) }

module _ (bytes : List ℕ) (start : ℕ) (opened : Opened bytes start) where
  -- the text with a piece that has no quote
  longer : (piece : List ℕ) → IsWithout quote piece → doubled (opened.text ++ piece) ≡ doubled opened.text ++ piece
  longer piece free = doubled-append opened.text piece ∙ ap (λ t. doubled opened.text ++ t) (doubled_free piece free)

  pub opened_end : None ≡ position (is_byte quote) (drop start bytes) → IsClosed bytes None
  opened_end none = (opened.text ++ drop start bytes, opened.whole ∙ sym (longer (drop start bytes) (position-None (is_byte quote) (drop start bytes) none)))

  module _ (place : ℕ) (is : Some place ≡ position (is_byte quote) (drop start bytes)) where
    abbrev piece : List ℕ
    piece = take place (drop start bytes)

    behind : drop (place + 1) (drop start bytes) ≡ drop (start + place + 1) bytes
    behind = drop-drop (place + 1) start bytes ∙ ap (λ n. drop n bytes) (omega arith)

    here : bytes ≡ doubled opened.text ++ (piece ++ 34 ∷ drop (start + place + 1) bytes)
    here = opened.whole ∙ ap (λ t. doubled opened.text ++ t) ((first quote place (drop start bytes) is).whole ∙ ap (λ t. piece ++ 34 ∷ t) behind)

    length_here : length (doubled opened.text ++ piece) ≡ start + place
    length_here = omega (arith, length-append (doubled opened.text) piece, opened.long, (first quote place (drop start bytes) is).long)

    pub opened_some : begins_quoted (drop (start + place + 1) bytes) ≡ false → IsClosed bytes (Some (start + place))
    opened_some other =
        let same = longer piece (first quote place (drop start bytes) is).free in (
          opened.text ++ piece,
          sym (ap length same ∙ length_here),
          here ∙ sym (append_assoc (doubled opened.text) piece (34 ∷ drop (start + place + 1) bytes)) ∙ ap (λ t. t ++ 34 ∷ drop (start + place + 1) bytes) (sym same),
          other,
        )

    pub opened_more : begins_quoted (drop (start + place + 1) bytes) ≡ true → Opened bytes (start + place + 2)
    opened_more more =
        let after : drop 1 (drop (start + place + 1) bytes) ≡ drop (start + place + 2) bytes =
        drop-drop 1 (start + place + 1) bytes ∙ ap (λ n. drop n bytes) (omega arith) in
        let same : doubled ((opened.text ++ piece) ++ 34 ∷ []) ≡ (doubled opened.text ++ piece) ++ 34 ∷ 34 ∷ [] =
        doubled-append (opened.text ++ piece) (34 ∷ []) ∙ ap (λ t. t ++ doubled (34 ∷ [])) (longer piece (first quote place (drop start bytes) is).free)
        ∙ ap (λ t. (doubled opened.text ++ piece) ++ t) doubled_one in
        record {
          text = (opened.text ++ piece) ++ 34 ∷ [];
          long = sym (ap length same ∙ length-append (doubled opened.text ++ piece) (34 ∷ 34 ∷ []) ∙ ap (λ n. n + 2) length_here);
          whole = here ∙ sym (append_assoc (doubled opened.text) piece (34 ∷ drop (start + place + 1) bytes))
              ∙ ap (λ t. (doubled opened.text ++ piece) ++ 34 ∷ t) (begins (drop (start + place + 1) bytes) more ∙ ap (λ t. 34 ∷ t) after)
              ∙ sym (append_assoc (doubled opened.text ++ piece) (34 ∷ 34 ∷ []) (drop (start + place + 2) bytes))
              ∙ ap (λ t. t ++ drop (start + place + 2) bytes) (sym same);
        }

-- ---- the end of a field

-- A quote is in a field that does not begin with one, whatever follows these bytes.
stray_in : (separator at : ℕ) (front rest : List ℕ) → begins_quoted front ≡ false → IsWithout separator front → Some at ≡ position (is_byte quote) front
    → IsBroken Stray separator (front ++ rest) at
stray_in separator at front rest other free is =
    let f = first quote at front is in (
      take at front,
      drop (at + 1) front ++ rest,
      ap (λ t. t ++ rest) f.whole ∙ append_assoc (take at front) (34 ∷ drop (at + 1) front) rest,
      omega (arith, not_first front at other is, f.long),
      free_take separator at front (omega (arith, f.inside)) free,
      f.free,
      sym f.long,
    )

pub stray_last : (separator at : ℕ) (bytes : List ℕ) → begins_quoted bytes ≡ false → None ≡ position (is_byte separator) bytes
    → Some at ≡ position (is_byte quote) bytes → IsBroken Stray separator bytes at
stray_last separator at bytes other none is =
    subst (λ t. IsBroken Stray separator t at) (append-nil bytes) (stray_in separator at bytes [] other (position-None (is_byte separator) bytes none) is)

pub stray_before : (separator at place : ℕ) (bytes : List ℕ) → begins_quoted bytes ≡ false → Some place ≡ position (is_byte separator) bytes
    → Some at ≡ position (is_byte quote) (take place bytes) → IsBroken Stray separator bytes at
stray_before separator at place bytes other found is =
    let f = first separator place bytes found in
    subst (λ t. IsBroken Stray separator t at) (sym f.whole)
    (stray_in separator at (take place bytes) (separator ∷ drop (place + 1) bytes) (begins_take place bytes other) f.free is)

pub plain_last : (separator : ℕ) (bytes : List ℕ) → None ≡ position (is_byte separator) bytes → None ≡ position (is_byte quote) bytes
    → HasEnding separator bytes Last
plain_last separator bytes none free = (unescaped bytes, (position-None (is_byte separator) bytes none, position-None (is_byte quote) bytes free), refl)

pub plain_at : (separator place : ℕ) (bytes : List ℕ) → Some place ≡ position (is_byte separator) bytes
    → None ≡ position (is_byte quote) (take place bytes) → HasEnding separator bytes (At place)
plain_at separator place bytes found free =
    let f = first separator place bytes found in
    (unescaped (take place bytes), (f.free, position-None (is_byte quote) (take place bytes) free), sym f.long, f.inside, f.whole)

pub not_closed : (separator : ℕ) (bytes : List ℕ) → begins_quoted bytes ≡ true → IsClosed (drop 1 bytes) None → IsBroken NotClosed separator bytes 0
not_closed separator bytes is (text, whole) = (text, begins bytes is ∙ ap (λ t. 34 ∷ t) whole, refl)

-- The field is in quotes, and its closing quote is the byte before the byte at `place + 2`.
module _ (bytes : List ℕ) (place : ℕ) (is : begins_quoted bytes ≡ true) (closed : IsClosed (drop 1 bytes) (Some place)) where
  abbrev in_quotes : Cell
  in_quotes = escaped closed.0

  after : drop (place + 1) (drop 1 bytes) ≡ drop (place + 2) bytes
  after = drop-drop (place + 1) 1 bytes ∙ ap (λ n. drop n bytes) (omega arith)

  quoted_whole : bytes ≡ spelled in_quotes ++ drop (place + 2) bytes
  quoted_whole =
      let (text, long, whole, other) = closed in
      begins bytes is ∙ ap (λ t. 34 ∷ t) (whole ∙ ap (λ t. doubled text ++ 34 ∷ t) after ∙ sym (append_assoc (doubled text) (34 ∷ []) (drop (place + 2) bytes)))

  quoted_long : place + 2 ≡ length (spelled in_quotes)
  quoted_long =
      let (text, long, whole, other) = closed in
      omega (arith, long, length-append (doubled text) (34 ∷ []))

  pub quoted_last : (separator : ℕ) → place + 2 ≡ length bytes → HasEnding separator bytes Last
  quoted_last separator end =
      (in_quotes, tt, quoted_whole ∙ ap (λ t. spelled in_quotes ++ t) (drop_all (place + 2) bytes (omega (arith, end))) ∙ append-nil (spelled in_quotes))

  pub quoted_at : (separator : ℕ) → place + 2 < length bytes → get_or bytes (place + 2) 0 ≡ separator → HasEnding separator bytes (At (place + 2))
  quoted_at separator more here = (
    in_quotes,
    tt,
    quoted_long,
    more,
    quoted_whole ∙ ap (λ t. spelled in_quotes ++ t) (drop_more bytes (place + 2) 0 more ∙ ap (λ b. b ∷ drop (place + 2 + 1) bytes) here),
  )

  pub quoted_after : (separator : ℕ) → place + 2 < length bytes → is_byte separator (get_or bytes (place + 2) 0) ≡ false
      → IsBroken TextAfter separator bytes (place + 2)
  quoted_after separator more other =
      let (text, long, whole, not_quote) = closed in
      let next = drop_more bytes (place + 2) 0 more in (
        text,
        get_or bytes (place + 2) 0,
        drop (place + 2 + 1) bytes,
        quoted_whole ∙ ap (λ t. spelled in_quotes ++ t) next,
        ap begins_quoted (sym next ∙ sym after) ∙ not_quote,
        other,
        quoted_long,
      )

-- ---- field after field

fronts-append : (separator : ℕ) (xs ys : List Cell) → fronts separator (xs ++ ys) ≡ fronts separator xs ++ fronts separator ys
fronts-append separator [] ys = refl
fronts-append separator (x ∷ xs) ys =
    ap (λ t. spelled x ++ separator ∷ t) (fronts-append separator xs ys) ∙ sym (append_assoc (spelled x) (separator ∷ fronts separator xs) (fronts separator ys))

are-append : (separator : ℕ) (xs ys : List Cell) → AreCells separator xs → AreCells separator ys → AreCells separator (xs ++ ys)
are-append separator [] ys are also = also
are-append separator (x ∷ xs) ys (is, are) also = (is, are-append separator xs ys are also)

fronts_most : (separator : ℕ) (xs : List Cell) → length xs ≤ length (fronts separator xs)
fronts_most separator [] = omega arith
fronts_most separator (x ∷ xs) = omega (arith, fronts_most separator xs, length-append (spelled x) (separator ∷ fronts separator xs))

pub behind_none : (separator : ℕ) (line : List ℕ) → IsBehind separator 0 line 0
behind_none separator line = record { earlier = []; are = tt; many = refl; begins = refl; within = omega arith; whole = refl }

pub behind_none-earlier : (separator : ℕ) (line : List ℕ) → (behind_none separator line).earlier ≡ []
unfolding behind_none
behind_none-earlier separator line = refl

module _ (separator count : ℕ) (line : List ℕ) (start : ℕ) (behind : IsBehind separator count line start) where
  pub behind_more : (place : ℕ) → HasEnding separator (drop start line) (At place) → IsBehind separator (count + 1) line (start + (place + 1))
  behind_more place (cell, is, long, inside, whole) =
      let same : fronts separator (behind.earlier ++ cell ∷ []) ≡ fronts separator behind.earlier ++ (spelled cell ++ separator ∷ []) =
      fronts-append separator behind.earlier (cell ∷ []) in
      record {
        earlier = behind.earlier ++ cell ∷ [];
        are = are-append separator behind.earlier (cell ∷ []) behind.are (is, tt);
        many = length-append behind.earlier (cell ∷ []) ∙ ap (λ n. n + 1) behind.many;
        begins = sym (ap length same ∙ omega (arith, length-append (fronts separator behind.earlier) (spelled cell ++ separator ∷ []), length-append (spelled cell) (separator ∷ []), long, behind.begins));
        within = omega (arith, inside, length-drop start line, behind.within);
        whole = behind.whole ∙ ap (λ t. fronts separator behind.earlier ++ t)
            (whole ∙ ap (λ t. spelled cell ++ separator ∷ t) (drop-drop (place + 1) start line) ∙ sym (append_assoc (spelled cell) (separator ∷ []) (drop (start + (place + 1)) line)))
            ∙ sym (append_assoc (fronts separator behind.earlier) (spelled cell ++ separator ∷ []) (drop (start + (place + 1)) line))
            ∙ ap (λ t. t ++ drop (start + (place + 1)) line) (sym same);
      }

  pub behind_more-earlier : (place : ℕ) (ending : HasEnding separator (drop start line) (At place)) → (behind_more place ending).earlier ≡ behind.earlier ++ ending.0 ∷ []
  unfolding behind_more
  behind_more-earlier place (cell, is, long, inside, whole) = refl

  pub behind_last : (most : ℕ) → count < most → HasEnding separator (drop start line) Last → HasFew separator most line
  behind_last most few (cell, is, whole) = record {
    is = record { earlier = behind.earlier; last = cell; are = behind.are; is = is; whole = behind.whole ∙ ap (λ t. fronts separator behind.earlier ++ t) whole };
    few = omega (arith, few, behind.many);
  }

  -- the rest of the line is no record
  pub behind_bad : (broken moved : Broken) → IsBad separator (drop start line) broken → moved.at ≡ start + broken.at → moved.quoting ≡ broken.quoting
      → IsBad separator line moved
  behind_bad broken moved bad place same =
      let joined : fronts separator (behind.earlier ++ bad.earlier) ≡ fronts separator behind.earlier ++ fronts separator bad.earlier =
      fronts-append separator behind.earlier bad.earlier in
      record {
        earlier = behind.earlier ++ bad.earlier;
        rest = bad.rest;
        at = bad.at;
        are = are-append separator behind.earlier bad.earlier behind.are bad.are;
        whole = behind.whole ∙ ap (λ t. fronts separator behind.earlier ++ t) bad.whole
            ∙ sym (append_assoc (fronts separator behind.earlier) (fronts separator bad.earlier) bad.rest) ∙ ap (λ t. t ++ bad.rest) (sym joined);
        breaks = subst (λ q. IsBroken q separator bad.rest bad.at) (sym same) bad.breaks;
        place = place ∙ ap (λ n. start + n) bad.place
            ∙ omega (arith, behind.begins, ap length joined, length-append (fronts separator behind.earlier) (fronts separator bad.earlier));
      }

  -- the field that begins here, with the record that begins with it
  pub behind_field : (first_count : ℕ) → IsFirst separator (drop start line) first_count
      → (cell : Cell) × IsCell separator cell × IsField separator count line start cell × (take first_count (drop start line) ≡ spelled cell)
  behind_field first_count (cell, is, long, whole, ends) = (
    cell,
    is,
    record {
      earlier = behind.earlier;
      rest = drop first_count (drop start line);
      are = behind.are;
      is = is;
      count = behind.many;
      begins = behind.begins;
      whole = behind.whole ∙ ap (λ t. fronts separator behind.earlier ++ t) whole;
      ends = ends;
    },
    ap (λ t. take first_count t) whole ∙ take_at (spelled cell) (drop first_count (drop start line)) first_count (sym long),
  )

-- A line does not begin with more fields than it has bytes.
pub behind_most : (separator : ℕ) (line : List ℕ) (start : ℕ) → IsBehind separator (length line + 1) line start → ⊥
behind_most separator line start behind = omega (arith, fronts_most separator behind.earlier, behind.many, behind.begins, behind.within)

pub bad_here : (separator : ℕ) (bytes : List ℕ) (broken : Broken) → HasEnding separator bytes (Bad broken) → IsBad separator bytes broken
bad_here separator bytes broken breaks = record { earlier = []; rest = bytes; at = broken.at; are = tt; whole = refl; breaks = breaks; place = omega arith }

pub first_last : (separator : ℕ) (bytes : List ℕ) → HasEnding separator bytes Last → IsFirst separator bytes (length bytes)
first_last separator bytes (cell, is, whole) =
    let none : drop (length bytes) bytes ≡ [] = drop_all (length bytes) bytes (omega arith) in
    (cell, is, ap length whole, whole ∙ sym (append-nil (spelled cell)) ∙ ap (λ t. spelled cell ++ t) (sym none), inl none)

pub first_more : (separator place : ℕ) (bytes : List ℕ) → HasEnding separator bytes (At place) → IsRecord separator (drop (place + 1) bytes)
    → IsFirst separator bytes place
first_more separator place bytes (cell, is, long, inside, whole) others =
    let next : drop place bytes ≡ separator ∷ drop (place + 1) bytes =
    ap (λ t. drop place t) whole ∙ drop_at (spelled cell) (separator ∷ drop (place + 1) bytes) place (sym long) in
    (cell, is, long, whole ∙ ap (λ t. spelled cell ++ t) (sym next), inr (drop (place + 1) bytes, next, others))

-- ---- the text of a field

escaped_cell : (text : List ℕ) → is_escaped (spelled (escaped text)) ≡ true
escaped_cell text = go (doubled text)
  where
    go : (inside : List ℕ) → is_escaped (34 ∷ (inside ++ 34 ∷ [])) ≡ true
    go [] = refl
    go (x ∷ xs) = refl

unescaped_cell : (text : List ℕ) → IsWithout quote text → is_escaped text ≡ false
unescaped_cell [] free = refl
unescaped_cell (x ∷ []) free = refl
unescaped_cell (x ∷ (y ∷ ys)) free = free 0 (omega arith)

-- the bytes between the quotes
between : (text : List ℕ) → take (length (spelled (escaped text)) - 1 - 1) (drop 1 (spelled (escaped text))) ≡ doubled text
between text =
    let long : length (spelled (escaped text)) - 1 - 1 ≡ length (doubled text) = omega (arith, length-append (doubled text) (34 ∷ [])) in
    ap (λ n. take n (doubled text ++ 34 ∷ [])) long ∙ take_at (doubled text) (34 ∷ []) (length (doubled text)) refl

pub plain_part : (separator start : ℕ) (cell : Cell) (bytes : List ℕ) → IsCell separator cell → bytes ≡ spelled cell → is_escaped bytes ≡ false
    → record { start = start; bytes = bytes; is_quoted = false } ≡ text_in start cell
plain_part separator start (escaped text) bytes is whole other = absurd (true≢false (sym (escaped_cell text) ∙ sym (ap is_escaped whole) ∙ other))
plain_part separator start (unescaped text) bytes is whole other = ap (λ t. record { start = start; bytes = t; is_quoted = false }) whole

pub quoted_part : (separator start : ℕ) (cell : Cell) (bytes text : List ℕ) → IsCell separator cell → bytes ≡ spelled cell → is_escaped bytes ≡ true
    → text ≡ undoubled (take (length bytes - 1 - 1) (drop 1 bytes)) → record { start = start + 1; bytes = text; is_quoted = true } ≡ text_in start cell
quoted_part separator start (escaped inside) bytes text is whole quoted same =
    ap (λ t. record { start = start + 1; bytes = t; is_quoted = true })
    (same ∙ ap (λ t. undoubled (take (length t - 1 - 1) (drop 1 t))) whole ∙ ap undoubled (between inside) ∙ undoubled-doubled inside)
quoted_part separator start (unescaped inside) bytes text (free, no_quote) whole quoted same =
    absurd (true≢false (sym quoted ∙ ap is_escaped whole ∙ unescaped_cell inside no_quote))

-- ---- copies without doubled quotes

drop_min : (m n : ℕ) (xs : List ℕ) → m ≡ min (length xs) n → drop m xs ≡ drop n xs
drop_min m n xs is = ⊎_elim
    (λ less.
    let all : m ≡ length xs = omega (arith, is, less) in
    drop_all m xs (omega (arith, all)) ∙ sym (drop_all n xs (omega (arith, less))))
    (λ more.
    let same : m ≡ n = omega (arith, is, more) in
    ap (λ k. drop k xs) same)
    (cases_lt (length xs) n)

-- The bytes before a quote and the quote were added. Another quote may follow.
pub goes_on : (old new bs rest left part : List ℕ) (end last place m : ℕ) → left ≡ drop m rest → m ≡ min (length rest) (place + 2)
    → Some place ≡ position (is_byte quote) rest → end + length rest ≤ length bs → last ≡ end + length (take place rest) + 1
    → part ++ undoubled rest ≡ undoubled bs → Adds old new 0 last ((part ++ take place rest) ++ 34 ∷ [])
    → (last + length left ≤ length bs) × ((p : List ℕ) × (p ++ undoubled left ≡ undoubled bs) × Adds old new 0 last p)
goes_on old new bs rest left part end last place m is least found few more whole added =
    let f = first quote place rest found in
    let same : left ≡ drop (place + 2) rest = is ∙ drop_min m (place + 2) rest least in (
      omega (arith, few, more, f.long, f.inside, ap length same, length-drop (place + 2) rest),
      (
        (part ++ take place rest) ++ 34 ∷ [],
        ap (λ t. ((part ++ take place rest) ++ 34 ∷ []) ++ undoubled t) same ∙ append_assoc (part ++ take place rest) (34 ∷ []) (undoubled (drop (place + 2) rest))
            ∙ append_assoc part (take place rest) (34 ∷ undoubled (drop (place + 2) rest)) ∙ ap (λ t. part ++ t) (sym (undoubled_first place rest found)) ∙ whole,
        added,
      ),
    )

-- ---- slices of the code

pub rest_of : (n : ℕ) (bytes : List ℕ) → take (length bytes - n) (drop n bytes) ≡ drop n bytes
rest_of n bytes = take_all (length bytes - n) (drop n bytes) (omega (arith, length-drop n bytes))

pub nonempty : (n : ℕ) (bytes : List ℕ) → begins_quoted (drop n bytes) ≡ true → n < length bytes
nonempty n bytes is = omega (arith, ap length (begins (drop n bytes) is), length-drop n bytes)

-- A field and a separator come before bytes that are no record.
pub bad_after : (separator place : ℕ) (bytes : List ℕ) (broken moved : Broken) → HasEnding separator bytes (At place)
    → IsBad separator (drop (place + 1) bytes) broken → moved.at ≡ place + 1 + broken.at → moved.quoting ≡ broken.quoting → IsBad separator bytes moved
bad_after separator place bytes broken moved ending bad at same =
    let sum : 0 + (place + 1) ≡ place + 1 = omega arith in
    behind_bad separator 1 bytes (place + 1) (subst (λ n. IsBehind separator 1 bytes n) sum (behind_more separator 0 bytes 0 (behind_none separator bytes) place ending))
    broken moved bad at same
