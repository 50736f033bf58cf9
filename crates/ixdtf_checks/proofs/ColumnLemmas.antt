-- Proves which field has a name.
use Rattle.std.proofs.Common.{◌≡◌, ◌≢◌, ◌⊎◌, inl, inr, ℕ, zero, suc, ◌+◌, ◌-◌, ◌<◌, ◌≤◌, Bool, true, false, List, [], ◌∷◌, ◌++◌, length, take, drop, get_or, Option, Some, None, option_map, position, refl, sym, ap, ◌∙◌, subst, arith, length-append}
use Rattle.std.proofs.Math.{ListN.get_or-append, Seq.get_or-append_seam}
use Rattle.std.proofs.lemmas.{Bool.cases_order, List.drop-drop, Option.{none-some, same_Some}}
use Rattle.ixdtf_buffers.specs.Lines.{is_byte}
use Rattle.ixdtf_checks.specs.declared.{csv.Ending.TheVariants.{Last, At}, named_column.{ColumnError.{ColumnError, TheVariants.{Missing, NoSeparator, Twice, NoRecord}}, Found.{Found, TheVariants.{Nothing, One, Several}}}}
use Rattle.ixdtf_checks.specs.{Columns.{AreFound, HasNoColumn, HasNoRecordColumn, IsMissing, IsNamed, IsNamedCell, IsNamedIn, IsNowhere, TellsOneField, cell_text, found_with}, Csv.{Cell, Cell.{escaped, unescaped}, IsRecord, fronts}, Parts.{field_start, front_field, text_in}, Walks.{HasEnding, IsBehind}}
use Rattle.ixdtf_checks.proofs.CsvLemmas.{behind_more, behind_more-earlier, behind_none, behind_none-earlier, rest_of}

-- A number below `count` + 1 is below `count` or is `count`.
below_next : (other count : ℕ) → other < suc count → (other < count) ⊎ (other ≡ count)
below_next other count below = elim (cases_order other count) [
  | inl e ↦ inr e
  | inr o ↦ elim o [ inl less ↦ inl less | inr more ↦ absurd (omega (arith, below, more)) ]
]

-- ---- which fields have the name

-- The same fields have the name.
pub found_same : (Was Has : ℕ → Type 0) → ((k : ℕ) → Was k → Has k) → ((k : ℕ) → Has k → Was k) → (found : Found) → AreFound Was found → AreFound Has found
found_same Was Has keeps back Nothing are = λ k has. are k (back k has)
found_same Was Has keeps back (One column) (named, only) = (keeps column named, λ other has. only other (back other has))
found_same Was Has keeps back Several (before, other, less, first, second) = (before, other, less, keeps before first, keeps other second)

-- `Was` is said of the first `count` fields, and `Has` of one more field.
module _ (Was Has : ℕ → Type 0) (count : ℕ) (keeps : (k : ℕ) → Was k → Has k) (back : (k : ℕ) → Has k → Was k ⊎ (k ≡ count)) (below : (k : ℕ) → Was k → k < count) where
  -- Without the name at one more field, each field that has it had it before.
  not_here : ¬ (Has count) → (k : ℕ) → Has k → Was k
  not_here otherwise k has = elim (back k has) [ inl was ↦ was | inr e ↦ absurd (otherwise (subst Has e has)) ]

  pub found_more : (found : Found) → AreFound Was found → (is_named : Bool) → (is_named ≡ true → Has count) → (is_named ≡ false → ¬ (Has count))
      → AreFound Has (found_with found count is_named)
  found_more found are false here otherwise = found_same Was Has keeps (not_here (otherwise refl)) found are
  found_more Nothing are true here otherwise = (here refl, λ other has. elim (back other has) [ inl was ↦ absurd (are other was) | inr e ↦ e ])
  found_more (One column) are true here otherwise = (column, count, below column are.0, keeps column are.0, here refl)
  found_more Several are true here otherwise = (are.0, are.1, are.2, keeps are.0 are.3, keeps are.1 are.4)

-- `Next` says where the next field begins, from the index of the next separator.
abbrev Next : ℕ → ℕ → Option ℕ → (ℕ → Option ℕ) → Type 0
Next separator before at then_start = (start : ℕ) (line : List ℕ) → field_start separator before line ≡ Some start
    → position (is_byte separator) (drop start line) ≡ at → field_start separator (suc before) line ≡ then_start start

next_step : (separator before : ℕ) (at : Option ℕ) (then_start : ℕ → Option ℕ) → ((q s : ℕ) → option_map (λ more. q + 1 + more) (then_start s) ≡ then_start (q + 1 + s))
    → Next separator before at then_start → Next separator (suc before) at then_start
next_step separator before at then_start moved next start line is found = go (position (is_byte separator) line) refl
  where
    go : (first : Option ℕ) → position (is_byte separator) line ≡ first → field_start separator (suc (suc before)) line ≡ then_start start
    go None none = absurd (none-some start (rw none at is))
    go (Some q) here = inner (field_start separator before (drop (q + 1) line)) refl
      where
        inner : (more : Option ℕ) → field_start separator before (drop (q + 1) line) ≡ more
            → field_start separator (suc (suc before)) line ≡ then_start start
        inner None none = absurd (none-some start (rw (here, none) at is))
        inner (Some s) behind =
            let begins : q + 1 + s ≡ start = same_Some (q + 1 + s) start (rw (here, behind) at is) in
            let same : drop s (drop (q + 1) line) ≡ drop start line = drop-drop s (q + 1) line ∙ ap (λ n. drop n line) begins in
            let there : position (is_byte separator) (drop s (drop (q + 1) line)) ≡ at = ap (position (is_byte separator)) same ∙ found in
            rw here (ap (option_map (λ more. q + 1 + more)) (next s (drop (q + 1) line) behind there) ∙ moved q s ∙ ap then_start begins)

-- The next field begins after the separator.
pub next_start : (separator before place : ℕ) → Next separator before (Some place) (λ start. Some (start + (place + 1)))
next_start separator zero place start line is found =
    let first : 0 ≡ start = same_Some 0 start is in
    let here : position (is_byte separator) line ≡ Some place = rw (← first) at found in
    let sum : place + 1 + 0 ≡ start + (place + 1) = omega (arith, first) in
    rw here (ap Some sum)
next_start separator (suc before) place start line is found =
    next_step separator before (Some place) (λ begin. Some (begin + (place + 1))) (λ q s. ap Some (omega arith)) (next_start separator before place) start line is found

-- No field begins after the last one.
one_behind : (separator before : ℕ) → Next separator before None (λ start. None)
one_behind separator zero start line is none =
    let first : 0 ≡ start = same_Some 0 start is in
    let here : position (is_byte separator) line ≡ None = rw (← first) at none in
    rw here refl
one_behind separator (suc before) start line is none =
    next_step separator before None (λ begin. None) (λ q s. refl) (one_behind separator before) start line is none

-- If there is no such field, there is no next field either.
none_behind : (separator before : ℕ) (line : List ℕ) → field_start separator before line ≡ None → field_start separator (suc before) line ≡ None
none_behind separator zero line none = absurd (none-some 0 (sym none))
none_behind separator (suc before) line none = go (position (is_byte separator) line) refl (λ q gone. none_behind separator before (drop (q + 1) line) gone)
  where
    go : (first : Option ℕ) → position (is_byte separator) line ≡ first
        → ((q : ℕ) → field_start separator before (drop (q + 1) line) ≡ None → field_start separator (suc before) (drop (q + 1) line) ≡ None)
        → field_start separator (suc (suc before)) line ≡ None
    go None gone behind = rw gone refl
    go (Some q) here behind = inner (field_start separator before (drop (q + 1) line)) refl
      where
        inner : (more : Option ℕ) → field_start separator before (drop (q + 1) line) ≡ more → field_start separator (suc (suc before)) line ≡ None
        inner None gone = rw (here, behind q gone) refl
        inner (Some s) is = absurd (none-some (q + 1 + s) (sym (rw (here, is) at none)))

pub no_start : (separator before more start : ℕ) (line : List ℕ) → field_start separator before line ≡ Some start
    → position (is_byte separator) (drop start line) ≡ None → field_start separator (suc (more + before)) line ≡ None
no_start separator before zero start line is none =
    let same : 0 + before ≡ before = omega arith in
    rw same (one_behind separator before start line is none)
no_start separator before (suc more) start line is none =
    let next : suc more + before ≡ suc (more + before) = omega arith in
    rw next (none_behind separator (suc (more + before)) line (no_start separator before more start line is none))

-- A field that has a name is at most the last one.
pub named_before : (separator before start : ℕ) (name line : List ℕ) (other : ℕ) → field_start separator before line ≡ Some start
    → position (is_byte separator) (drop start line) ≡ None → IsNamed separator name line other → other < suc before
named_before separator before start name line other is none named = elim (cases_order other (suc before)) [
  | inl e ↦ absurd (go (other - suc before) (omega (arith, e)))
  | inr o ↦ elim o [ inl less ↦ less | inr more ↦ absurd (go (other - suc before) (omega (arith, more))) ]
]
  where
    go : (more : ℕ) → suc (more + before) ≡ other → ⊥
    go more sum = none-some name (rw (← sum, no_start separator before more start line is none) at named)

-- The field that begins here has the name.
pub named_here : (separator before start : ℕ) (name line field : List ℕ) → field_start separator before line ≡ Some start
    → front_field separator (drop start line) ≡ field → field ≡ name → IsNamed separator name line before
named_here separator before start name line field is has same = rw is (ap Some (has ∙ same))

pub named_here_only : (separator before start : ℕ) (name line field : List ℕ) → field_start separator before line ≡ Some start
    → front_field separator (drop start line) ≡ field → IsNamed separator name line before → field ≡ name
named_here_only separator before start name line field is has named = sym has ∙ same_Some (front_field separator (drop start line)) name (rw is at named)

-- The first field has the bytes before the next separator.
pub front_before : (separator place : ℕ) (line : List ℕ) → position (is_byte separator) line ≡ Some place → front_field separator line ≡ take place line
front_before separator place line at = rw at refl

pub front_whole : (separator : ℕ) (line : List ℕ) → position (is_byte separator) line ≡ None → front_field separator line ≡ line
front_whole separator line none = rw none refl

-- ---- the field that the code looks at

-- The first separator of the slice is the first separator of the rest of the line.
pub place_in_rest : (separator start : ℕ) (line : List ℕ) {place : Option ℕ} → place ≡ position (is_byte separator) (take (length line - start) (drop start line))
    → position (is_byte separator) (drop start line) ≡ place
place_in_rest separator start line is = sym (rw (rest_of start line) at is)

-- Of the first `count` fields, the one after `before` others has the name.
abbrev pub IsNamedBelow : ℕ → List ℕ → List ℕ → ℕ → ℕ → Type 0
IsNamedBelow separator name line count before = (before < count) × IsNamed separator name line before

-- The field begins at `start`, after `before` other fields. `found` says which of these have the name. The code has the rest of the line as a
-- slice.
module _ (separator : ℕ) (name line : List ℕ) (before start : ℕ) (found : Found) (starts : field_start separator before line ≡ Some start)
    (are : AreFound (IsNamedBelow separator name line before) found) (field : List ℕ)
    (is : field ≡ front_field separator (take (length line - start) (drop start line))) where
  -- The rest of the line begins with the field.
  field_in_rest : front_field separator (drop start line) ≡ field
  field_in_rest = sym (rw (rest_of start line) at is)

  -- These fields have the name, up to this one.
  pub found_here : (is_named : Bool) → (is_named ≡ true → field ≡ name) → (is_named ≡ false → field ≢ name)
      → AreFound (IsNamedBelow separator name line (suc before)) (found_with found before is_named)
  found_here is_named same other =
      found_more (IsNamedBelow separator name line before) (IsNamedBelow separator name line (suc before)) before
      (λ k (below, named). (omega (arith, below), named))
      (λ k (below, named). elim (below_next k before below) [ inl less ↦ inl (less, named) | inr e ↦ inr e ])
      (λ k (below, named). below)
      found are is_named
      (λ told. (omega arith, named_here separator before start name line field starts field_in_rest (same told)))
      (λ told (below, named). other told (named_here_only separator before start name line field starts field_in_rest named))

  -- This is the last field, so it is known which fields of the line have the name.
  pub found_last : None ≡ position (is_byte separator) (take (length line - start) (drop start line)) → (is_named : Bool) → (is_named ≡ true → field ≡ name)
      → (is_named ≡ false → field ≢ name) → AreFound (IsNamed separator name line) (found_with found before is_named)
  found_last last is_named same other =
      found_same (IsNamedBelow separator name line (suc before)) (IsNamed separator name line)
      (λ k (below, named). named)
      (λ k named. (named_before separator before start name line k starts (place_in_rest separator start line last) named, named))
      (found_with found before is_named) (found_here is_named same other)

-- ---- what is returned

pub no_column : (separator : ℕ) (name line : List ℕ) (error : ColumnError) → TellsOneField error separator line → IsMissing separator name line
    → HasNoColumn error separator name line
no_column separator name line Missing tells missing = (missing, tells)
no_column separator name line NoSeparator tells missing = (missing, tells)
no_column separator name line Twice tells missing = absurd tells
no_column separator name line NoRecord tells missing = absurd tells

pub no_record_column : (separator : ℕ) (name line : List ℕ) (error : ColumnError) → TellsOneField error separator line → length line ≤ 65536
    → (is : IsRecord separator line) → IsNowhere (IsNamedIn is name) → HasNoRecordColumn error separator name line
no_record_column separator name line Missing tells short is nowhere = inr (short, is, nowhere, tells)
no_record_column separator name line NoSeparator tells short is nowhere = (short, is, nowhere, tells)
no_record_column separator name line Twice tells short is nowhere = absurd tells
no_record_column separator name line NoRecord tells short is nowhere = absurd tells

-- ---- fields of a record

-- These are the fields before one more field.
module _ (cells : List Cell) (cell : Cell) (name : List ℕ) where
  named_earlier : (k : ℕ) → IsNamedCell cells name k → IsNamedCell (cells ++ cell ∷ []) name k
  named_earlier k (below, named) = (
    omega (arith, below, length-append cells (cell ∷ [])),
    ap cell_text (get_or-append cells (cell ∷ []) (unescaped []) k below) ∙ named,
  )

  cell_here : cell_text (get_or (cells ++ cell ∷ []) (length cells) (unescaped [])) ≡ cell_text cell
  cell_here = ap cell_text (get_or-append_seam cells cell [] (unescaped []))

  named_back : (k : ℕ) → IsNamedCell (cells ++ cell ∷ []) name k → IsNamedCell cells name k ⊎ (k ≡ length cells)
  named_back k (below, named) = elim (below_next k (length cells) (omega (arith, below, length-append cells (cell ∷ [])))) [
    | inl less ↦ inl (less, sym (ap cell_text (get_or-append cells (cell ∷ []) (unescaped []) k less)) ∙ named)
    | inr e ↦ inr e
  ]

  pub found_cell : (found : Found) → AreFound (IsNamedCell cells name) found → (before : ℕ) → length cells ≡ before → (is_named : Bool)
      → (is_named ≡ true → cell_text cell ≡ name) → (is_named ≡ false → cell_text cell ≢ name)
      → AreFound (IsNamedCell (cells ++ cell ∷ []) name) (found_with found before is_named)
  found_cell found are before many is_named same other =
      subst (λ count. AreFound (IsNamedCell (cells ++ cell ∷ []) name) (found_with found count is_named)) many
      (found_more (IsNamedCell cells name) (IsNamedCell (cells ++ cell ∷ []) name) (length cells) named_earlier named_back (λ k (below, named). below)
      found are is_named
      (λ told. (omega (arith, length-append cells (cell ∷ [])), cell_here ∙ same told))
      (λ told (below, named). other told (sym cell_here ∙ named)))

pub text_of_cell : (start : ℕ) (cell : Cell) → (text_in start cell).bytes ≡ cell_text cell
text_of_cell start (escaped text) = refl
text_of_cell start (unescaped text) = refl

-- No field was looked at.
pub record_none : (separator : ℕ) (name line : List ℕ)
    → (behind : IsBehind separator 0 line 0) × AreFound (IsNamedCell behind.earlier name) Nothing
record_none separator name line = (
  behind_none separator line,
  subst (λ cells. AreFound (IsNamedCell cells name) Nothing) (sym (behind_none-earlier separator line)) (λ k (below, named). absurd (omega (arith, below))),
)

-- The line begins with some fields, and this is the index after them. `found` says which of these have the name.
module _ (separator before : ℕ) (name line : List ℕ) (start : ℕ) (behind : IsBehind separator before line start) (found : Found)
    (are : AreFound (IsNamedCell behind.earlier name) found) (is_named : Bool) where
  -- The field that begins here ends at a separator.
  pub record_more : (place : ℕ) (ending : HasEnding separator (drop start line) (At place)) → (is_named ≡ true → cell_text ending.0 ≡ name)
      → (is_named ≡ false → cell_text ending.0 ≢ name)
      → (more : IsBehind separator (before + 1) line (start + (place + 1))) × AreFound (IsNamedCell more.earlier name) (found_with found before is_named)
  record_more place ending same other = (
    behind_more separator before line start behind place ending,
    subst (λ cells. AreFound (IsNamedCell cells name) (found_with found before is_named)) (sym (behind_more-earlier separator before line start behind place ending))
        (found_cell behind.earlier ending.0 name found are before behind.many is_named same other),
  )

  -- The field that begins here is the last one.
  pub record_last : (ending : HasEnding separator (drop start line) Last) → (is_named ≡ true → cell_text ending.0 ≡ name)
      → (is_named ≡ false → cell_text ending.0 ≢ name)
      → (is : IsRecord separator line) × AreFound (IsNamedIn is name) (found_with found before is_named)
  record_last ending same other = (
    record {
      earlier = behind.earlier;
      last = ending.0;
      are = behind.are;
      is = ending.1;
      whole = behind.whole ∙ ap (λ t. fronts separator behind.earlier ++ t) ending.2;
    },
    found_cell behind.earlier ending.0 name found are before behind.many is_named same other,
  )
