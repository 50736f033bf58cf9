-- An annotation is read. Each row of the table lines of an annotation is returned.
use Rattle.std.proofs.Common.{◌≡◌, ℕ, Bool, true, IsTrue, IsFalse, List, [], ◌∷◌, ◌++◌, map, Ok, Err, refl, ap, ◌∙◌, arith, append_assoc}
use Rattle.std.proofs.lemmas.{Bool.{or_parts, or_left, eqb-true, Decides.nat_tests}}
use Rattle.ixdtf_grammar.specs.language.Letters.{Text, ◌or◌, hyphen, equals, closing, exclamation, key_lead, key_char, value_char, Letter.Plain}
use Rattle.ixdtf_grammar.specs.{language.{Shapes.{one, ◌then◌}, Brackets.{Pair, Key, ValueRun, Value, IsPair, Opens}}, table.Faults.Fault}
use Rattle.ixdtf_grammar.specs.table.LineNames.{PairLine, LineName.of_pair}
use Rattle.ixdtf_grammar.specs.table.LineNames.PairLine.{key_start, critical_key_start, in_key, value_start, in_value, after_value_hyphen}
use Rattle.ixdtf_grammar.specs.table.{Lines.{line_of, pair_line}, Rows.{Row, Place, Stops, front_of, Place.{end, other, bad}}}
use Rattle.ixdtf_reading.specs.reading.{Looks.{Read, row_of}, Zones.with_letter, Pairs.{value_line, value_other, value_step, key_run, value_run, pair_at}}
use Rattle.ixdtf_reading.specs.reading.Pairs.{critical_pair_at, later_pair_at, ValueState, AtStart, Inside, AfterHyphen, ValueStep, GoesOn, Ends}
use Rattle.ixdtf_reading.specs.reading.{Pairs.{ValueStep as steps}, Chains.AfterBrackets}
use Rattle.ixdtf_reading.proofs.parts.{Looks.row_here, Openings.{Returned, opened, start_row, critical_row}, Steps.{IsOver, over_one, over_both, over_many, over_ok, over_err}}

-- The table lines from the key on.
abbrev pub InPair : PairLine → Type 0
InPair key_start = ⊥
InPair critical_key_start = ⊥
InPair line = Unit {0}

-- The text of a key, `=`, a value and `]`.
pub record PairText (text : Text) (pair : Pair) : Type 0 where
  pub keys : Text
  pub values : Text
  pub is : text ≡ keys ++ (Plain 61 ∷ (values ++ (Plain 93 ∷ [])))
  pub is_key : Key keys
  pub is_value : Value values
  pub key : keys ≡ map Plain pair.key
  pub value : values ≡ map Plain pair.value

pub pair_text : {text : Text} {pair : Pair} (h : IsPair text pair) → PairText (h.keys ++ (Plain 61 ∷ (h.values ++ (Plain 93 ∷ [])))) pair
pair_text h = record { keys = h.keys; values = h.values; is = refl; is_key = h.is_key; is_value = h.is_value; key = h.key; value = h.value }

-- ---- code units

key_lead_goes : (c : ℕ) → IsTrue (key_lead c) → IsTrue (key_char c)
key_lead_goes c h = grind (arith, nat_tests)

-- A code unit that a value does not accept.
no_value : (c : ℕ) → IsFalse ((value_char or hyphen or closing) c) → IsFalse (value_char c) × IsFalse (hyphen c) × IsFalse (closing c)
no_value c h = (grind (arith, nat_tests), grind (arith, nat_tests), grind (arith, nat_tests))

module _ {E : Type 0} (fault : Row → E) where
  -- ---- keys

  key_letter : (c : ℕ) → IsTrue (key_char c) → IsOver (key_run fault) (key_run fault) (Plain c ∷ [])
  unfolding key_run
  key_letter c h = over_one c (λ rest. rw h)

  over_key : (text : Text) → Key text → IsOver (key_run fault) (key_run fault) text
  over_key text h =
      rw (h.2, h.3.1) (over_both (key_run fault) (key_letter h.3.0 (key_lead_goes h.3.0 h.3.2))
      (over_many (λ t g. rw g.1 (key_letter g.0 g.2)) h.4.0 h.1 h.4.1))

  key_ends : (c : ℕ) (rest : Text) → IsTrue (equals c) → key_run fault (Plain c ∷ rest) ≡ Ok ([], rest)
  unfolding key_run
  key_ends c rest h = rw (eqb-true c 61 h) refl

  key_stops : (place : Place) (e : Fault) (rest : Text) → Stops (pair_line in_key) place e rest
      → key_run fault rest ≡ Err (fault (row_of (of_pair in_key) place e))
  unfolding key_run
  key_stops =
      row_here fault (of_pair in_key) (key_run fault) (pair_line in_key)
      (refl, (λ rest. refl), λ c rest out. rw ((or_parts (key_char c) (equals c) out).0, (or_parts (key_char c) (equals c) out).1) refl)

  -- ---- values

  -- The result of the step of a code unit.
  abbrev pub stepped : ValueState → ℕ → Text → ValueStep → Read E (List ℕ)
  stepped state c rest step =
      elim step [
        | GoesOn next ↦ with_letter c (value_run fault next rest)
        | Ends ↦ Ok ([], rest)
        | steps.Stops ↦ Err (fault (row_of (of_pair (value_line state)) (other (Plain c ∷ rest)) (value_other state)))
      ]

  pub by_step : (state : ValueState) (c : ℕ) (rest : Text) (step : ValueStep) → value_step state c ≡ step
      → value_run fault state (Plain c ∷ rest) ≡ stepped state c rest step
  unfolding value_run
  by_step state c rest step h = ap (stepped state c rest) h

  -- A code unit of a component leads to the state `Inside` from each state of a value.
  value_letter : (state : ValueState) (c : ℕ) → IsTrue (value_char c) → IsOver (value_run fault state) (value_run fault Inside) (Plain c ∷ [])
  value_letter state c h = over_one c (λ rest. by_step state c rest (GoesOn Inside) (rw h))

  value_hyphen : (c : ℕ) → IsTrue (hyphen c) → IsOver (value_run fault Inside) (value_run fault AfterHyphen) (Plain c ∷ [])
  value_hyphen c h = over_one c (λ rest. by_step Inside c rest (GoesOn AfterHyphen) (rw (eqb-true c 45 h) refl))

  over_run : (state : ValueState) (text : Text) → ValueRun text → IsOver (value_run fault state) (value_run fault Inside) text
  over_run state text h =
      rw (h.2, h.3.1) (over_both (value_run fault Inside) (value_letter state h.3.0 h.3.2)
      (over_many (λ t g. rw g.1 (value_letter Inside g.0 g.2)) h.4.0 h.1 h.4.1))

  over_hyphened : (text : Text) → (one hyphen then ValueRun) text → IsOver (value_run fault Inside) (value_run fault Inside) text
  over_hyphened text h = rw (h.2, h.3.1) (over_both (value_run fault AfterHyphen) (value_hyphen h.3.0 h.3.2) (over_run AfterHyphen h.1 h.4))

  over_value : (text : Text) → Value text → IsOver (value_run fault AtStart) (value_run fault Inside) text
  over_value text h = rw h.2 (over_both (value_run fault Inside) (over_run AtStart h.0 h.3) (over_many over_hyphened h.4.0 h.1 h.4.1))

  value_closed : (rest : Text) → value_run fault Inside (Plain 93 ∷ rest) ≡ Ok ([], rest)
  unfolding value_run
  value_closed rest = refl

  value_stops : (state : ValueState) (place : Place) (e : Fault) (rest : Text) → Stops (pair_line (value_line state)) place e rest
      → value_run fault state rest ≡ Err (fault (row_of (of_pair (value_line state)) place e))
  unfolding value_run
  value_stops AtStart (other left) e rest at = rw (at.5, at.2, at.4) (by_step AtStart at.0 at.1 steps.Stops (rw at.3))
  value_stops Inside (other left) e rest at =
      let out : IsFalse (value_char at.0) × IsFalse (hyphen at.0) × IsFalse (closing at.0) = no_value at.0 at.3 in
      rw (at.5, at.2, at.4) (by_step Inside at.0 at.1 steps.Stops (rw (out.0, out.1, out.2)))
  value_stops AfterHyphen (other left) e rest at = rw (at.5, at.2, at.4) (by_step AfterHyphen at.0 at.1 steps.Stops (rw at.3))
  value_stops state (end left) e rest at = rw (at.2, at.0) (grind (arith, at.1))
  value_stops state (bad left) e rest at = rw (at.3, at.1, at.2)
  value_stops state place e rest at = absurd at

  -- ---- annotations from the key on

  -- An annotation is read from its key on.
  pub pair_takes : (text rest : Text) (pair : Pair) → PairText text pair → pair_at fault pair.critical (text ++ rest) ≡ Ok (pair, rest)
  unfolding pair_at
  pair_takes text rest pair h =
      let after : Text = (h.values ++ (Plain 93 ∷ [])) ++ rest in
      let value = over_ok pair.value (Plain 93 ∷ rest) rest (over_value h.values h.is_value) h.value (value_closed rest) in
      rw (h.is, append_assoc, over_ok pair.key (Plain 61 ∷ after) after (over_key h.keys h.is_key) h.key (key_ends 61 after refl), append_assoc, value)

  -- A fault after a key and `=`.
  after_key : (critical : Bool) (keys marks rest : Text) (e : E) → Key keys → one equals marks → value_run fault AtStart rest ≡ Err e
      → pair_at fault critical (keys ++ (marks ++ rest)) ≡ Err e
  unfolding pair_at
  after_key critical keys marks rest e key mark h =
      let o = over_key keys key in rw (over_ok o.letters (marks ++ rest) rest o o.is (rw mark.1 (key_ends mark.0 rest mark.2)), h)

  pub pair_rows : (critical : Bool) (l : PairLine) (place : Place) (e : Fault) (front rest : Text) → InPair l → front_of (line_of true (of_pair l)) front
      → Stops (line_of true (of_pair l)) place e rest → pair_at fault critical (front ++ rest) ≡ Err (fault (row_of (of_pair l) place e))
  unfolding pair_at
  pair_rows critical in_key place e front rest within f at = rw (over_err rest _ (over_key front f) (key_stops place e rest at))
  pair_rows critical value_start place e front rest within f at =
      rw (f.2, append_assoc) (after_key critical f.0 f.1 rest _ f.3 f.4 (value_stops AtStart place e rest at))
  pair_rows critical in_value place e front rest within f at =
      let g = f.4 in
      rw (f.2, g.2) (simp append_assoc (after_key critical f.0 g.0 (g.1 ++ rest) _ f.3 g.3
      (over_err rest _ (over_value g.1 g.4) (value_stops Inside place e rest at))))
  pair_rows critical after_value_hyphen place e front rest within f at =
      let g = f.4 in
      let v = g.4 in
      let dash : IsOver (value_run fault Inside) (value_run fault AfterHyphen) v.1 = rw v.4.1 (value_hyphen v.4.0 v.4.2) in
      rw (f.2, g.2, v.2) (simp append_assoc (after_key critical f.0 g.0 (v.0 ++ (v.1 ++ rest)) _ f.3 g.3
      (over_err (v.1 ++ rest) _ (over_value v.0 v.3)
      (over_err rest _ dash (value_stops AfterHyphen place e rest at)))))
  pair_rows critical l place e front rest within f at = absurd within

  -- ---- annotations after their `[`

  -- Reads an annotation from its key on. Its first code unit is not tested.
  abbrev by_key : Bool → ℕ → Text → Read E Pair
  by_key critical c text = pair_at fault critical text

  may_start : (c : ℕ) → IsTrue (key_lead c) → IsTrue ((key_lead or exclamation) c) × IsTrue (key_lead c) × IsFalse (exclamation c)
  may_start c h = (or_left _ _ h, h, grind (arith, nat_tests))

  -- A bracket that begins with a key after `[` or `[!`.
  at_key : (start : Text) (critical : Bool) (keys : Text) (body rest : Text) (given : Read E Pair) → Opens start critical → Key keys
      → (more : Text) → body ++ rest ≡ keys ++ more → pair_at fault critical (body ++ rest) ≡ given → Returned (later_pair_at fault) (start ++ body) rest given
  unfolding later_pair_at critical_pair_at
  at_key start critical keys body rest given opens key more is h =
      opened fault (of_pair key_start) (of_pair critical_key_start) key_lead tt tt may_start refl by_key start critical opens body rest given
      (key.3.0, key.1 ++ more, is ∙ rw (key.2, key.3.1) refl, key.3.2, h)

  -- A complete annotation is read.
  pub later_pair_takes : (front rest : Text) (pair : Pair) → IsPair front pair → Returned (later_pair_at fault) front rest (Ok (pair, rest))
  later_pair_takes front rest pair h =
      let behind : Text = Plain 61 ∷ (h.values ++ (Plain 93 ∷ [])) in
      rw h.is (at_key h.start pair.critical h.keys (h.keys ++ behind) rest _ h.opens h.is_key (behind ++ rest) (append_assoc h.keys behind rest)
      (pair_takes (h.keys ++ behind) rest pair (pair_text h)))

  pub later_pair_rows : (l : PairLine) (place : Place) (e : Fault) (before front rest : Text) → AfterBrackets (of_pair l) before
      → front_of (line_of true (of_pair l)) front → Stops (line_of true (of_pair l)) place e rest
      → Returned (later_pair_at fault) (before ++ front) rest (Err (fault (row_of (of_pair l) place e)))
  unfolding later_pair_at critical_pair_at
  later_pair_rows key_start place e before front rest b f at =
      rw b (start_row fault (of_pair key_start) (of_pair critical_key_start) key_lead tt tt may_start refl by_key place e front rest f at)
  later_pair_rows critical_key_start place e before front rest b f at =
      rw b (critical_row fault (of_pair key_start) (of_pair critical_key_start) key_lead tt tt may_start refl by_key place e front rest f at)
  later_pair_rows in_key place e before front rest b f at =
      at_key before b.0 front front rest _ b.1 f rest refl (pair_rows b.0 in_key place e front rest tt f at)
  later_pair_rows l place e before front rest b f at =
      at_key before b.0 f.0 front rest _ b.1 f.3 (f.1 ++ rest) (rw f.2 (simp append_assoc)) (pair_rows b.0 l place e front rest tt f at)
