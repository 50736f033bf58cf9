-- Reading an annotation returns an annotation, or the fault of a row that fits.
use Rattle.std.proofs.Common.{◌≡◌, ℕ, Bool, true, false, IsTrue, IsFalse, List, [], ◌∷◌, ◌++◌, map, Ok, Err, refl, sym, ap, ◌∙◌, subst, inl, inr, arith}
use Rattle.std.proofs.{Common.append_assoc, lemmas.Bool.{eqb-true, Decides.nat_tests}}
use Rattle.ixdtf_grammar.specs.language.Letters.{Text, ◌or◌, hyphen, equals, opening, closing, exclamation, key_lead, key_char, value_char}
use Rattle.ixdtf_grammar.specs.language.{Letters.Letter.{Plain, Bad}, Shapes.{Shape, nothing, one, ◌then◌, ◌either◌, some, many}}
use Rattle.ixdtf_grammar.specs.language.Brackets.{Opens, Pair, Key, ValueRun, Value, IsPair}
use Rattle.ixdtf_grammar.specs.table.{Faults.Fault.{NonAsciiCodePoint, AnnotationKeyValueSeparator, AnnotationKeyChar}, LineNames.PairLine}
use Rattle.ixdtf_grammar.specs.table.LineNames.{PairLine.{key_start, critical_key_start, in_key}, LineName.of_pair}
use Rattle.ixdtf_grammar.specs.table.{Lines.pair_line, Rows.{Row, Stops, FitsHere, front_of, Place.{end, other, bad}}}
use Rattle.ixdtf_reading.specs.reading.{Looks.{Read, row_of, letter_at}, Zones.with_letter, Pairs.{value_line, value_end, value_other, value_step, key_run}}
use Rattle.ixdtf_reading.specs.reading.Pairs.{value_run, pair_at, critical_pair_at, later_pair_at, ValueState, AtStart, Inside, AfterHyphen, ValueStep}
use Rattle.ixdtf_reading.specs.reading.{Pairs.{GoesOn, Ends, ValueStep as steps}, Chains.{AfterBrackets, FitsAfterBrackets}}
use Rattle.ixdtf_reading.proofs.{parts.Looks.{OnRead, then_read, read_if, read_letter, onto}, to_reading.Pair.{InPair, PairText, stepped, by_step}}

-- What is true if reading an annotation from its key on returned this result.
abbrev pub PairFront : Bool → Text → Pair → Text → Type 0
PairFront critical text pair rest = (front : Text) × (text ≡ front ++ rest) × PairText front pair × (pair.critical ≡ critical)

-- The row is of a table line from the key on, and fits here.
abbrev pub FitsInPair : Text → Row → Type 0
FitsInPair text row = (l : PairLine) × InPair l × (row.name ≡ of_pair l) × FitsHere true row text

-- ---- shapes with one more code unit before them

one_more : (shape : Shape) (c : ℕ) (text : Text) → shape (Plain c ∷ []) → many shape text → many shape (Plain c ∷ text)
one_more shape c text h m = ((Plain c ∷ []) ∷ m.0, (text, refl, h, m.1))

-- The code units of a value after its first one.
abbrev Tail : Shape
Tail = many (one value_char) then many (one hyphen then ValueRun)

char_tail : (c : ℕ) (text : Text) → IsTrue (value_char c) → Tail text → Tail (Plain c ∷ text)
char_tail c text h t = (Plain c ∷ t.0, t.1, onto c t.2, one_more (one value_char) c t.0 (c, refl, h) t.3, t.4)

char_value : (c : ℕ) (text : Text) → IsTrue (value_char c) → Tail text → Value (Plain c ∷ text)
char_value c text h t = (Plain c ∷ t.0, t.1, onto c t.2, (Plain c ∷ [], t.0, refl, (c, refl, h), t.3), t.4)

hyphen_tail : (c : ℕ) (text : Text) → IsTrue (hyphen c) → Value text → Tail (Plain c ∷ text)
hyphen_tail c text h v =
    ([], Plain c ∷ text, refl, ([], refl), ((Plain c ∷ v.0) ∷ v.4.0, (v.1, onto c v.2, (Plain c ∷ [], v.0, refl, (c, refl, h), v.3), v.4.1)))

no_tail : Tail []
no_tail = ([], [], refl, ([], refl), ([], refl))

grow_then : (a b last : Shape) (c : ℕ) → ((text : Text) → a text → b (Plain c ∷ text)) → (text : Text) → (a then last) text → (b then last) (Plain c ∷ text)
grow_then a b last c grow text h = (Plain c ∷ h.0, h.1, onto c h.2, grow h.0 h.3, h.4)

-- ---- from state to state

-- The texts that lead from one state to another.
abbrev Reach : ValueState → ValueState → Shape
Reach AtStart AtStart = nothing
Reach AtStart Inside = Value
Reach AtStart AfterHyphen = Value then one hyphen
Reach Inside AtStart = λ text. ⊥
Reach Inside Inside = Tail
Reach Inside AfterHyphen = Tail then one hyphen
Reach AfterHyphen AtStart = λ text. ⊥
Reach AfterHyphen Inside = Value
Reach AfterHyphen AfterHyphen = nothing either (Value then one hyphen)

stays : (state : ValueState) → Reach state state []
stays AtStart = refl
stays Inside = no_tail
stays AfterHyphen = inl refl

-- A code unit leads from one state to the next.
abbrev Grows : ℕ → ValueState → ValueState → Type 0
Grows c state next = (last : ValueState) (text : Text) → Reach next last text → Reach state last (Plain c ∷ text)

grows_char : (c : ℕ) → IsTrue (value_char c) → (state : ValueState) → Grows c state Inside
grows_char c h AtStart AtStart text r = absurd r
grows_char c h AtStart Inside text r = char_value c text h r
grows_char c h AtStart AfterHyphen text r = grow_then Tail Value (one hyphen) c (λ t. char_value c t h) text r
grows_char c h Inside AtStart text r = absurd r
grows_char c h Inside Inside text r = char_tail c text h r
grows_char c h Inside AfterHyphen text r = grow_then Tail Tail (one hyphen) c (λ t. char_tail c t h) text r
grows_char c h AfterHyphen AtStart text r = absurd r
grows_char c h AfterHyphen Inside text r = char_value c text h r
grows_char c h AfterHyphen AfterHyphen text r = inr (grow_then Tail Value (one hyphen) c (λ t. char_value c t h) text r)

grows_hyphen : (c : ℕ) → IsTrue (hyphen c) → Grows c Inside AfterHyphen
grows_hyphen c h AtStart text r = absurd r
grows_hyphen c h Inside text r = hyphen_tail c text h r
grows_hyphen c h AfterHyphen text (inl r) = ([], Plain c ∷ text, refl, no_tail, (c, rw r, h))
grows_hyphen c h AfterHyphen text (inr r) = grow_then Value Tail (one hyphen) c (λ t. hyphen_tail c t h) text r

-- ---- code units

key_lead_goes : (c : ℕ) → IsTrue (key_lead c) → IsTrue (key_char c)
key_lead_goes c h = grind (arith, nat_tests)

starts_key : (c : ℕ) → IsTrue ((key_lead or exclamation) c) → IsFalse (exclamation c) → IsTrue (key_lead c)
starts_key c h g = grind (arith, nat_tests)

-- ---- rows

-- The row is of this table line, after a prefix of this shape.
abbrev At : PairLine → Shape → Text → Row → Type 0
At l shape text row = (part rest : Text) × (text ≡ part ++ rest) × shape part × (row.name ≡ of_pair l) × Stops (pair_line l) row.place row.error rest

fits_here : (l : PairLine) (row : Row) (text : Text) → At l (front_of (pair_line l)) text row → FitsHere true row text
fits_here l row text h = rw h.4 (h.0, h.1, h.2, h.3, h.5)

-- What is true if reading a key of this shape returned this result.
abbrev KeyFront : Shape → Text → List ℕ → Text → Type 0
KeyFront shape text key rest = (part : Text) × (text ≡ part ++ (Plain 61 ∷ rest)) × shape part × (part ≡ map Plain key)

-- What is true if reading a value from a state on returned this result. The next definition is for a row.
abbrev ValueFront : ValueState → Text → List ℕ → Text → Type 0
ValueFront state text value rest = (part : Text) × (text ≡ part ++ (Plain 93 ∷ rest)) × Reach state Inside part × (part ≡ map Plain value)

abbrev ValueHalts : ValueState → Text → Row → Type 0
ValueHalts state text row = (last : ValueState) × At (value_line last) (Reach state last) text row

-- The text `[!`.
pub critical_start : (one opening then one exclamation) (Plain 91 ∷ (Plain 33 ∷ []))
critical_start = (Plain 91 ∷ [], Plain 33 ∷ [], refl, (91, refl, refl), (33, refl, refl))

-- The text of an annotation, after `[` or `[!`.
pub opened_pair : (start text : Text) (critical : Bool) (pair : Pair) → Opens start critical → PairText text pair → pair.critical ≡ critical
    → IsPair (start ++ text) pair
opened_pair start text critical pair opens h flag =
    record {
      start = start;
      keys = h.keys;
      values = h.values;
      is = ap (λ t. start ++ t) h.is;
      opens = subst (Opens start) (sym flag) opens;
      is_key = h.is_key;
      is_value = h.is_value;
      key = h.key;
      value = h.value;
    }

module _ {E : Type 0} (fault : Row → E) where
  -- ---- keys

  abbrev ReadsKey : Shape → Text → Read E (List ℕ) → Type 0
  ReadsKey shape text r = OnRead fault r (KeyFront shape text) (At in_key shape text)

  -- One more code unit before a key.
  key_more : (shape grown : Shape) (c : ℕ) (rest : Text) → ((part : Text) → shape part → grown (Plain c ∷ part)) → (r : Read E (List ℕ)) → ReadsKey shape rest r
      → ReadsKey grown (Plain c ∷ rest) (with_letter c r)
  key_more shape grown c rest grows (Ok x) h = (Plain c ∷ h.0, onto c h.1, grows h.0 h.2, onto c h.3)
  key_more shape grown c rest grows (Err e) h = (h.0, h.1, (Plain c ∷ h.2.0, h.2.1, onto c h.2.2, grows h.2.0 h.2.3, h.2.4, h.2.5))

  key_read : (text : Text) → ReadsKey (many (one key_char)) text (key_run fault text)
  unfolding key_run
  key_read [] = (row_of (of_pair in_key) (end []) AnnotationKeyValueSeparator, refl, ([], [], refl, ([], refl), refl, (refl, refl, refl)))
  key_read (Bad ∷ rest) = (row_of (of_pair in_key) (bad (Bad ∷ rest)) NonAsciiCodePoint, refl, ([], Bad ∷ rest, refl, ([], refl), refl, (rest, refl, refl, refl)))
  key_read (Plain c ∷ rest) = read_if fault (key_char c) _ _ _ _
      (λ goes. key_more _ _ c rest (λ part m. one_more (one key_char) c part (c, refl, goes) m) (key_run fault rest) (key_read rest))
      (λ no_key. read_if fault (equals c) _ _ _ _
      (λ marks. ([], ap (λ n. Plain n ∷ rest) (eqb-true c 61 marks), ([], refl), refl))
      (λ no_equals. (
        row_of (of_pair in_key) (other (Plain c ∷ rest)) AnnotationKeyChar,
        refl,
        ([], Plain c ∷ rest, refl, ([], refl), refl, (c, rest, refl, rw (no_key, no_equals), refl, refl)),
      )))

  -- Reading from the first code unit on.
  whole_key_read : (c : ℕ) (text more : Text) → text ≡ Plain c ∷ more → IsTrue (key_lead c) → ReadsKey Key text (key_run fault text)
  unfolding key_run
  whole_key_read c text more is lead =
      rw is (rw (key_lead_goes c lead)
      (key_more _ _ c more (λ part m. (Plain c ∷ [], part, refl, (c, refl, lead), m)) (key_run fault more) (key_read more)))

  -- ---- values

  abbrev ReadsValue : ValueState → Text → Read E (List ℕ) → Type 0
  ReadsValue state text r = OnRead fault r (ValueFront state text) (ValueHalts state text)

  value_more : (state next : ValueState) (c : ℕ) (rest : Text) → Grows c state next → (r : Read E (List ℕ)) → ReadsValue next rest r
      → ReadsValue state (Plain c ∷ rest) (with_letter c r)
  value_more state next c rest grows (Ok x) h = (Plain c ∷ h.0, onto c h.1, grows Inside h.0 h.2, onto c h.3)
  value_more state next c rest grows (Err e) h =
      (h.0, h.1, (h.2.0, (Plain c ∷ h.2.1.0, h.2.1.1, onto c h.2.1.2, grows h.2.0 h.2.1.0 h.2.1.3, h.2.1.4, h.2.1.5)))

  -- A code unit that the value does not accept.
  value_out : (state : ValueState) (c : ℕ) (rest : Text) → Stops (pair_line (value_line state)) (other (Plain c ∷ rest)) (value_other state) (Plain c ∷ rest)
      → ReadsValue state (Plain c ∷ rest) (stepped fault state c rest steps.Stops)
  value_out state c rest at = (row_of (of_pair (value_line state)) (other (Plain c ∷ rest)) (value_other state), refl, (state, ([], Plain c ∷ rest, refl, stays state, refl, at)))

  -- The rest of a value is read from each of its states.
  abbrev ReadsRest : Text → Type 0
  ReadsRest rest = (state : ValueState) → ReadsValue state rest (value_run fault state rest)

  -- The next code unit makes this step.
  at_letter : (state : ValueState) (c : ℕ) (rest : Text) (step : ValueStep) → value_step state c ≡ step
      → ReadsValue state (Plain c ∷ rest) (stepped fault state c rest step) → ReadsValue state (Plain c ∷ rest) (value_run fault state (Plain c ∷ rest))
  at_letter state c rest step is h = subst (ReadsValue state (Plain c ∷ rest)) (sym (by_step fault state c rest step is)) h

  any_letter : (c : ℕ) (rest : Text) → ReadsRest rest → ReadsRest (Plain c ∷ rest)
  any_letter c rest more state = by_char state (value_char c) refl
    where
      inside_mark : (d f : Bool) → value_char c ≡ false → hyphen c ≡ d → closing c ≡ f → ReadsValue Inside (Plain c ∷ rest) (value_run fault Inside (Plain c ∷ rest))
      inside_mark true f is dash shut = at_letter Inside c rest (GoesOn AfterHyphen) (rw (is, dash))
          (value_more Inside AfterHyphen c rest (grows_hyphen c dash) (value_run fault AfterHyphen rest) (more AfterHyphen))
      inside_mark false true is dash shut =
          at_letter Inside c rest Ends (rw (is, dash, shut)) ([], ap (λ n. Plain n ∷ rest) (eqb-true c 93 shut), no_tail, refl)
      inside_mark false false is dash shut =
          at_letter Inside c rest steps.Stops (rw (is, dash, shut)) (value_out Inside c rest (c, rest, refl, rw (is, dash, shut), refl, refl))

      by_char : (state : ValueState) (b : Bool) → value_char c ≡ b → ReadsValue state (Plain c ∷ rest) (value_run fault state (Plain c ∷ rest))
      by_char state true is = at_letter state c rest (GoesOn Inside) (rw is)
          (value_more state Inside c rest (grows_char c is state) (value_run fault Inside rest) (more Inside))
      by_char Inside false is = inside_mark (hyphen c) (closing c) is refl refl
      by_char AtStart false is = at_letter AtStart c rest steps.Stops (rw is) (value_out AtStart c rest (c, rest, refl, is, refl, refl))
      by_char AfterHyphen false is = at_letter AfterHyphen c rest steps.Stops (rw is) (value_out AfterHyphen c rest (c, rest, refl, is, refl, refl))

  at_end : (state : ValueState) → Stops (pair_line (value_line state)) (end []) (value_end state) []
  at_end AtStart = (refl, refl, refl)
  at_end state = (refl, refl, refl)

  at_bad : (state : ValueState) (rest : Text) → Stops (pair_line (value_line state)) (bad (Bad ∷ rest)) NonAsciiCodePoint (Bad ∷ rest)
  at_bad AtStart rest = (rest, refl, refl, refl)
  at_bad state rest = (rest, refl, refl, refl)

  value_read : (text : Text) → ReadsRest text
  unfolding value_run
  value_read [] state = (row_of (of_pair (value_line state)) (end []) (value_end state), refl, (state, ([], [], refl, stays state, refl, at_end state)))
  value_read (Bad ∷ rest) state =
      (row_of (of_pair (value_line state)) (bad (Bad ∷ rest)) NonAsciiCodePoint, refl, (state, ([], Bad ∷ rest, refl, stays state, refl, at_bad state rest)))
  value_read (Plain c ∷ rest) state = any_letter c rest (value_read rest) state

  -- ---- annotations from the key on

  -- A row after a key and `=`.
  after_key : (text middle : Text) (row : Row) (keys : Text) → text ≡ keys ++ (Plain 61 ∷ middle) → Key keys → ValueHalts AtStart middle row
      → FitsInPair text row
  after_key text middle row keys is key (last, (part, rest, split, reached, name, at)) =
      let here = is ∙ rw split (simp append_assoc) in
      (value_line last, in_pair last, name, fits_here (value_line last) row text (keys ++ (Plain 61 ∷ part), rest, here, shown last reached, name, at))
    where
      in_pair : (state : ValueState) → InPair (value_line state)
      in_pair AtStart = tt
      in_pair state = tt

      shown : (state : ValueState) → Reach AtStart state part → front_of (pair_line (value_line state)) (keys ++ (Plain 61 ∷ part))
      shown AtStart r = (keys, Plain 61 ∷ part, refl, key, (61, rw r, refl))
      shown Inside r = (keys, Plain 61 ∷ part, refl, key, (Plain 61 ∷ [], part, refl, (61, refl, refl), r))
      shown AfterHyphen r = (keys, Plain 61 ∷ part, refl, key, (Plain 61 ∷ [], part, refl, (61, refl, refl), r))

  pub pair_read : (critical : Bool) (c : ℕ) (text more : Text) → text ≡ Plain c ∷ more → IsTrue (key_lead c)
      → OnRead fault (pair_at fault critical text) (PairFront critical text) (FitsInPair text)
  unfolding pair_at
  pair_read critical c text more is lead = then_read fault (key_run fault text) _ _ _ _ _ (whole_key_read c text more is lead)
      (λ key middle h. then_read fault (value_run fault AtStart middle) _ _ _ _ _ (value_read middle AtStart)
      (λ value rest g. (
        h.0 ++ (Plain 61 ∷ (g.0 ++ (Plain 93 ∷ []))),
        h.1 ∙ rw g.1 (simp append_assoc),
        record { keys = h.0; values = g.0; is = refl; is_key = h.2; is_value = g.2; key = h.3; value = g.3 },
        refl,
      ))
      (λ row g. after_key text middle row h.0 h.1 h.2 g))
      (λ row h. (in_key, tt, h.4, fits_here in_key row text h))

  -- ---- annotations after their `[`

  -- What is true for the result of reading an annotation from its `[` on.
  abbrev LaterRead : Text → Read E Pair → Type 0
  LaterRead body r = OnRead fault r (λ pair rest. (front : Text) × (body ≡ front ++ rest) × IsPair front pair) (λ row. FitsAfterBrackets row body)

  -- A row of a table line from the key on, after `[` or `[!`.
  opened_row : (start text : Text) (row : Row) → some Opens start → FitsInPair text row → FitsAfterBrackets row (start ++ text)
  opened_row start text row opens h = (start, text, refl, subst (λ n. AfterBrackets n start) (sym h.2) (by_line h.0 h.1), h.3)
    where
      by_line : (l : PairLine) → InPair l → AfterBrackets (of_pair l) start
      by_line key_start within = absurd within
      by_line critical_key_start within = absurd within
      by_line l within = opens

  -- The text of an annotation, after `[` or `[!`.
  opened_read : (start text : Text) (critical : Bool) → Opens start critical → (r : Read E Pair) → OnRead fault r (PairFront critical text) (FitsInPair text)
      → LaterRead (start ++ text) r
  opened_read start text critical opens (Ok x) h = (start ++ h.0, rw h.1 (simp append_assoc), opened_pair start h.0 critical x.0 opens h.2 h.3)
  opened_read start text critical opens (Err e) h = (h.0, h.1, opened_row start text h.0 (critical, opens) h.2)

  -- A row of a table line without any text before it.
  first_row : (l : PairLine) (row : Row) (body : Text) → AfterBrackets (of_pair l) [] → At l (front_of (pair_line l)) body row → FitsAfterBrackets row body
  first_row l row body b h = ([], body, refl, subst (λ n. AfterBrackets n []) (sym h.4) b, fits_here l row body h)

  critical_read : (text : Text) → LaterRead (Plain 91 ∷ (Plain 33 ∷ text)) (critical_pair_at fault text)
  unfolding critical_pair_at
  critical_read text = then_read fault (letter_at fault (of_pair critical_key_start) text) _ _ _ _ _ (read_letter fault (of_pair critical_key_start) text tt)
      (λ c rest h. opened_read (Plain 91 ∷ (Plain 33 ∷ [])) text true critical_start _ (pair_read true c text rest h.0 h.1))
      (λ r h. first_row critical_key_start r (Plain 91 ∷ (Plain 33 ∷ text)) refl (Plain 91 ∷ (Plain 33 ∷ []), text, refl, critical_start, h.0, h.1))

  -- Reading after `[`.
  pub later_pair_read : (body text : Text) → body ≡ Plain 91 ∷ text
      → OnRead fault (later_pair_at fault text) (λ pair rest. (front : Text) × (body ≡ front ++ rest) × IsPair front pair) (λ row. FitsAfterBrackets row body)
  unfolding later_pair_at
  later_pair_read body text is =
      rw is (then_read fault (letter_at fault (of_pair key_start) text) _ _ _ _ _ (read_letter fault (of_pair key_start) text tt)
      (λ c rest h. read_if fault (exclamation c) _ _ _ _
      (λ critical. subst (λ t. LaterRead (Plain 91 ∷ t) (critical_pair_at fault rest)) (sym (h.0 ∙ ap (λ n. Plain n ∷ rest) (eqb-true c 33 critical)))
      (critical_read rest))
      (λ no_mark. opened_read (Plain 91 ∷ []) text false (91, refl, refl) _ (pair_read false c text rest h.0 (starts_key c h.1 no_mark))))
      (λ r h. first_row key_start r (Plain 91 ∷ text) refl (Plain 91 ∷ [], text, refl, (91, refl, refl), h.0, h.1)))
