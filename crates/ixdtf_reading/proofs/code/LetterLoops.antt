-- Code units that a loop consumes one by one.
use Rattle.ixdtf_grammar.specs.declared.reason.Reason.{Reason}
use Rattle.std.proofs.Common.{◌≡◌, ℕ, ◌+◌, ◌-◌, Bool, true, false, if◌then◌else◌, List, [], ◌∷◌, ◌++◌, length, map, drop, take, Option, Some, None, Ok, Err, refl}
use Rattle.std.specs.List.{slice_range}
use Rattle.std.proofs.{Common.{sym, ap, subst, ◌∙◌, arith, append_assoc, Result}, lemmas.List.{take-map, length-map, length-append, take_all, take-append-le}}
use Rattle.ixdtf_grammar.specs.language.Letters.{Letter, Text, Letter.{Plain, Bad}}
use Rattle.ixdtf_reading.specs.{reading.{Looks.{Placed, Read, look_at, seen}, Zones.with_letter, Runs.{Taken, one_more, nothing_taken, on_letter, letters_by}}}
use Rattle.ixdtf_reading.proofs.{code.FirstLetter.{nothing_is, first_is as letter_first}, parts.Steps.{steps, steps_both, steps_err, with_letters}}

-- The test is true if the result has a value. The next lemma says that it is false if there is none.
pub test_held : {A : Type 0} (b : Bool) (x y : A) → (if b then Some x else None) ≡ Some y → b ≡ true
test_held b x y e = grind (arith, e)

pub test_failed : {A : Type 0} (b : Bool) (x : A) → (if b then Some x else None) ≡ None → b ≡ false
test_failed b x e = grind (arith, e)

-- A look found the code unit `c`.
pub first_is : (stop : Reason) (letter : ℕ → Letter) → ((unit n : ℕ) → letter unit ≡ Plain n → n ≡ unit) → (units : List ℕ) (c : ℕ)
    → seen stop (map letter units) ≡ Ok (Some c) → (more : List ℕ) × (units ≡ c ∷ more) × (map letter units ≡ Plain c ∷ map letter more)
unfolding look_at
first_is stop letter faithful [] c e = absurd cc
first_is stop letter faithful (u ∷ more) c e = go (letter u) refl e
  where
    go : (l : Letter) → letter u ≡ l → seen stop (l ∷ map letter more) ≡ Ok (Some c)
        → (rest : List ℕ) × (u ∷ more ≡ c ∷ rest) × (letter u ∷ map letter more ≡ Plain c ∷ map letter rest)
    go (Plain n) is e =
        let same : n ≡ c = cc in
        (more, ap (λ m. m ∷ more) (sym (faithful u c (is ∙ ap (λ m. Plain m) same))), ap (λ l. l ∷ map letter more) (is ∙ ap (λ m. Plain m) same))
    go Bad is e = absurd cc

-- ---- a loop over code units

-- The state of the loop: these code units were consumed, and the others remain.
pub record IsFar {S B : Type 0} (step : ℕ → Result B Placed → Result B Placed) (reading : S → Text → Result B Placed) (letter : ℕ → Letter) (start : S)
    (whole rest : List ℕ) (state : S) : Type 0 where
  pub taken : List ℕ
  pub units : whole ≡ taken ++ rest
  pub read : reading start (map letter whole) ≡ steps step taken (reading state (map letter rest))

module _ {S B : Type 0} {step : ℕ → Result B Placed → Result B Placed} {reading : S → Text → Result B Placed} {letter : ℕ → Letter} {start : S}
    {whole rest : List ℕ} {state : S} (far : IsFar step reading letter start whole rest state) where
  -- More code units continue the run.
  pub more_far : (left letters : List ℕ) (next : S) → rest ≡ letters ++ left
      → reading state (map letter rest) ≡ steps step letters (reading next (map letter left)) → IsFar step reading letter start whole left next
  more_far left letters next split goes_on = record {
    taken = far.taken ++ letters;
    units = far.units ∙ ap (λ t. far.taken ++ t) split ∙ sym (append_assoc far.taken letters left);
    read = far.read ∙ ap (steps step far.taken) goes_on ∙ steps_both step far.taken letters (reading next (map letter left));
  }

  -- One code unit continues the run.
  pub one_far : (stop : Reason) → ((unit n : ℕ) → letter unit ≡ Plain n → n ≡ unit) → (left : List ℕ) (next : S) (c : ℕ) → seen stop (map letter rest) ≡ Ok (Some c)
      → ((more : Text) → reading state (Plain c ∷ more) ≡ step c (reading next more)) → left ≡ drop 1 rest → IsFar step reading letter start whole left next
  one_far stop faithful left next c e goes_on moved =
      let here = first_is stop letter faithful rest c e in
      let same : here.0 ≡ left = sym (moved ∙ ap (λ t. drop 1 t) here.1) in
      more_far left (c ∷ []) next (here.1 ∙ ap (λ t. c ∷ t) same)
      (ap (reading state) here.2 ∙ goes_on (map letter here.0) ∙ ap (λ t. step c (reading next (map letter t))) same)

  pub far_fails : ((c : ℕ) (e : Placed) → step c (Err e) ≡ Err e) → (fault : Placed) → reading state (map letter rest) ≡ Err fault
      → reading start (map letter whole) ≡ Err fault
  far_fails failed fault e = far.read ∙ ap (steps step far.taken) e ∙ steps_err step failed far.taken fault

-- A reading function that consumes each code unit that continues the run.
module _ {S B : Type 0} (stop : S → Reason) (after : S → ℕ → Option S) (step : ℕ → Result B Placed → Result B Placed) (reading : S → Text → Result B Placed)
    (over : (state next : S) (c : ℕ) (rest : Text) → after state c ≡ Some next → reading state (Plain c ∷ rest) ≡ step c (reading next rest))
    (at_bad : (state : S) (rest : Text) → reading state (Bad ∷ rest) ≡ Err (stop state, Bad ∷ rest))
    (failed : (c : ℕ) (e : Placed) → step c (Err e) ≡ Err e) where
  -- Reading goes on after the code units that were consumed.
  abbrev Walked : S → Text → Read Placed (Taken S) → Type 0
  Walked state text (Ok x) = reading state text ≡ steps step x.0.letters (reading x.0.state x.1)
  Walked state text (Err e) = reading state text ≡ Err e

  walked_more : (state next : S) (c : ℕ) (rest : Text) (read : Read Placed (Taken S)) → after state c ≡ Some next → Walked next rest read
      → Walked state (Plain c ∷ rest) (one_more c read)
  walked_more state next c rest (Ok x) is h = over state next c rest is ∙ ap (step c) h
  walked_more state next c rest (Err e) is h = over state next c rest is ∙ ap (step c) h ∙ failed c e

  walked_on : (state : S) (c : ℕ) (rest : Text) (next : Option S) → after state c ≡ next → ((n : S) → Walked n rest (letters_by stop after n rest))
      → Walked state (Plain c ∷ rest) (on_letter next (λ n. one_more c (letters_by stop after n rest)) (Ok (nothing_taken state (Some c), Plain c ∷ rest)))
  walked_on state c rest None is same = refl
  walked_on state c rest (Some next) is same = walked_more state next c rest _ is (same next)

  walked : (state : S) (text : Text) → Walked state text (letters_by stop after state text)
  unfolding letters_by
  walked state [] = refl
  walked state (Bad ∷ rest) = at_bad state rest
  walked state (Plain c ∷ rest) = walked_on state c rest (after state c) refl (λ n. walked n rest)

  pub walk_failed : (state : S) (text : Text) (fault : Placed) → letters_by stop after state text ≡ Err fault → reading state text ≡ Err fault
  walk_failed state text fault e = let w : Walked state text (Err fault) = subst (Walked state text) e (walked state text) in w

  pub walk_passed : (state : S) (text rest : Text) (taken : Taken S) → letters_by stop after state text ≡ Ok (taken, rest)
      → reading state text ≡ steps step taken.letters (reading taken.state rest)
  walk_passed state text rest taken e = let w : Walked state text (Ok (taken, rest)) = subst (Walked state text) e (walked state text) in w

-- A reading function that returns code units.
module _ {S : Type 0} (stop : S → Reason) (after : S → ℕ → Option S) (reading : S → Text → Read Placed (List ℕ))
    (over : (state next : S) (c : ℕ) (rest : Text) → after state c ≡ Some next → reading state (Plain c ∷ rest) ≡ with_letter c (reading next rest))
    (at_bad : (state : S) (rest : Text) → reading state (Bad ∷ rest) ≡ Err (stop state, Bad ∷ rest)) where
  pub run_failed : (state : S) (text : Text) (fault : Placed) → letters_by stop after state text ≡ Err fault → reading state text ≡ Err fault
  run_failed = walk_failed stop after with_letter reading over at_bad (λ c e. refl)

  pub run_passed : (state : S) (text rest : Text) (taken : Taken S) → letters_by stop after state text ≡ Ok (taken, rest)
      → reading state text ≡ with_letters taken.letters (reading taken.state rest)
  run_passed = walk_passed stop after with_letter reading over at_bad (λ c e. refl)

-- ---- runs

steps_taken : {S : Type 0} (letters : List ℕ) (state : S) (next : Option ℕ) (rest : Text)
    → steps one_more letters (Ok (nothing_taken state next, rest)) ≡ Ok (record { letters = letters; state = state; next = next }, rest)
steps_taken [] state next rest = refl
steps_taken (c ∷ letters) state next rest = ap (one_more c) (steps_taken letters state next rest)

module _ {S : Type 0} (stop : S → Reason) (after : S → ℕ → Option S) where
  run_more : (state next : S) (c : ℕ) (rest : Text) → after state c ≡ Some next → letters_by stop after state (Plain c ∷ rest) ≡ one_more c (letters_by stop after next rest)
  unfolding letters_by
  run_more state next c rest is = rw is refl

  run_bad : (state : S) (rest : Text) → letters_by stop after state (Bad ∷ rest) ≡ Err (stop state, Bad ∷ rest)
  unfolding letters_by
  run_bad state rest = refl

  run_fails : (state : S) (text : Text) (fault : Placed) → seen (stop state) text ≡ Err fault → letters_by stop after state text ≡ Err fault
  unfolding look_at letters_by
  run_fails state (Bad ∷ more) fault e = let same : (stop state, Bad ∷ more) ≡ fault = cc in rw same refl
  run_fails state text fault e = absurd cc

  -- The code unit does not continue the run, or the text ends.
  abbrev pub Stays : S → Option ℕ → Type 0
  Stays state None = Unit {0}
  Stays state (Some c) = after state c ≡ None

  abbrev Shown : Read Placed (Taken S) → Type 0
  Shown (Ok x) = (seen (stop x.0.state) x.1 ≡ Ok x.0.next) × Stays x.0.state x.0.next
  Shown (Err e) = Unit {0}

  shown_more : (c : ℕ) (read : Read Placed (Taken S)) → Shown read → Shown (one_more c read)
  shown_more c (Ok x) h = h
  shown_more c (Err e) h = tt

  shown_on : (state : S) (c : ℕ) (rest : Text) (next : Option S) → after state c ≡ next → ((n : S) → Shown (letters_by stop after n rest))
      → Shown (on_letter next (λ n. one_more c (letters_by stop after n rest)) (Ok (nothing_taken state (Some c), Plain c ∷ rest)))
  unfolding look_at
  shown_on state c rest None e same = (refl, e)
  shown_on state c rest (Some next) e same = shown_more c _ (same next)

  shown : (state : S) (text : Text) → Shown (letters_by stop after state text)
  unfolding letters_by look_at
  shown state [] = (refl, tt)
  shown state (Bad ∷ rest) = tt
  shown state (Plain c ∷ rest) = shown_on state c rest (after state c) refl (λ n. shown n rest)

  -- The code unit that does not continue the run is the next one.
  pub next_shown : (state : S) (text rest : Text) (taken : Taken S) → letters_by stop after state text ≡ Ok (taken, rest)
      → seen (stop taken.state) rest ≡ Ok taken.next
  next_shown state text rest taken e = let h : Shown (Ok (taken, rest)) = subst (λ read. Shown read) e (shown state text) in h.0

  pub next_stays : (state : S) (text rest : Text) (taken : Taken S) → letters_by stop after state text ≡ Ok (taken, rest) → Stays taken.state taken.next
  next_stays state text rest taken e = let h : Shown (Ok (taken, rest)) = subst (λ read. Shown read) e (shown state text) in h.1

  run_ceases : (some_stop : Reason) (state : S) (text : Text) (next : Option ℕ) → seen some_stop text ≡ Ok next → Stays state next
      → letters_by stop after state text ≡ Ok (nothing_taken state next, text)
  unfolding letters_by
  run_ceases some_stop state text None e is = rw (nothing_is some_stop text e) refl
  run_ceases some_stop state text (Some c) e is = rw (letter_first some_stop text c e, is) refl

  abbrev pub IsSoFar : (ℕ → Letter) → S → List ℕ → List ℕ → S → Type 0
  IsSoFar letter start whole rest state = IsFar one_more (letters_by stop after) letter start whole rest state

  pub begins : (letter : ℕ → Letter) (start : S) (whole : List ℕ) → IsSoFar letter start whole whole start
  begins letter start whole = record { taken = []; units = refl; read = refl }

  module _ (letter : ℕ → Letter) (faithful : (unit n : ℕ) → letter unit ≡ Plain n → n ≡ unit) (start : S) (whole rest : List ℕ) (state : S)
      (far : IsSoFar letter start whole rest state) where
    -- The code unit continues the run.
    pub goes_on : (some_stop : Reason) (left : List ℕ) (next : S) (c : ℕ) → seen some_stop (map letter rest) ≡ Ok (Some c) → after state c ≡ Some next
        → left ≡ drop 1 rest → IsSoFar letter start whole left next
    goes_on some_stop left next c e is moved = one_far far some_stop faithful left next c e (λ more. run_more state next c more is) moved

    -- The run ends here.
    pub ceases : (some_stop : Reason) (next : Option ℕ) → seen some_stop (map letter rest) ≡ Ok next → Stays state next
        → letters_by stop after start (map letter whole) ≡ Ok (record { letters = far.taken; state = state; next = next }, map letter rest)
    ceases some_stop next e is = far.read ∙ ap (steps one_more far.taken) (run_ceases some_stop state (map letter rest) next e is) ∙ steps_taken far.taken state next (map letter rest)

    pub fails : (fault : Placed) → seen (stop state) (map letter rest) ≡ Err fault → letters_by stop after start (map letter whole) ≡ Err fault
    fails fault e = far_fails far (λ c e. refl) fault (run_fails state (map letter rest) fault e)

-- ---- runs with other `Reason`s

-- If the first run ends, so does the second one.
abbrev Alike : {S : Type 0} → Read Placed (Taken S) → Read Placed (Taken S) → Type 0
Alike (Ok x) other = other ≡ Ok x
Alike (Err e) other = Unit {0}

alike_more : {S : Type 0} (c : ℕ) (read other : Read Placed (Taken S)) → Alike read other → Alike (one_more c read) (one_more c other)
alike_more c (Ok x) other same = ap (one_more c) same
alike_more c (Err e) other same = tt

alike_on : {S : Type 0} (c : ℕ) (next : Option S) (read other : S → Read Placed (Taken S)) (here : Read Placed (Taken S)) → Alike here here
    → ((n : S) → Alike (read n) (other n)) → Alike (on_letter next (λ n. one_more c (read n)) here) (on_letter next (λ n. one_more c (other n)) here)
alike_on c None read other here same all = same
alike_on c (Some n) read other here same all = alike_more c (read n) (other n) (all n)

alike : {S : Type 0} (stop other : S → Reason) (after : S → ℕ → Option S) (state : S) (text : Text) → Alike (letters_by stop after state text) (letters_by other after state text)
unfolding letters_by
alike stop other after state [] = refl
alike stop other after state (Bad ∷ rest) = tt
alike stop other after state (Plain c ∷ rest) =
    alike_on c (after state c) (λ n. letters_by stop after n rest) (λ n. letters_by other after n rest) (Ok (nothing_taken state (Some c), Plain c ∷ rest)) refl
    (λ n. alike stop other after n rest)

-- A run that ends does so with other `Reason`s too.
pub ends_alike : {S : Type 0} (stop other : S → Reason) (after : S → ℕ → Option S) (state : S) (text : Text) (x : Taken S × Text)
    → letters_by stop after state text ≡ Ok x → letters_by other after state text ≡ Ok x
ends_alike stop other after state text x e = let same : Alike (Ok x) (letters_by other after state text) =
    subst (λ read. Alike read (letters_by other after state text)) e (alike stop other after state text) in same

-- The code units that were consumed are the first ones of those before: all except those that follow.
pub front_before : {U : Type 0} (number : U → ℕ) (start : List U) (behind : ℕ) (taken rest whole : List ℕ) → map number start ≡ whole → whole ≡ taken ++ rest
    → behind ≡ length rest → map number (take (length start - behind) start) ≡ taken
front_before number start behind taken rest whole all split left =
    let count : length start - behind ≡ length taken =
    omega (arith, length-map start number, ap length all, ap length split, left, length-append taken rest) in
    rw count (sym (take-map number _ start) ∙ rw (all, split) (take-append-le _ taken rest (omega arith) ∙ take_all _ taken (omega arith)))

pub front_is : {U : Type 0} (number : U → ℕ) (start after : List U) (taken rest whole : List ℕ) → map number start ≡ whole → whole ≡ taken ++ rest
    → map number after ≡ rest → map number (take (length start - length after) start) ≡ taken
front_is number start after taken rest whole all split left =
    front_before number start (length after) taken rest whole all split (sym (length-map after number) ∙ ap length left)

-- A range from index 0 on.
pub range_is : {U : Type 0} (units : List U) (n : ℕ) → slice_range units 0 n ≡ take n units
range_is units n = ap (λ m. take m units) (omega arith)

-- After the next code unit was consumed, one code unit fewer remains.
pub behind_last : {U : Type 0} (number : U → ℕ) (after : List U) (rest left : List ℕ) → map number after ≡ left → left ≡ drop 1 rest
    → length (drop 1 rest) + 1 ≡ length rest → length after + 1 ≡ length rest
behind_last number after rest left all split stays = omega (arith, stays, length-map after number, ap length all, ap length split)

-- ---- code units of one kind within another

-- Code units of one class that do not change the state of another run.
module _ {S U : Type 0} (stop : S → Reason) (after : S → ℕ → Option S) (wide_stop : U → Reason) (wider : U → ℕ → Option U) (here : U)
    (same_stop : (state : S) → wide_stop here ≡ stop state)
    (within : (state next : S) (c : ℕ) → after state c ≡ Some next → wider here c ≡ Some here) where
  abbrev wide : S → Text → Read Placed (Taken U)
  wide state text = letters_by wide_stop wider here text

  wide_over : (state next : S) (c : ℕ) (rest : Text) → after state c ≡ Some next → wide state (Plain c ∷ rest) ≡ one_more c (wide next rest)
  wide_over state next c rest is = run_more wide_stop wider here here c rest (within state next c is)

  module _ (letter : ℕ → Letter) (start : U) (whole rest : List ℕ) (far : IsSoFar wide_stop wider letter start whole rest here) where
    -- These code units were consumed.
    pub goes_over : (left letters : List ℕ) (state : S) (taken : Taken S) → rest ≡ letters ++ left
        → letters_by stop after state (map letter rest) ≡ Ok (taken, map letter left) → taken.letters ≡ letters → IsSoFar wide_stop wider letter start whole left here
    goes_over left letters state taken split passed same = more_far far left letters here split
        (walk_passed stop after one_more wide wide_over (λ state rest. run_bad wide_stop wider here rest ∙ ap (λ s. Err (s, Bad ∷ rest)) (same_stop state)) (λ c e. refl) state (map letter rest) (map letter left) taken passed
        ∙ ap (λ t. steps one_more t (letters_by wide_stop wider here (map letter left))) same)

    pub fails_over : (state : S) (fault : Placed) → letters_by stop after state (map letter rest) ≡ Err fault → letters_by wide_stop wider start (map letter whole) ≡ Err fault
    fails_over state fault e = far_fails far (λ c e. refl) fault
        (walk_failed stop after one_more wide wide_over (λ state rest. run_bad wide_stop wider here rest ∙ ap (λ s. Err (s, Bad ∷ rest)) (same_stop state)) (λ c e. refl) state (map letter rest) fault e)
