-- One pass over a first bracket that can begin with a key: first the code units of a key, and then those of a name.
use Rattle.ixdtf_grammar.specs.declared.reason.Reason.{Reason}
use Rattle.std.proofs.Common.{◌≡◌, ℕ, ◌&&◌, Bool, true, false, IsTrue, List, [], ◌∷◌, ◌++◌, drop, Option, Some, None, Result, Ok, Err}
use Rattle.std.proofs.{Common.{refl, sym, ap, subst, ◌∙◌, arith, if◌then◌else◌}, lemmas.Bool.{and_parts, Decides.nat_tests}}
use Rattle.ixdtf_reading.specs.reading.Looks.{Placed, Read, ◌>>=◌, seen, next_by, error_of}
use Rattle.ixdtf_reading.specs.reading.{Zones.{with_letter, name_run, as_zone}, Pairs.{AtStart, value_run, pair_at}, Runs.{Taken, always, letters_by, key_after}}
use Rattle.ixdtf_reading.specs.reading.Brackets.{Bracket, zoned, paired, noted, as_pair, refusal, name_stop, next_is, sight_at, name_in_bracket_at}
use Rattle.ixdtf_reading.specs.reading.Brackets.{name_or_pair_at}
use Rattle.ixdtf_reading.proofs.code.FirstLetter.{first_is, nothing_is}
use Rattle.ixdtf_reading.proofs.code.LetterLoops.{test_held, Stays, next_shown, next_stays, run_passed, walk_failed, walk_passed, ends_alike}
use Rattle.ixdtf_reading.proofs.{code.PairLoops.{key_stop, key_closed, key_refused}, parts.LookAhead.{over_letter, zone_char_skipped, slash_skipped, key_char_skipped}}
use Rattle.ixdtf_reading.proofs.parts.Steps.{steps, with_letters, letters_before, letters_err}
use Rattle.ixdtf_brackets.specs.{declared.zone.NameState.NameState, BracketTypes.{name_after, bracket_after, stop_by}}
use Rattle.ixdtf_brackets.proofs.code.NameLoop.{name_start, zone_stops, name_ended, name_refused, some_next}
use Rattle.ixdtf_grammar.specs.language.{Letters.{Text, equals, closing, key_char, zone_char, Letter.{Plain, Bad}}, ZoneNames.Zone.Name}
use Rattle.ixdtf_grammar.specs.{language.Brackets.skipped, table.LineNames.{LineName.of_bracket, BracketLine.first_bracket_scan}}
use Rattle.ixdtf_reading.specs.{reading.{Looks.look_at, Stops.reason_of}}

abbrev sight : Text → Result Bool Placed
sight text = sight_at error_of text

-- The `Reason` while it is not known whether the bracket is a zone or an annotation.
abbrev pub scan_stop : Reason
scan_stop = reason_of (of_bracket first_bracket_scan)

abbrev key_scan : Unit {0} → Reason
key_scan = always scan_stop

abbrev name_scan : NameState → Reason
name_scan = stop_by scan_stop scan_stop

name_scans : (state : NameState) → name_scan state ≡ scan_stop
name_scans state = go state.may_end refl
  where
    go : (b : Bool) → state.may_end ≡ b → name_scan state ≡ scan_stop
    go true p = rw p refl
    go false p = rw p refl

-- What a look finds does not depend on the `Reason`.
seen_alike : (stop other : Reason) (text : Text) (next : Option ℕ) → seen stop text ≡ Ok next → seen other text ≡ Ok next
unfolding look_at
seen_alike stop other [] next e = e
seen_alike stop other (Bad ∷ rest) next e = absurd cc
seen_alike stop other (Plain c ∷ rest) next e = e

-- ---- the look ahead over code units

no_steps : (letters : List ℕ) (read : Result Bool Placed) → steps (λ c read. read) letters read ≡ read
no_steps [] read = refl
no_steps (c ∷ letters) read = no_steps letters read

module _ {S : Type 0} (stop : S → Reason) (same : (state : S) → stop state ≡ scan_stop) (after : S → ℕ → Option S) where
  module _ (over : (state next : S) (c : ℕ) → after state c ≡ Some next → IsTrue (skipped c)) where
    sight_over : (state next : S) (c : ℕ) (rest : Text) → after state c ≡ Some next → sight (Plain c ∷ rest) ≡ sight rest
    sight_over state next c rest e = over_letter error_of c rest (over state next c e)

    sight_bad : (state : S) (rest : Text) → sight (Bad ∷ rest) ≡ Err (stop state, Bad ∷ rest)
    unfolding sight_at
    sight_bad state rest = rw (same state) refl

    pub sight_fails : (state : S) (text : Text) (fault : Placed) → letters_by stop after state text ≡ Err fault → sight text ≡ Err fault
    sight_fails = walk_failed stop after (λ c read. read) (λ state text. sight text) sight_over sight_bad (λ c e. refl)

    pub sight_goes_on : (state : S) (text rest : Text) (taken : Taken S) → letters_by stop after state text ≡ Ok (taken, rest) → sight text ≡ sight rest
    sight_goes_on state text rest taken e =
        walk_passed stop after (λ c read. read) (λ state text. sight text) sight_over sight_bad (λ c e. refl) state text rest taken e
        ∙ no_steps taken.letters (sight rest)

-- The result of looking ahead, by the next code unit.
sight_at_end : (stop : Reason) (text : Text) → seen stop text ≡ Ok None → sight text ≡ Err (scan_stop, text)
unfolding sight_at
sight_at_end stop text e = rw (nothing_is stop text e) refl

sight_at_equals : (stop : Reason) (text : Text) (c : ℕ) → seen stop text ≡ Ok (Some c) → equals c ≡ true → sight text ≡ Ok true
unfolding sight_at
sight_at_equals stop text c e is = rw (first_is stop text c e, is) refl

no_equals : (c : ℕ) → closing c ≡ true → equals c ≡ false
no_equals c is = grind (arith, nat_tests)

sight_at_closing : (stop : Reason) (text : Text) (c : ℕ) → seen stop text ≡ Ok (Some c) → closing c ≡ true → sight text ≡ Ok false
unfolding sight_at
sight_at_closing stop text c e is = rw (first_is stop text c e, no_equals c is, is) refl

-- ---- code units before an `=` or a `]`

bracket_over : (state next : Unit {0}) (c : ℕ) → bracket_after state c ≡ Some next → IsTrue (skipped c)
bracket_over state next c e = test_held _ state next e

abbrev bracket_scan : Unit {0} → Reason
bracket_scan = always scan_stop

pub bracket_failed : (letters : Unit {0}) (text : Text) (fault : Placed) → letters_by (always scan_stop) bracket_after letters text ≡ Err fault
    → sight_at error_of text ≡ Err fault
bracket_failed letters text fault e = sight_fails bracket_scan (λ state. refl) bracket_after bracket_over letters text fault e

pub bracket_ended : (letters : Unit {0}) (text rest : Text) (taken : Taken (Unit {0})) → letters_by (always scan_stop) bracket_after letters text ≡ Ok (taken, rest)
    → taken.next ≡ None → sight_at error_of text ≡ Err (scan_stop, rest)
bracket_ended letters text rest taken e is =
    sight_goes_on bracket_scan (λ state. refl) bracket_after bracket_over letters text rest taken e
    ∙ sight_at_end _ rest (next_shown bracket_scan bracket_after letters text rest taken e ∙ ap Ok is)

bracket_other : (letters : Unit {0}) (c : ℕ) → bracket_after letters c ≡ None → equals c ≡ false → closing c ≡ true
bracket_other letters c e is = grind (arith, nat_tests)

pub bracket_sighted : (letters : Unit {0}) (text rest : Text) (taken : Taken (Unit {0})) (c : ℕ)
    → letters_by (always scan_stop) bracket_after letters text ≡ Ok (taken, rest) → taken.next ≡ Some c → sight_at error_of text ≡ Ok (equals c)
bracket_sighted letters text rest taken c e is =
    sight_goes_on bracket_scan (λ state. refl) bracket_after bracket_over letters text rest taken e ∙ go _ refl
  where
    next : seen scan_stop rest ≡ Ok (Some c)
    next = next_shown bracket_scan bracket_after letters text rest taken e ∙ ap Ok is

    stays : bracket_after taken.state c ≡ None
    stays = subst (λ next. Stays bracket_scan bracket_after taken.state next) is (next_stays bracket_scan bracket_after letters text rest taken e)

    go : (b : Bool) → equals c ≡ b → sight rest ≡ Ok (equals c)
    go true p = rw p (sight_at_equals _ rest c next p)
    go false p = rw p (sight_at_closing _ rest c next (bracket_other taken.state c stays p))

-- The rules about what is found before any `]`.
pub ruleset sights = (bracket_failed, bracket_ended, bracket_sighted)

-- ---- the code units of a key, and those of a name after them

key_over : (state next : Unit {0}) (c : ℕ) → key_after state c ≡ Some next → IsTrue (skipped c)
key_over state next c e = key_char_skipped c (test_held (key_char c) state next e)

name_over : (state next : NameState) (c : ℕ) → name_after state c ≡ Some next → IsTrue (skipped c)
name_over state next c e = grind (arith, zone_char_skipped, slash_skipped)

key_is_zone : (c : ℕ) → key_char c ≡ true → zone_char c ≡ true
key_is_zone c is = grind (arith, nat_tests)

key_in_name : (state next : Unit {0}) (c : ℕ) (rest : Text) → key_after state c ≡ Some next
    → name_run error_of true (Plain c ∷ rest) ≡ with_letter c (name_run error_of true rest)
unfolding name_run
key_in_name state next c rest e = rw (key_is_zone c (test_held (key_char c) state next e)) refl

bad_in_name : (letters : Unit {0}) (rest : Text) → name_run error_of true (Bad ∷ rest) ≡ Err (name_stop true, Bad ∷ rest)
unfolding name_run
bad_in_name letters rest = refl

-- The code units of a key are the first code units of a name.
name_keyed : (letters : Unit {0}) (text rest : Text) (key : Taken (Unit {0})) → letters_by (always (name_stop true)) key_after letters text ≡ Ok (key, rest)
    → name_run error_of true text ≡ with_letters key.letters (name_run error_of true rest)
name_keyed letters text rest key e =
    run_passed (always (name_stop true)) key_after (λ letters text. name_run error_of true text) key_in_name bad_in_name letters text rest key e

-- ---- what the bracket is

abbrev read_at : Bool → Text → Read Placed Bracket
read_at critical text = name_or_pair_at error_of critical text

unseen : (critical : Bool) (text : Text) (fault : Placed) → sight text ≡ Err fault → read_at critical text ≡ Err fault
unfolding name_or_pair_at
unseen critical text fault e = rw e refl

sighted : (critical : Bool) (text : Text) (b : Bool) → sight text ≡ Ok b
    → read_at critical text ≡ (if b then as_pair (pair_at error_of critical text) else noted critical (as_zone (name_in_bracket_at error_of text)))
unfolding name_or_pair_at
sighted critical text b e = rw e refl

module _ (critical : Bool) (letters : Unit {0}) (text : Text) where
  pub pass_failed : (fault : Placed) → letters_by (always scan_stop) key_after letters text ≡ Err fault → read_at critical text ≡ Err fault
  pass_failed fault e = unseen critical text fault (sight_fails key_scan (λ state. refl) key_after key_over letters text fault e)

  module _ (rest : Text) (key : Taken (Unit {0})) (keys : letters_by (always scan_stop) key_after letters text ≡ Ok (key, rest)) where
    sight_is : sight text ≡ sight rest
    sight_is = sight_goes_on key_scan (λ state. refl) key_after key_over letters text rest key keys

    key_next : (o : Option ℕ) → key.next ≡ o → seen scan_stop rest ≡ Ok o
    key_next o is = next_shown key_scan key_after letters text rest key keys ∙ ap Ok is

    -- The same run in a key, and in a name.
    in_key : letters_by (always key_stop) key_after letters text ≡ Ok (key, rest)
    in_key = ends_alike key_scan (always key_stop) key_after letters text (key, rest) keys

    in_name : letters_by (always (name_stop true)) key_after letters text ≡ Ok (key, rest)
    in_name = ends_alike key_scan (always (name_stop true)) key_after letters text (key, rest) keys

    module _ (is : next_is equals key.next ≡ true) where
      -- The bracket is an annotation, or its value is refused.
      pair_is : read_at critical text ≡ as_pair (
          value_run error_of AtStart (drop 1 rest) >>= λ value. Ok (record { critical = critical; key = key.letters; value = value.0 }, value.1))
      unfolding pair_at
      pair_is =
          let found = some_next equals key.next is in
          sighted critical text true (sight_is ∙ sight_at_equals _ rest found.0 (key_next _ found.1) found.2)
          ∙ rw (key_closed letters text rest key in_key found.0 found.1 found.2) refl

      pub value_failed : (fault : Placed) → value_run error_of AtStart (drop 1 rest) ≡ Err fault → read_at critical text ≡ Err fault
      value_failed fault e = pair_is ∙ rw e refl

      pub pair_read : (value : List ℕ) (after : Text) → value_run error_of AtStart (drop 1 rest) ≡ Ok (value, after)
          → read_at critical text ≡ Ok (paired (record { critical = critical; key = key.letters; value = value }), after)
      pair_read value after e = pair_is ∙ rw e refl

    pub more_failed : (fault : Placed) → letters_by (stop_by scan_stop scan_stop) name_after name_start rest ≡ Err fault → read_at critical text ≡ Err fault
    more_failed fault e = unseen critical text fault (sight_is ∙ sight_fails name_scan name_scans name_after name_over name_start rest fault e)

    module _ (after : Text) (more : Taken NameState) (mores : letters_by (stop_by scan_stop scan_stop) name_after name_start rest ≡ Ok (more, after)) where
      sight_after : sight text ≡ sight after
      sight_after = sight_is ∙ sight_goes_on name_scan name_scans name_after name_over name_start rest after more mores

      more_next : (o : Option ℕ) → more.next ≡ o → seen (name_stop true) after ≡ Ok o
      more_next o is = seen_alike _ _ after o (next_shown name_scan name_after name_start rest after more mores ∙ ap Ok is)

      -- The same run in a name.
      in_zone : letters_by zone_stops name_after name_start rest ≡ Ok (more, after)
      in_zone = ends_alike name_scan zone_stops name_after name_start rest (more, after) mores

      name_ends_so : more.state.may_end ≡ true → name_run error_of true text ≡ Ok (key.letters ++ more.letters, after)
      name_ends_so e = name_keyed letters text rest key in_name ∙ rw (name_ended rest after more in_zone e) (letters_before key.letters more.letters after)

      name_refused_so : more.state.may_end ≡ false → name_run error_of true text ≡ Err (name_stop false, after)
      name_refused_so e = name_keyed letters text rest key in_name ∙ rw (name_refused rest after more in_zone e) (letters_err key.letters (name_stop false, after))

      -- The text ends in the bracket.
      pub name_unended : more.next ≡ None → read_at critical text ≡ Err (scan_stop, after)
      name_unended is = unseen critical text _ (sight_after ∙ sight_at_end _ after (more_next None is))

      -- The bracket is a name.
      pub name_read : (more.state.may_end && next_is closing more.next) ≡ true
          → read_at critical text ≡ Ok (zoned (record { critical = critical; zone = Name (key.letters ++ more.letters) }), drop 1 after)
      unfolding name_in_bracket_at next_by
      name_read is =
          let (ends, closes) = and_parts _ _ is in
          let found = some_next closing more.next closes in
          let next = more_next (Some found.0) found.1 in
          sighted critical text false (sight_after ∙ sight_at_closing _ after found.0 next found.2) ∙ rw (name_ends_so ends, next, found.2) refl

      pair_refused : next_is equals key.next ≡ false → sight rest ≡ Ok true → as_pair (pair_at error_of critical text) ≡ Err (key_stop, rest)
      unfolding pair_at
      pair_refused no_key p = go key.next refl no_key
        where
          go : (next : Option ℕ) → key.next ≡ next → next_is equals next ≡ false → as_pair (pair_at error_of critical text) ≡ Err (key_stop, rest)
          go None e other = let ends = sight_at_end _ rest (key_next _ e) in absurd cc
          go (Some c) e other = rw (key_refused letters text rest key in_key c e other) refl

      zone_refused : (more.state.may_end && next_is closing more.next) ≡ false → sight after ≡ Ok false
          → noted critical (as_zone (name_in_bracket_at error_of text)) ≡ Err (name_stop more.state.may_end, after)
      unfolding name_in_bracket_at next_by
      zone_refused is p = go more.state.may_end refl more.next refl is
        where
          go : (b : Bool) → more.state.may_end ≡ b → (next : Option ℕ) → more.next ≡ next → (b && next_is closing next) ≡ false
              → noted critical (as_zone (name_in_bracket_at error_of text)) ≡ Err (name_stop more.state.may_end, after)
          go false q next e test = rw (name_refused_so q, q) refl
          go true q None e test = let ends = sight_at_end _ after (more_next _ e) in absurd cc
          go true q (Some c) e test =
              let next = more_next (Some c) e in
              rw (name_ends_so q, next, test, q) refl

      -- The bracket is neither an annotation nor a name.
      pub name_refuses : next_is equals key.next ≡ false → (more.state.may_end && next_is closing more.next) ≡ false
          → read_at critical text ≡ Err (refusal (sight_at error_of after) (name_stop more.state.may_end) rest after)
      name_refuses no_key is = go _ refl
        where
          go : (seen_so : Result Bool Placed) → sight after ≡ seen_so
              → read_at critical text ≡ Err (refusal (sight_at error_of after) (name_stop more.state.may_end) rest after)
          go (Err e) p = rw p (unseen critical text e (sight_after ∙ p))
          go (Ok true) p = rw p (sighted critical text true (sight_after ∙ p) ∙ pair_refused no_key (sym sight_is ∙ sight_after ∙ p))
          go (Ok false) p = rw p (sighted critical text false (sight_after ∙ p) ∙ zone_refused is p)
