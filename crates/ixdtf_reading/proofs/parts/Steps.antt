-- Code units before the rest that is read after them. Each has its own step.
use Rattle.std.proofs.{Common.{◌≡◌, ℕ, List, [], ◌∷◌, ◌++◌, map, Result, Ok, Err, refl, sym, ap, ◌∙◌, append_assoc}, lemmas.List.map-append}
use Rattle.ixdtf_grammar.specs.language.{Letters.{Text, Letter.Plain}, Shapes.{Shape, Joined}}
use Rattle.ixdtf_reading.specs.reading.{Looks.Read, Zones.with_letter}

abbrev pub steps : {R : Type 0} → (ℕ → R → R) → List ℕ → R → R
steps step [] read = read
steps step (c ∷ more) read = step c (steps step more read)

pub steps_both : {R : Type 0} (step : ℕ → R → R) (a b : List ℕ) (read : R) → steps step a (steps step b read) ≡ steps step (a ++ b) read
steps_both step [] b read = refl
steps_both step (c ∷ a) b read = ap (step c) (steps_both step a b read)

pub steps_err : {E B : Type 0} (step : ℕ → Result B E → Result B E) → ((c : ℕ) (e : E) → step c (Err e) ≡ Err e) → (letters : List ℕ) (e : E)
    → steps step letters (Err e) ≡ Err e
steps_err step fails [] e = refl
steps_err step fails (c ∷ letters) e = ap (step c) (steps_err step fails letters e) ∙ fails c e

-- Puts code units before those that were read.
abbrev pub with_letters : {E : Type 0} → List ℕ → Read E (List ℕ) → Read E (List ℕ)
with_letters letters read = steps with_letter letters read

pub letters_err : {E : Type 0} (letters : List ℕ) (e : E) → with_letters letters (Err e) ≡ Err e
letters_err letters e = steps_err with_letter (λ c e. refl) letters e

pub letters_before : {E : Type 0} (letters more : List ℕ) (rest : Text) → with_letters {E = E} letters (Ok (more, rest)) ≡ Ok (letters ++ more, rest)
letters_before [] more rest = refl
letters_before {E} (c ∷ letters) more rest = rw (letters_before {E = E} letters more rest) refl

pub letters_ok : {E : Type 0} (letters : List ℕ) (rest : Text) → with_letters {E = E} letters (Ok ([], rest)) ≡ Ok (letters, rest)
letters_ok [] rest = refl
letters_ok {E} (c ∷ letters) rest = rw (letters_ok {E = E} letters rest) refl

-- ---- code units that reading goes over

plain_faithful : (xs ys : List ℕ) → map Plain xs ≡ map Plain ys → xs ≡ ys
plain_faithful [] [] h = refl
plain_faithful [] (y ∷ ys) h = absurd cc
plain_faithful (x ∷ xs) [] h = absurd cc
plain_faithful (x ∷ xs) (y ∷ ys) h = let e : xs ≡ ys = plain_faithful xs ys cc in cc

module _ {E : Type 0} where
  -- The code units of the text lead from one run to another.
  pub record IsOver (run next : Text → Read E (List ℕ)) (text : Text) : Type 0 where
    pub letters : List ℕ
    pub is : text ≡ map Plain letters
    pub over : (rest : Text) → run (text ++ rest) ≡ with_letters letters (next rest)

  pub over_one : {run next : Text → Read E (List ℕ)} (c : ℕ) → ((rest : Text) → run (Plain c ∷ rest) ≡ with_letter c (next rest)) → IsOver run next (Plain c ∷ [])
  over_one c h = record { letters = c ∷ []; is = refl; over = h }

  pub over_both : {run last : Text → Read E (List ℕ)} {first second : Text} (next : Text → Read E (List ℕ)) → IsOver run next first → IsOver next last second
      → IsOver run last (first ++ second)
  over_both {last} {second} next a b = record {
    letters = a.letters ++ b.letters;
    is = rw (a.is, b.is) (sym (map-append Plain a.letters b.letters));
    over = λ rest. rw append_assoc (a.over (second ++ rest) ∙ rw (b.over rest) (steps_both with_letter a.letters b.letters (last rest)));
  }

  pub over_many : {run : Text → Read E (List ℕ)} {shape : Shape} → ((text : Text) → shape text → IsOver run run text) → (parts : List Text) (text : Text)
      → Joined shape parts text → IsOver run run text
  over_many each [] text h = record { letters = []; is = h; over = λ rest. rw h refl }
  over_many each (part ∷ parts) text h = rw h.1 (over_both _ (each part h.2) (over_many each parts h.0 h.3))

  -- A complete run is read. The next lemma says that a fault after it is returned.
  pub over_ok : {run next : Text → Read E (List ℕ)} {text : Text} (letters : List ℕ) (rest more : Text) → IsOver run next text → text ≡ map Plain letters
      → next rest ≡ Ok ([], more) → run (text ++ rest) ≡ Ok (letters, more)
  over_ok letters rest more o is h = rw (o.over rest, h, letters_ok {E = E} o.letters more, plain_faithful o.letters letters (sym o.is ∙ is))

  pub over_err : {run next : Text → Read E (List ℕ)} {text : Text} (rest : Text) (e : E) → IsOver run next text → next rest ≡ Err e → run (text ++ rest) ≡ Err e
  over_err rest e o h = rw (o.over rest, h) (letters_err o.letters e)
