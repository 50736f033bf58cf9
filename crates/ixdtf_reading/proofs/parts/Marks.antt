-- An optional hyphen before digits. A hyphen is consumed, and a digit is not. The other direction is also proved.
use Rattle.std.proofs.Common.{◌≡◌, ℕ, zero, suc, ◌<◌, ◌⊎◌, Bool, true, false, IsTrue, IsFalse, [], ◌∷◌, ◌++◌, Ok, Err, refl, sym, ◌∙◌, inl, inr, arith}
use Rattle.std.proofs.{Common.{append_assoc, if◌then◌else◌}, lemmas.Bool.{or_right, both_ways, eqb-true, Decides.nat_tests}}
use Rattle.ixdtf_grammar.specs.{language.{Letters.{Text, ◌or◌, digit, hyphen, Letter.Plain}, Shapes.{one, digits}, Months.OptionalHyphen}, table.Faults.Fault}
use Rattle.ixdtf_grammar.specs.table.{LineNames.LineName, Lines.{Line, line_of, Line.line, Ending.error}, Rows.{Row, Place, Stops, Place.{end, other, bad}}}
use Rattle.ixdtf_grammar.specs.table.Rows.Place.{anywhere}
use Rattle.ixdtf_reading.specs.reading.Looks.{Read, ◌>>=◌, row_of, mark_by, mark_at, letter_at, digits_at}
use Rattle.ixdtf_reading.proofs.parts.Looks.{OnRead, Looks, Goes, LooksFor, goes_with, went_with, looks_for, StopsHere, DigitsStop, then_read, read_weaker}
use Rattle.ixdtf_reading.proofs.parts.Looks.{goes, stops, read_letter, ReadsOver, Halts, digits_go, digits_stop, one_as_digits}

-- A hyphen, or nothing.
abbrev pub hyphens_of : Bool → Text
hyphens_of true = Plain 45 ∷ []
hyphens_of false = []

-- If there is no hyphen, a digit is next.
abbrev pub Starts : Bool → Text → Type 0
Starts true text = Unit {0}
Starts false text = (c : ℕ) × (rest : Text) × (text ≡ Plain c ∷ rest) × IsTrue (digit c)

-- One digit of two. After a hyphen, there can also be no digit.
abbrev pub Begun : Bool → Text → Type 0
Begun true ds = (ds ≡ []) ⊎ one digit ds
Begun false ds = one digit ds

-- The line accepts a hyphen, or each digit.
abbrev pub GoesOver : Line → Bool → Type 0
GoesOver l true = Goes l 45
GoesOver l false = (c : ℕ) → IsTrue (digit c) → Goes l c

digit_no_hyphen : (c : ℕ) → IsTrue (digit c) → IsFalse (hyphen c)
digit_no_hyphen c h = grind (arith, nat_tests)

-- ---- shapes

pub optional : (b : Bool) → OptionalHyphen (hyphens_of b)
optional true = inr (45, refl, refl)
optional false = inl refl

pub hyphen_is : (hs : Text) → one hyphen hs → hs ≡ hyphens_of true
hyphen_is hs h = h.1 ∙ rw (eqb-true h.0 45 h.2) refl

pub begun_starts : (b : Bool) (ds rest : Text) → Begun b ds → Starts b (ds ++ rest)
begun_starts true ds rest h = tt
begun_starts false ds rest h = (h.0, rest, rw h.1 refl, h.2)

pub digits_start : (b : Bool) (n : ℕ) (ds rest : Text) → digits (suc n) ds → Starts b (ds ++ rest)
digits_start true n ds rest h = tt
digits_start false n ds rest h = (h.0, h.1 ++ rest, rw h.2 refl, h.3)

-- ---- lines that accept a hyphen or a digit

goes_over : (l : Line) (b : Bool) → LooksFor (hyphen or digit) l → GoesOver l b
goes_over l true asks = goes_with (hyphen or digit) l 45 asks refl
goes_over l false asks = λ c h. goes_with (hyphen or digit) l c asks (or_right _ _ h)

-- ---- a line that accepts digits has no row at a digit

no_stop : (l : Line) (c : ℕ) (place : Place) (e : Fault) (text rest : Text) → LooksFor digit l → text ≡ Plain c ∷ rest → IsTrue (digit c)
    → Stops l place e text → ⊥
no_stop (line front goes_on (error d) at_other) c (end left) e text rest same is h at = absurd cc
no_stop (line front goes_on (error d) at_other) c (other left) e text rest same is h at =
    let letter : c ≡ at.0 = cc in both_ways (goes_on c) (rw letter at.3) (same c ∙ h)
no_stop (line front goes_on (error d) at_other) c (bad left) e text rest same is h at = absurd cc
no_stop (line front goes_on (error d) at_other) c (anywhere left) e text rest same is h at = at
no_stop other_line c place e text rest same is h at = absurd same

-- If two digits are expected and the first is present, the row fits after it.
pub stops_after : (b : Bool) (name : LineName) (text : Text) (row : Row) → LooksFor digit (line_of true name) → Starts b text → DigitsStop name 2 text row
    → (ds rest : Text) × (text ≡ ds ++ rest) × Begun b ds × StopsHere name rest row
stops_after b name text row asks starts g = go b g.0 g.1 g.5 starts
  where
    go : (b : Bool) (k : ℕ) → k < 2 → digits k g.2 → Starts b text → (ds rest : Text) × (text ≡ ds ++ rest) × Begun b ds × StopsHere name rest row
    go true zero less h starts = (g.2, g.3, g.4, inl h, g.6)
    go true (suc zero) less h starts = (g.2, g.3, g.4, inr (h.0, rw h.4 at h.2, h.3), g.6)
    go false zero less h starts =
        absurd (no_stop _ starts.0 row.place row.error g.3 starts.1 asks (sym (rw h at g.4) ∙ starts.2) starts.3 g.6.1)
    go false (suc zero) less h starts = (g.2, g.3, g.4, (h.0, rw h.4 at h.2, h.3), g.6)
    go b (suc (suc k)) less h starts = absurd (omega arith)

-- ---- the mark

module _ {E : Type 0} (fault : Row → E) (name : LineName) where
  pub mark_over : (b : Bool) (text : Text) → Looks (line_of true name) → GoesOver (line_of true name) b → Starts b text
      → mark_at fault name hyphen (hyphens_of b ++ text) ≡ Ok (b, text)
  unfolding mark_by
  mark_over true text looks h starts = rw (goes fault name 45 text looks h) refl
  mark_over false text looks h starts = rw (starts.2, goes fault name starts.0 starts.1 looks (h starts.0 starts.3), digit_no_hyphen starts.0 starts.3) refl

  pub hyphen_over : (b : Bool) (text : Text) → LooksFor (hyphen or digit) (line_of true name) → Starts b text
      → mark_at fault name hyphen (hyphens_of b ++ text) ≡ Ok (b, text)
  hyphen_over b text asks starts = mark_over b text (looks_for (hyphen or digit) (line_of true name) asks) (goes_over (line_of true name) b asks) starts

  pub mark_stops : (place : Place) (e : Fault) (rest : Text) → Looks (line_of true name) → Stops (line_of true name) place e rest
      → mark_at fault name hyphen rest ≡ Err (fault (row_of name place e))
  unfolding mark_by
  mark_stops place e rest looks at = rw (stops fault name place e rest looks at) refl

  -- The text before and after the mark was read: a hyphen, or another code unit that the line accepts.
  abbrev pub Stood : Text → Bool → Text → Type 0
  Stood text true rest = (text ≡ Plain 45 ∷ rest) × Goes (line_of true name) 45
  Stood text false rest = (text ≡ rest) × (c : ℕ) × (more : Text) × (rest ≡ Plain c ∷ more) × Goes (line_of true name) c × IsFalse (hyphen c)

  pub mark_read : (text : Text) → Looks (line_of true name) → OnRead fault (mark_at fault name hyphen text) (Stood text) (StopsHere name text)
  unfolding mark_by
  mark_read text looks = then_read fault (letter_at fault name text) _ _ _ _ _ (read_letter fault name text looks)
      (λ c rest h. by_letter c rest h.0 h.1 (hyphen c) refl)
      (λ row h. h)
    where
      by_letter : (c : ℕ) (rest : Text) → text ≡ Plain c ∷ rest → Goes (line_of true name) c → (b : Bool) → hyphen c ≡ b
          → Stood text b (if b then rest else text)
      by_letter c rest is h true same = let letter : c ≡ 45 = eqb-true c 45 same in (is ∙ rw letter refl, rw letter at h)
      by_letter c rest is h false same = (refl, c, rest, is, h, same)

  -- A hyphen or none was read, if the line accepts a hyphen or a digit.
  pub hyphen_read : (text : Text) → LooksFor (hyphen or digit) (line_of true name)
      → OnRead fault (mark_at fault name hyphen text) (λ b rest. (text ≡ hyphens_of b ++ rest) × Starts b rest) (StopsHere name text)
  hyphen_read text asks = read_weaker fault _ _ _ _ _ (mark_read text (looks_for (hyphen or digit) (line_of true name) asks)) by_mark
      (λ row h. h)
    where
      by_mark : (b : Bool) (rest : Text) → Stood text b rest → (text ≡ hyphens_of b ++ rest) × Starts b rest
      by_mark true rest h = (h.0, tt)
      by_mark false rest h =
          let went = went_with (hyphen or digit) (line_of true name) h.1 asks h.4 in (h.0, (h.1, h.2, h.3, grind (arith, nat_tests, went, h.5)))

  -- Fewer than two digits follow the mark.
  pub digits_stop_after : (b : Bool) (ds rest : Text) (place : Place) (e : Fault) → LooksFor digit (line_of true name) → Begun b ds
      → Stops (line_of true name) place e rest → digits_at fault name 2 (ds ++ rest) ≡ Err (fault (row_of name place e))
  digits_stop_after true ds rest place e asks (inl h) at = digits_stop fault name asks 2 0 ds rest place e (omega arith) h at
  digits_stop_after true ds rest place e asks (inr h) at = digits_stop fault name asks 2 1 ds rest place e (omega arith) (one_as_digits ds h) at
  digits_stop_after false ds rest place e asks h at = digits_stop fault name asks 2 1 ds rest place e (omega arith) (one_as_digits ds h) at

-- ---- a mark and two digits after it

module _ {E A : Type 0} (fault : Row → E) (mark : Text → Read E Bool) (name : LineName) (asks : LooksFor digit (line_of true name))
    (go : Bool → Text × Text → Read E A) where
  -- Reads a mark, two digits, and what follows from them.
  abbrev marked : Text → Read E A
  marked text = mark text >>= λ b. digits_at fault name 2 b.1 >>= go b.0

  module _ (b : Bool) (marks : Text) (over : (text : Text) → Starts b text → mark (marks ++ text) ≡ Ok (b, text)) where
    pub two_digits_over : (ds : Text) → digits 2 ds → ReadsOver marked (marks ++ ds) (λ rest. go b (ds, rest))
    two_digits_over ds h =
        record { over = λ rest. rw (append_assoc, over (ds ++ rest) (digits_start b 1 ds rest h), digits_go fault name asks 2 ds rest h) refl }

    pub two_digits_stop : (ds rest : Text) (place : Place) (e : Fault) → Begun b ds → Stops (line_of true name) place e rest
        → Halts marked (marks ++ ds) rest (fault (row_of name place e))
    two_digits_stop ds rest place e h at = record {
      reads_to = rw (append_assoc, over (ds ++ rest) (begun_starts b ds rest h), digits_stop_after fault name b ds rest place e asks h at) refl;
    }
