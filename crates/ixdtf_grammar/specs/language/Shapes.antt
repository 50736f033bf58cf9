-- Shapes: a shape is a property of texts, such as "two digits and a hyphen".
use Rattle.std.specs.Prelude.{◌≡◌, ℕ, zero, suc, ◌<◌, IsTrue, ◌⊎◌, List, [], ◌∷◌, ◌++◌}
use Rattle.ixdtf_grammar.specs.language.Letters.{Text, Class, digit, Letter.Plain}

-- A shape says which texts have it.
abbrev pub Shape : Type 1
Shape = Text → Type 0

-- The text is empty.
abbrev pub nothing : Shape
nothing text = text ≡ []

-- The text is one code unit of the class.
abbrev pub one : Class → Shape
one class text = (c : ℕ) × (text ≡ Plain c ∷ []) × IsTrue (class c)

-- The text is a text of the first shape, followed by a text of the second shape.
infixr 30 ◌then◌
abbrev pub ◌then◌ : Shape → Shape → Shape
(a then b) text = (first second : Text) × (text ≡ first ++ second) × a first × b second

-- The text has the first shape or the second shape.
infixr 20 ◌either◌
abbrev pub ◌either◌ : Shape → Shape → Shape
(a either b) text = a text ⊎ b text

-- The text has exactly `n` digits, and nothing more.
abbrev pub digits : ℕ → Shape
digits zero text = text ≡ []
digits (suc n) text = (c : ℕ) × (rest : Text) × (text ≡ Plain c ∷ rest) × IsTrue (digit c) × digits n rest

-- The text has fewer than `n` digits, and nothing more.
abbrev pub fewer_digits_than : ℕ → Shape
fewer_digits_than n text = (count : ℕ) × (count < n) × digits count text

-- The text stands for some value.
abbrev pub some : {V : Type 0} → (Text → V → Type 0) → Shape
some {V} part text = (value : V) × part text value

-- The text consists of these parts, one after the other, and each part has the shape.
abbrev pub Joined : Shape → List Text → Shape
Joined shape [] text = text ≡ []
Joined shape (part ∷ parts) text = (rest : Text) × (text ≡ part ++ rest) × shape part × Joined shape parts rest

-- The text consists of any number of parts of the shape. It can be empty.
abbrev pub many : Shape → Shape
many shape text = (parts : List Text) × Joined shape parts text

-- Every text has this shape.
abbrev pub anything : Shape
anything text = Unit {0}
