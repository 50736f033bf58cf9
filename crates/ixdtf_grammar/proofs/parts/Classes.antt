-- Texts whose code units are all of one class.
use Rattle.std.proofs.Common.{nat_le, ℕ, zero, suc, IsTrue, List, [], ◌∷◌, ◌++◌, inl, inr}
use Rattle.ixdtf_grammar.specs.language.Letters.{Text, Class, Letter, digit, Letter.{Plain, Bad}}
use Rattle.ixdtf_grammar.specs.language.Shapes.{Shape, nothing, one, ◌then◌, ◌either◌, digits, some, Joined, many}

-- The class has the code units 0 to 127, which are those of ASCII.
abbrev pub ascii : Class
ascii c = nat_le c 127

-- The code unit is plain, and in the class.
abbrev pub IsOf : Class → Letter → Type 0
IsOf class (Plain c) = IsTrue (class c)
IsOf class Bad = ⊥

abbrev pub AllOf : Class → Shape
AllOf class [] = Unit {0}
AllOf class (c ∷ rest) = IsOf class c × AllOf class rest

pub all_append : (class : Class) (a b : Text) → AllOf class a → AllOf class b → AllOf class (a ++ b)
all_append class [] b h g = g
all_append class (c ∷ a) b h g = (h.0, all_append class a b h.1 g)

-- Every code unit of the first class is in the second class.
abbrev pub Within : Class → Class → Type 0
Within a b = (c : ℕ) → IsTrue (a c) → IsTrue (b c)

pub all_within : {a b : Class} → Within a b → (text : Text) → AllOf a text → AllOf b text
all_within within [] h = tt
all_within within (Bad ∷ text) h = absurd h.0
all_within within (Plain c ∷ text) h = (within c h.0, all_within within text h.1)

-- ---- shapes

-- Each text of the shape has only code units of the class.
pub record PlainOf (class : Class) (shape : Shape) : Type 0 where
  pub plain : (text : Text) → shape text → AllOf class text

pub plain_nowhere : {class : Class} → PlainOf class (λ text. ⊥)
plain_nowhere = record { plain = λ text h. absurd h }

pub plain_nothing : {class : Class} → PlainOf class nothing
plain_nothing = record { plain = λ text h. rw h tt }

pub one_of : {class a : Class} → Within a class → PlainOf class (one a)
one_of within = record { plain = λ text h. rw h.1 (within h.0 h.2, tt) }

infixr 30 ◌and_then◌
pub ◌and_then◌ : {class : Class} {a b : Shape} → PlainOf class a → PlainOf class b → PlainOf class (a then b)
(x and_then y) = record { plain = λ text h. rw h.2 (all_append _ h.0 h.1 (x.plain h.0 h.3) (y.plain h.1 h.4)) }

infixr 20 ◌or_else◌
pub ◌or_else◌ : {class : Class} {a b : Shape} → PlainOf class a → PlainOf class b → PlainOf class (a either b)
(x or_else y) = record {
  plain = λ text h. elim h [
    | inl p ↦ x.plain text p
    | inr p ↦ y.plain text p
  ];
}

pub all_digits : {class : Class} → Within digit class → (n : ℕ) (text : Text) → digits n text → AllOf class text
all_digits within zero text h = rw h tt
all_digits within (suc n) text h = rw h.2 (within h.0 h.3, all_digits within n h.1 h.4)

all_joined : {class : Class} {shape : Shape} → PlainOf class shape → (parts : List Text) (text : Text) → Joined shape parts text → AllOf class text
all_joined x [] text h = rw h tt
all_joined x (part ∷ parts) text h = rw h.1 (all_append _ part h.0 (x.plain part h.2) (all_joined x parts h.0 h.3))

pub plain_many : {class : Class} {shape : Shape} → PlainOf class shape → PlainOf class (many shape)
plain_many x = record { plain = λ text h. all_joined x h.0 text h.1 }

-- Each text that stands for a value has only code units of the class.
pub plain_some : {class : Class} {V : Type 0} {part : Text → V → Type 0} → ((text : Text) (value : V) → part text value → AllOf class text)
    → PlainOf class (some part)
plain_some h = record { plain = λ text s. h text s.0 s.1 }
