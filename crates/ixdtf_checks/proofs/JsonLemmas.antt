-- The parts of an object of JSON, one after the other.
use Rattle.std.proofs.Common.{◌≡◌, ℕ, ◌+◌, ◌<◌, List, [], ◌∷◌, ◌++◌, length, take, drop, get_or, codes, Option, Result, Ok, sym, ap, subst, ◌∙◌, append_assoc}
use Rattle.std.proofs.lemmas.{Grind.flat_map-append, List.{append-nil, take_more, take-append-drop}}
use Rattle.std.specs.List.{flat_map}
use Rattle.ixdtf_buffers.specs.{declared.{error.RunError.RunError, output.Output.Output}, Lines.newline, Output.Puts}
use Rattle.ixdtf_buffers.proofs.OutputLemmas.{Puts-after}
use Rattle.ixdtf_checks.specs.{Json.{json_byte, json_hint, json_object, json_place, json_string}, Verdicts.Refusal}

pub escaped-parts : (bytes : List ℕ) (n : ℕ) → flat_map json_byte bytes ≡ flat_map json_byte (take n bytes) ++ flat_map json_byte (drop n bytes)
escaped-parts bytes n = sym (sym (flat_map-append json_byte (take n bytes) (drop n bytes)) ∙ ap (flat_map json_byte) (take-append-drop n bytes))

pub escaped-next : (bytes : List ℕ) (i d : ℕ) → i < length bytes
    → flat_map json_byte (take (i + 1) bytes) ≡ flat_map json_byte (take i bytes) ++ json_byte (get_or bytes i d)
escaped-next bytes i d inside = ap (flat_map json_byte) (take_more bytes i d inside) ∙ simp (flat_map-append, append-nil)

-- A string with three parts.
pub string-parts : (before shown after : List ℕ) → json_string (before ++ (shown ++ after))
    ≡ codes "\"" ++ (flat_map json_byte before ++ (flat_map json_byte shown ++ (flat_map json_byte after ++ codes "\"")))
string-parts before shown after =
    ap (λ (t : List ℕ). codes "\"" ++ t)
    (ap (λ (t : List ℕ). t ++ codes "\"") (flat_map-append json_byte before (shown ++ after) ∙ ap (λ (t : List ℕ). flat_map json_byte before ++ t) (flat_map-append json_byte shown after))
    ∙ append_assoc (flat_map json_byte before) (flat_map json_byte shown ++ flat_map json_byte after) (codes "\"")
    ∙ ap (λ (t : List ℕ). flat_map json_byte before ++ t) (append_assoc (flat_map json_byte shown) (flat_map json_byte after) (codes "\"")))

-- An object and a newline.
pub object-line : (name : List ℕ) (number : ℕ) (refusal : Refusal) (hint : Option (List ℕ)) →
    (codes "{\"file\":" ++ json_string name) ++ (json_place number refusal.column refusal.end
    ++ ((codes ",\"reason\":" ++ json_string refusal.reason) ++ (codes ",\"text\":" ++ (json_string refusal.message ++ (json_hint hint ++ codes "}\n")))))
    ≡ json_object name number refusal hint ++ newline ∷ []
object-line name number refusal hint =
    let file = codes "{\"file\":" ++ json_string name in
    let place = json_place number refusal.column refusal.end in
    let reason = codes ",\"reason\":" ++ json_string refusal.reason in
    let text = codes ",\"text\":" in
    sym (joined file place reason text (json_string refusal.message) (json_hint hint) (codes "}") (newline ∷ []))
  where
    joined : (a b c d e h f g : List ℕ) → (a ++ (b ++ (c ++ ((d ++ e) ++ (h ++ f))))) ++ g ≡ a ++ (b ++ (c ++ (d ++ (e ++ (h ++ (f ++ g))))))
    joined a b c d e h f g = simp (append_assoc)

-- The bytes are the same.
pub Puts-same : {K : Type 0} {contents : K → Option (List ℕ)} {failed : K → Type 0} {x y : Output K} {r : Result (Unit {0}) RunError} {xs ys : List ℕ}
    → xs ≡ ys → Puts contents failed x y r xs → Puts contents failed x y r ys
Puts-same {contents = contents} {failed = failed} {x = x} {y = y} {r = r} same puts = subst (λ (t : List ℕ). Puts contents failed x y r t) same puts

module _ {K : Type 0} {contents : K → Option (List ℕ)} {failed : K → Type 0} {x y z w : Output K} {r : Result (Unit {0}) RunError} where
  -- A quote and the first part of a string were written, and then the rest of the string.
  pub string_put : (before shown after : List ℕ) → Puts contents failed x y (Ok tt) (codes "\"") → Puts contents failed y z (Ok tt) (flat_map json_byte before)
      → Puts contents failed z w r (flat_map json_byte shown ++ (flat_map json_byte after ++ codes "\"")) → Puts contents failed x w r (json_string (before ++ (shown ++ after)))
  string_put before shown after quote first rest = Puts-same (sym (string-parts before shown after)) (Puts-after quote (Puts-after first rest))

  -- The first three parts of an object were written, and then the rest of the object.
  pub object_put : (name : List ℕ) (number : ℕ) (refusal : Refusal) (hint : Option (List ℕ)) {u : Output K} → Puts contents failed u x (Ok tt) (codes "{\"file\":" ++ json_string name)
      → Puts contents failed x y (Ok tt) (json_place number refusal.column refusal.end) → Puts contents failed y z (Ok tt) (codes ",\"reason\":" ++ json_string refusal.reason)
      → Puts contents failed z w r (codes ",\"text\":" ++ (json_string refusal.message ++ (json_hint hint ++ codes "}\n")))
      → Puts contents failed u w r (json_object name number refusal hint ++ newline ∷ [])
  object_put name number refusal hint file place reason rest =
      Puts-same (object-line name number refusal hint) (Puts-after file (Puts-after place (Puts-after reason rest)))
