use Rattle.ixdtf_print.proofs.check.is_name.Goals as goal
use Rattle.std.proofs.Common.{◌↔◌, ◌≡◌, List, ℕ, map, [], Result, Ok, Err, IsTrue, refl}
use Rattle.std.specs.Result.{is_ok}
use Rattle.ixdtf_grammar.specs.declared.error.ParseError.{ParseError}
use Rattle.ixdtf.specs.{Views.returned, language.{Languages.{Derives, Derives.as_named, Found.named}, Letters.{Text, Letter.Plain}}}
use Rattle.ixdtf.specs.language.{Readers.Reader.parse_iana_identifier, ZoneNames.{ZoneName, IsZoneName}}

name_of : (text : Text) (name : List ℕ) → Derives parse_iana_identifier text (named name) [] → IsZoneName text name
name_of text name (as_named h) = h

-- A name is derived if and only if the call returned one.
names : {X : Type 0} (view : X → List ℕ) (result : Result X ParseError) (units : List ℕ)
    → ((name : List ℕ) → (returned view result ≡ Ok name) ↔ Derives parse_iana_identifier (map Plain units) (named name) [])
    → IsTrue (is_ok result) ↔ ZoneName (map Plain units)
names view (Ok name) units h = (λ t. (name_of (map Plain units) (view name) ((h (view name)).0 refl)).0, λ z. refl)
names view (Err e) units h = (λ t. absurd cc, λ z. let wrong = (h units).1 (as_named (z, refl)) in absurd cc)

pub returns : goal.returns
returns c =
    let ok = rw c.from_utf8.ensures.rest at c.parse_iana_identifier.ensures.reads.ok in
    rw c.is_ok.ensures.value (names _ c.parse_iana_identifier.result c.args.name.now ok)
