use Rattle.ixdtf_print.proofs.wide_names.is_name.Goals as goal
use Rattle.std.proofs.Common.{◌↔◌, ◌≡◌, List, ℕ, map, [], Result, Ok, Err, IsTrue, refl, subst, sym}
use Rattle.std.specs.Result.{is_ok}
use Rattle.ixdtf_grammar.specs.declared.error.ParseError.{ParseError}
use Rattle.ixdtf.specs.{Views.returned, Widths.wide_text, language.{Languages.{Derives, Derives.as_named, Found.named}, Letters.{Text, Letter.Plain}}}
use Rattle.ixdtf.specs.language.{Readers.Reader.parse_iana_identifier, ZoneNames.{ZoneName, IsZoneName}}
use Rattle.ixdtf_print.proofs.theorems.WideTexts.{plain_wide_name, same_wide_name}

name_of : (text : Text) (name : List ℕ) → Derives parse_iana_identifier text (named name) [] → IsZoneName text name
name_of text name (as_named h) = h

derived : (units : List ℕ) → ZoneName (map Plain units) → Derives parse_iana_identifier (wide_text units) (named units) []
derived units z = let same = same_wide_name units z in as_named (subst ZoneName (sym same) z, same)

-- A name is derived if and only if the call returned one.
names : {X : Type 0} (view : X → List ℕ) (result : Result X ParseError) (units : List ℕ)
    → ((name : List ℕ) → (returned view result ≡ Ok name) ↔ Derives parse_iana_identifier (wide_text units) (named name) [])
    → IsTrue (is_ok result) ↔ ZoneName (map Plain units)
names view (Ok name) units h = (λ t. plain_wide_name units (name_of (wide_text units) (view name) ((h (view name)).0 refl)).0, λ z. refl)
names view (Err e) units h = (λ t. absurd cc, λ z. let wrong = (h units).1 (derived units z) in absurd cc)

pub returns : goal.returns
returns c =
    let ok = rw c.from_utf16.ensures.rest at c.parse_iana_identifier.ensures.reads.ok in
    rw c.is_ok.ensures.value (names _ c.parse_iana_identifier.result c.args.name.now ok)
