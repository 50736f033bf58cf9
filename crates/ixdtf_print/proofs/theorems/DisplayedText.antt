-- The canonical text of a record that has a text is ASCII, so it is displayed as it is.
use Rattle.std.proofs.Common.{◌≡◌, Bool, IsTrue, true, false, cond, List, ℕ, [], ◌∷◌, ◌++◌, map, refl, sym, ◌∙◌, ap, arith, subst}
use Rattle.std.proofs.lemmas.{Str.encode_ascii, Bool.Decides.nat_tests}
use Rattle.ixdtf.specs.language.{Letters.{Text, wide_letter, Letter.{Plain, Bad}}, Readers.{CoreKind, has_exact_zones, CoreKind.date_time}, Languages.Parsed}
use Rattle.ixdtf.specs.Widths.{is_shared, wide_text}
use Rattle.ixdtf_grammar.proofs.parts.Classes.{ascii, AllOf, Within, all_append, all_within}
use Rattle.ixdtf_grammar.proofs.{theorems.CoreEnds.core_inside, widths.PlainTexts.{core_ascii, tail_ascii}}
use Rattle.ixdtf_print.specs.{Canonical.canonical_text, Shown.{bytes_of, shown_text}, Spelled.IsSpelled}
use Rattle.ixdtf_print.proofs.{parts.ParsedParts.HasParts, theorems.ReadBack.canonical_reads_back}

pub ascii_of : (kind : CoreKind) (text : Text) (found : Parsed) → HasParts kind text found → AllOf ascii text
ascii_of kind text found h =
    let core = all_within core_ascii h.cores (core_inside kind h.cores h.core h.is_core) in
    let tail = tail_ascii (has_exact_zones kind) (h.zones ++ h.pair_texts) h.zone h.pairs (h.zones, h.pair_texts, refl, h.is_bracket, h.are_pairs) in
    rw h.is (all_append ascii h.cores _ core tail)

pub shown_as_it_is : (text : Text) → AllOf ascii text → map Plain (bytes_of text) ≡ text
shown_as_it_is [] h = refl
shown_as_it_is (Bad ∷ rest) h = absurd h.0
shown_as_it_is (Plain c ∷ rest) h =
    let first : bytes_of (Plain c ∷ rest) ≡ c ∷ bytes_of rest = ap (λ l. l ++ bytes_of rest) (encode_ascii c (grind (arith, nat_tests, h.0))) in
    ap (λ (l : List ℕ). map Plain l) first ∙ ap (λ t. Plain c ∷ t) (shown_as_it_is rest h.1)

pub shared_ascii : Within is_shared ascii
shared_ascii c h = grind (arith, nat_tests, h)

one_letter : (n : ℕ) → IsTrue (is_shared n) → wide_letter n ≡ Plain n
one_letter n = by_test (is_shared n)
  where
    by_test : (b : Bool) → IsTrue b → cond b (Plain n) Bad ≡ Plain n
    by_test true h = refl
    by_test false h = absurd cc

pub same_letters : (units : List ℕ) → AllOf is_shared (map Plain units) → wide_text units ≡ map Plain units
same_letters [] h = refl
same_letters (n ∷ units) h =
    ap (λ letter. letter ∷ wide_text units) (one_letter n h.0) ∙ ap (λ text. Plain n ∷ text) (same_letters units h.1)

-- Code units from 1 to 126 are the same text in 8-bit and in 16-bit text.
pub same_in_both : (units : List ℕ) (text : Text) → AllOf is_shared text → map Plain units ≡ text → wide_text units ≡ text
same_in_both units text h is = same_letters units (subst (AllOf is_shared) (sym is) h) ∙ is

-- The bytes that `Display` writes for a record that has a text are those of its canonical text.
pub shown_is_canonical : (found : Parsed) → IsSpelled found → map Plain (shown_text found) ≡ canonical_text found
shown_is_canonical found h = shown_as_it_is (canonical_text found) (ascii_of date_time (canonical_text found) found (canonical_reads_back found h))
