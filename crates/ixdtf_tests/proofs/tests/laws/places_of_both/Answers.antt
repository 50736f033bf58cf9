use Rattle.std.proofs.Common.{◌≡◌, ℕ, List, sym, subst, All, IsTrue}
use Rattle.ixdtf.specs.Places.{UnhandledFaultAt, UnhandledOnlyPlace}
use Rattle.ixdtf.specs.Widths.{SamePlaceWhereShared, is_shared, wide_text, byte_text}
use Rattle.ixdtf.specs.language.Readers.{parse}
use Rattle.ixdtf.specs.table.Faults.{Fault}
use Rattle.ixdtf.specs.LocatedFaults.{fault_of_located}
use Rattle.ixdtf_tests.proofs.tests.laws.places_of_both.Goals as goal

-- The position in the bytes is that in the 16-bit code units.
one_place : SamePlaceWhereShared → (bytes units : List ℕ) → All (λ n. IsTrue (is_shared n)) bytes → units ≡ bytes → (narrow wide : Fault) (at there : ℕ)
    → UnhandledFaultAt parse (byte_text bytes) narrow at → UnhandledOnlyPlace parse (wide_text units) wide there → at ≡ there
one_place same bytes units shared is narrow wide at there h only =
    (only narrow at (subst (λ t. UnhandledFaultAt parse (wide_text t) narrow at) (sym is) ((same parse bytes shared narrow at).1 h))).1

pub returns-in-Err-parse_located : goal.returns-in-Err-parse_located
returns-in-Err-parse_located c shared is =
    one_place c.widths_agree.ensures.same_place c.args.bytes.now c.args.units.now shared is (fault_of_located c.in-Err.narrow)
    (fault_of_located c.in-Err-parse_located.wide) c.in-Err.narrow.at c.in-Err-parse_located.wide.at
    (rw (← c.from_utf8.ensures.rest) c.in-Err.ensures.reads.err) (rw (← c.from_utf16.ensures.rest) c.in-Err-parse_located.ensures.reads.place)
