use Rattle.std.proofs.Common.{◌≡◌, ℕ, List, refl, sym, ◌∙◌, subst, All, IsTrue}
use Rattle.ixdtf.specs.Widths.{UnhandledOutcome, HasUnhandledOutcome, OneUnhandledOutcome, SameWhereShared, is_shared, wide_text, byte_text}
use Rattle.ixdtf.specs.Widths.UnhandledOutcome.{read_as, faulted}
use Rattle.ixdtf.specs.language.Languages.Found.{shifted}
use Rattle.ixdtf.specs.language.Readers.Reader.{parse_offset}
use Rattle.ixdtf.specs.table.Faults.{fault_of}
use Rattle.ixdtf_tests.proofs.tests.laws.gives_one_offset.Goals as goal

-- The outcomes for 8-bit and 16-bit text are the same.
one_outcome : OneUnhandledOutcome → SameWhereShared → (bytes units : List ℕ) → All (λ n. IsTrue (is_shared n)) bytes → units ≡ bytes
    → (narrow wide : UnhandledOutcome) → HasUnhandledOutcome parse_offset (byte_text bytes) narrow → HasUnhandledOutcome parse_offset (wide_text units) wide
    → narrow ≡ wide
one_outcome one same bytes units shared is narrow wide h g =
    let only = one parse_offset (wide_text bytes) in
    only.2 narrow ((same parse_offset bytes shared narrow).1 h) ∙ sym (only.2 wide (subst (λ t. HasUnhandledOutcome parse_offset (wide_text t) wide) is g))

pub returns-in-Ok-narrow : goal.returns-in-Ok-narrow
returns-in-Ok-narrow c shared is =
    let narrow = (c.in-Ok-narrow.ensures.reads.ok c.in-Ok-narrow.offset).0 refl in
    let wide = (c.in-Ok.ensures.reads.ok c.in-Ok.wide).0 refl in
    let outcomes = one_outcome c.widths_agree.ensures.one c.widths_agree.ensures.same c.args.bytes.now c.args.units.now shared is
    (read_as (shifted c.in-Ok-narrow.offset)) (read_as (shifted c.in-Ok.wide))
    (rw (← c.from_utf8.ensures.rest) narrow) (rw (← c.from_utf16.ensures.rest) wide) in
    let same : c.in-Ok-narrow.offset ≡ c.in-Ok.wide = cc in
    c.eq.ensures ∙ (c.equality_is_of_what_is_seen.ensures.offset.exact c.in-Ok-narrow.offset c.in-Ok.wide).1 same

pub returns-in-Err-narrow : goal.returns-in-Err-narrow
returns-in-Err-narrow c shared is =
    let wide = (c.in-Ok.ensures.reads.ok c.in-Ok.wide).0 refl in
    let outcomes = one_outcome c.widths_agree.ensures.one c.widths_agree.ensures.same c.args.bytes.now c.args.units.now shared is
    (faulted (fault_of c.in-Err-narrow.field-0)) (read_as (shifted c.in-Ok.wide))
    (rw (← c.from_utf8.ensures.rest) c.in-Err-narrow.ensures.reads.err) (rw (← c.from_utf16.ensures.rest) wide) in
    absurd cc

pub returns-in-Ok-narrow-2 : goal.returns-in-Ok-narrow-2
returns-in-Ok-narrow-2 c shared is =
    let narrow = (c.in-Ok-narrow-2.ensures.reads.ok c.in-Ok-narrow-2.field-0).0 refl in
    let outcomes = one_outcome c.widths_agree.ensures.one c.widths_agree.ensures.same c.args.bytes.now c.args.units.now shared is
    (read_as (shifted c.in-Ok-narrow-2.field-0)) (faulted (fault_of c.in-Err.wide))
    (rw (← c.from_utf8.ensures.rest) narrow) (rw (← c.from_utf16.ensures.rest) c.in-Err.ensures.reads.err) in
    absurd cc

pub returns-in-Err-narrow-2 : goal.returns-in-Err-narrow-2
returns-in-Err-narrow-2 c shared is =
    let outcomes = one_outcome c.widths_agree.ensures.one c.widths_agree.ensures.same c.args.bytes.now c.args.units.now shared is
    (faulted (fault_of c.in-Err-narrow-2.error)) (faulted (fault_of c.in-Err.wide))
    (rw (← c.from_utf8.ensures.rest) c.in-Err-narrow-2.ensures.reads.err) (rw (← c.from_utf16.ensures.rest) c.in-Err.ensures.reads.err) in
    let same : fault_of c.in-Err-narrow-2.error ≡ fault_of c.in-Err.wide = cc in
    c.eq-in-Err-narrow-2.ensures.equal.1 same
