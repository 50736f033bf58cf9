-- The type of the error of a function that is generic in its error, given by the row of this type.
use Rattle.std.specs.contracts.result.Result
use Rattle.std.proofs.result.Result.TheLaws as result_laws
use Rattle.ixdtf_grammar.specs.contracts.records.IxdtfParseRecord
use Rattle.ixdtf_grammar.proofs.records.IxdtfParseRecord.TheLaws as record_laws
use lib.Dec.{T}
use Prim.Native.Nat.{ℕ, suc}
use mir.Syntax.{Ty}
use mir.Raw.{raw as bare}
use mir.Val.{Val, has_ty, WT}
use denote.Exit.{no}
use denote.Laws.{Is}
use denote.Param.{layout, arg}
use denote.Param.Laws.{Laws, param_laws, copied_laws, arg_laws}
use denote.Enum.Loose.{loose_lawful}
use types.Logic.{Logic}
use seplogic.Ra.Ura.{Ura}
-- The other names that a proof about such a function needs.
pub use mathlib.Core.Path.{◌≡◌, refl, subst}
pub use mathlib.Core.List.{[], ◌∷◌}
pub use mir.Syntax.{named}
pub use base.Logic.{sep, via, id⊢, fst∗, snd∗}
pub use base.Fml.{Lft}
pub use prog.Wp.{Tables}
pub use contract.BorrowLft.{⊑_refl, ⊑_static}
pub use contract.Lifetimes.{Lfts}
pub use contract.Monad.{fact, fact_use}
pub use contract.Running.{tables}
unfoldable pub use contract.Running.{tables_of}
pub use denote.RattleType.{RattleType, Denots}
pub use denote.Param.{param, copied}
pub use denote.Ref.{NamedLft}
pub use denote.Signature.{types_at}
pub use denote.Triple.Impl.{implements, insides_in, with_fact}
pub use denote.Triple.Spec.{SpecAt}
pub use denote.Triple.Table.{run_framed}
pub use Rattle.ixdtf.proofs.code.HandsOn.{hands_on}

-- The claim under which such a function has its bound, made from the claim under which its caller has it.
abbrev pub Under : (n : ℕ) → (Lfts 5 → Type 0) → Lfts (suc (suc n)) → Type 0
Under n P κs = (τs : Lfts 5) × P τs × (τs.1.0 ≡ κs.1.0)

module _ (Error : RattleType) where
  abbrev pub written : Ty
  written = bare (layout Error)

  -- The error, as such a function takes it.
  abbrev pub taken : RattleType
  taken = arg written no Error

  pub taken_laws : Laws Error → bare written ≡ written → Laws taken
  taken_laws error_laws is = arg_laws written no Error error_laws is

  -- The result is a record or this error. The numbers are those of the encoding and of its code unit among the types.
  module _ (at : NamedLft) (i j : ℕ) (T' U : RattleType) where
    abbrev pub RecordRow : RattleType
    RecordRow = IxdtfParseRecord.the_row at (param i T') (copied j U)

    abbrev pub Got : RattleType
    Got = Result.the_row RecordRow Error

    pub lands : Laws Error → Laws T' → Laws U → {M : Type 1} {𝓤 : Ura M} (𝓛 : Logic 𝓤) (x : Got.Denot) (r : Val) → Is Got x (r ∷ [])
        → T (has_ty (layout Got) r) × WT r
    lands error_laws LT LU 𝓛 x r is =
        let record_is = record_laws.the_row_laws at (param i T') (copied j U) (param_laws i T' LT) (copied_laws j U LU) in
        ((loose_lawful (Result.the_type RecordRow Error) (result_laws.the_loose RecordRow Error record_is error_laws) tt 𝓛).typed x (r ∷ []) is).0
