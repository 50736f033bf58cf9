-- A function meets the contract of its callee if it only passes its two arguments to the callee and has the same contract. The
-- first argument is a reference, which the function borrows again. The second argument can have any type.
use mathlib.Core.Path.{sym, subst, refl}
use mathlib.Core.List.{List, [], ◌∷◌, ◌++◌}
use Prim.Native.Nat.{ℕ}
use lib.Dec.{T}
use seplogic.Ra.Ura.{Ura}
use mir.Syntax.{Ty, ty_ref, mut, Lifetime, local, value_local, place, deref, addr_of, rv_opd, copy, assign, call, seq, return, Callee, Fn, Kind}
use mir.Val.{Val, vptr, has_ty, WT}
use base.Logic.{SProp, ent, sep, ex, ex_i, via, id⊢, fst∗, snd∗}
use prog.Wp.{WpFn, Tables, Closed}
use types.Logic.{Logic, sem}
use types.Kit.{‵, raw, ◌⊛◌, some, later, ◌$◌, ◌∵◌, !, qed, done, move, use1, split, join, pick, suffices, await}
use types.Run.{stop, addr, no_more, and_then, of_opd, returns, enter}
use types.ByLocal.{alloc_all, pass_all, free_all, look_at, get, through, sets, lands_as}
use contract.Lifetimes.{Lfts, Outlives}
use contract.Monad.{fact_use}
use sound.WpLaws.{fm_of}
use denote.RattleType.{RattleType, owns}
use denote.Laws.{Is, Are, Ises, shows, owns_show, showss}
use denote.Param.{layout, param}
use denote.Param.Laws.{Laws, param_laws}
use denote.Param.Steps.{one_value}
use denote.Signature.{Signature, plain, mut_ref_to, types_at}
use denote.Steps.{peeks}
use denote.Triple.Call.{calls_at}
use denote.Triple.Entry.{on_entry, alive}
use denote.Triple.Spec.{triple_of, Spec}
use denote.Triple.Statement.{Triple}
use denote.Triple.Table.{entered}

-- The parts of such a function beside its second argument: the lifetimes and types in its MIR, and its callee.
pub record Handing : Type 0 where
  pub lifetimes : ℕ
  pub outlives : List (ℕ × ℕ)
  pub ty_params : List Kind
  pub givens : ℕ
  pub result : Ty
  pub held : Ty
  pub lent : Ty
  pub at : Ty
  pub lifetime : Lifetime
  pub again : Lifetime
  pub callee : Callee

abbrev pub handing_on : Handing → Ty → Fn
handing_on h second = record {
  lifetimes = h.lifetimes;
  outlives = h.outlives;
  ty_params = h.ty_params;
  givens = h.givens;
  params = 2;
  locals = local h.result value_local ∷ local (ty_ref h.lifetime mut h.held) value_local ∷ local second value_local ∷ local (ty_ref h.again mut h.lent)
      value_local ∷ local second value_local ∷ [];
  body = seq (assign (place 3 []) (addr_of (place 1 (deref h.at ∷ []))))
      (seq (assign (place 4 []) (rv_opd (copy (place 2 [])))) (seq (call h.callee (copy (place 3 []) ∷ copy (place 4 []) ∷ []) (place 0 [])) return));
}

-- The signature of such a function: the type behind the reference, the second argument by its number among the types, and the result.
module _ (bounds : List (Outlives 5)) (Held : Lfts 5 → RattleType) (number : ℕ) (F : RattleType) (Got : Lfts 5 → RattleType) where
  abbrev pub handing : Signature
  handing = record { lifetimes = 5; outlives = bounds; params = mut_ref_to (0 ∷ []) tt (plain Held) ∷ plain (λ κs. param number F) ∷ []; result = plain Got }

  module _ {M : Type 1} {𝓤 : Ura M} (𝓛 : Logic 𝓤) (𝓣 : Tables 𝓤 𝓛.H) (c : Spec 𝓤 handing) where
    -- The result has the type of the MIR place that takes it.
    abbrev pub Lands : Ty → Type 0
    Lands result = (κs : Lfts 5) (x : (Got κs).Denot) (r : Val) → Is (Got κs) x (r ∷ []) → T (has_ty result r) × WT r

    pub hands_on : Laws F → (h : Handing) (here : Callee) → Lands h.result → Closed 𝓤 𝓛.H 𝓣.C 𝓣.Λ here (handing_on h (layout F))
        → Triple 𝓤 (𝓣.C h.callee) (triple_of 𝓛 handing c) → Triple 𝓤 (𝓣.C here) (triple_of 𝓛 handing c)
    hands_on L h here lands closed met =
        let body : Fn = handing_on h (layout F) in
        entered 𝓤 𝓛.H (triple_of 𝓛 handing c) 𝓣.C 𝓣.Λ here body closed
        (λ z.
        let C = triple_of 𝓛 handing c in
        let a = z.0.3 in
        let vss = z.0.4 in
        let Rs : List RattleType = types_at handing.params z.0.0 in
        let entry : SProp 𝓤 = on_entry 𝓛 handing z.0.0 z.0.1 a vss in
        let At : List Val → List Val → C.Ghost = λ us xs. ((z.0.0, z.0.1, z.0.2, z.0.3, (us, (xs, tt))), z.1) in
        let Goes : List Val → List Val → Type 1 = λ us xs. ent 𝓤 (C.pre (At us xs)) (WpFn 𝓤 𝓛.H 𝓣.C 𝓣.Λ body (us ++ (xs ++ [])) (C.post (At us xs))) in
        let Here : RattleType = Got z.0.0 in
        let p : Val = vptr a.0.ref_ptr.0 a.0.ref_ptr.1 in
        fact_use 𝓤 (Are Rs (Ises Rs) a vss) (via 𝓤 (sem 𝓛 (owns Rs a vss))
        (via 𝓤 entry (fst∗ 𝓤 entry ((c z.0.0 a).requires z.1)) (snd∗ 𝓤 (alive 𝓛 handing z.0.0 z.0.1) (sem 𝓛 (owns Rs a vss))))
        (owns_show 𝓛 Rs (Ises Rs) (showss 𝓛 Rs) a vss)) (λ are.
        subst (λ us. Goes us vss.1.0) (sym are.0.0)
        (one_value (layout F) (λ xs. Goes (p ∷ []) xs) vss.1.0 (((param_laws number F L).lawful 𝓛).typed a.1.0 vss.1.0 are.1.0) (λ w gw.
        let y : C.Ghost = At (p ∷ []) (w ∷ []) in
        qed 𝓛 (raw (C.pre y) ∷ []) ∵ enter ! 𝓣.C 𝓣.Λ body (p ∷ w ∷ []) _ $
        alloc_all ! (λ l. pass_all ! refl ((tt, tt), (gw, tt)) $
        sets ! (addr ! (through ! refl (stop !))) refl (tt, tt) $ sets ! (of_opd ! (get ! refl)) refl gw $
        calls_at ! (fm_of 𝓤 𝓛.H 𝓛.laws 𝓣) C met y (and_then ! (get ! refl) (and_then ! (get ! refl) (no_more !))) (λ r.
        let own : Here.Denot → SProp 𝓤 = λ x. sem 𝓛 (Here.own_val x (r ∷ [])) in
        let after : Here.Denot → SProp 𝓤 = λ x. sep 𝓤 (sep 𝓤 (alive 𝓛 handing z.0.0 z.0.1) (own x)) ((c z.0.0 a).ensures z.1 x) in
        use1 𝓛 (later (some (λ x. (raw (alive 𝓛 handing z.0.0 z.0.1) ⊛ ‵ (Here.own_val x (r ∷ []))) ⊛ raw ((c z.0.0 a).ensures z.1 x)))) (id⊢ 𝓤 (C.post y r)) $
        await ! tt $ pick ! (λ x. split ! $ split ! $ move ! (1 ∷ []) $
        peeks ! Here (Is Here) (shows 𝓛 Here) x (r ∷ []) (λ is.
        lands_as ! refl refl (lands z.0.0 x r is) $
        returns ! (look_at ! 0 refl) $ free_all ! refl $
        suffices ! (after x) (via 𝓤 (ex 𝓤 after) (ex_i 𝓤 after x) (𝓛.laws.⇛_intro (ex 𝓤 after))) $ move ! (1 ∷ 0 ∷ []) $ join ! $ done !))))))))
