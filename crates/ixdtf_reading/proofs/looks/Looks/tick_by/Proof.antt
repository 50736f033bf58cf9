-- `tick_by` does nothing at run time. It adds its argument to the ghost field.
use Rattle.ixdtf_reading.specs.contracts.looks.Looks.tick_by as f
use Rattle.ixdtf_reading.proofs.looks.Looks.tick_by.Code as code
use Rattle.ixdtf_reading.proofs.code.WalkNames.{◌+◌, [], ◌∷◌, refl, proved, ftrue, flft, named, vunit, tables, ‵, ◌⊛◌, ◌$◌, ◌∵◌, !, qed, done, move, keep}
use Rattle.ixdtf_reading.proofs.code.WalkNames.{split, join, fsplit3, feq_i, suffices, frame, group, enter, of_opd, unit_lit, returns, alloc_all, pass_all}
use Rattle.ixdtf_reading.proofs.code.WalkNames.{free_all, look_at, sets, MutRef, mut_vals, mut_Tells, plain, nothing, opens, closes, Stays, walk_of, says}
use Rattle.ixdtf_reading.proofs.code.WalkNames.{stay_ref, Goes-ref, stay_dropped, Goes-dropped, uint_vals, uint_Tells, usize, w64, yes, ends_at}
use Rattle.ixdtf_reading.proofs.looks.Looks.tick_by.Statement.{statement}
use Rattle.ixdtf_reading.specs.contracts.looks.Looks.{the_row as R}

abbrev stayed : Stays f.ended.signature.params f.ended.kept
stayed = (stay_ref (0 ∷ []) tt (plain (λ _. R)), (stay_dropped (plain (λ _. usize)) yes, tt))

pub tick_by_spec : {M : Type 1} → statement M
tick_by_spec 𝓤 𝓛 𝓜 𝓡 wired =
    let c = f.clauses 𝓛 𝓜.mem 𝓡.returns in let W = walk_of 𝓛 f.ended stayed c in let 𝓣 = tables 𝓤 𝓛.H 𝓜 𝓡 𝓡.env in
    proved 𝓛 f.ended stayed c 𝓜 𝓡 (Goes-ref 𝓛 1 0 tt (plain (λ _. R)), (Goes-dropped 𝓛 1 (plain (λ _. usize)) yes (λ κs x w. refl), tt))
    f.Key.name code.function (code.unfolded 𝓤 𝓛.H 𝓜 𝓡 wired)
    (λ κs. (mut_vals, (uint_vals w64, tt))) (λ κs. (mut_Tells (named 0) κs.0 R, (uint_Tells w64, tt))) (λ κs qs bounds a _ are.
    let b = a.0.ref_ptr.0 in let o = a.0.ref_ptr.1 in let h = a.0.now in let more = record h { count = h.count + a.1.0 } in let vs = mut_vals a.0 in
    let ns = uint_vals w64 a.1.0 in
    let y : W.Ghost = ((κs, qs, bounds, a, (vs, (ns, tt))), tt) in
    qed 𝓛 (((‵ (flft κs.0 qs.0) ⊛ ‵ ftrue) ⊛ ‵ ((MutRef (named 0) κs.0 R).own_val a.0 vs) ⊛ ‵ (usize.own_val a.1.0 ns) ⊛ ‵ ftrue) ∷ ‵ ftrue ∷ []) ∵
    split ! $ split ! $ move ! (2 ∷ []) $ split ! $ keep ! (0 ∷ 2 ∷ []) $
    enter ! _ _ _ _ _ $ alloc_all ! (λ l. pass_all ! refl ((tt, tt), ((tt, record { fits = are.1.0.1 }), tt)) $
    fsplit3 ! $ move ! (1 ∷ 2 ∷ 3 ∷ []) $ opens ! tt R b o (λ us.
    move ! (0 ∷ 1 ∷ []) $ closes ! tt R more us b o $
    -- The context has the two parts of `self`, the token, and the first part of `self`.
    sets ! (of_opd ! (unit_lit !)) refl (tt, tt) $
    returns ! (look_at ! 0 refl) $ free_all ! refl $ move ! (3 ∷ []) $
    suffices ! _ (ends_at 𝓛 f.ended stayed c y vunit tt (more, (tt, tt)) (tt, (tt, tt))) $ says ! refl $
    group ! 3 $ nothing ! $ nothing ! $ join ! $ move ! (1 ∷ 0 ∷ []) $ join ! $ nothing ! $ move ! (2 ∷ 0 ∷ []) $ join ! $ frame ! $ frame ! $
    feq_i ! _ (vunit ∷ []) _ refl $ done !)))
