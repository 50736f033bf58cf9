-- A new count is a value of 0 bytes. Its ghost field is set to 0.
use Rattle.ixdtf_reading.specs.contracts.looks.Looks.none as f
use Rattle.ixdtf_reading.proofs.looks.Looks.none.Code as code
use Rattle.ixdtf_reading.proofs.code.WalkNames.{[], ◌∷◌, refl, proved, ftrue, Val, vstruct, vcons, vnil, ‵, raw, ◌$◌, ◌∵◌, !, qed, done, keep, suffices}
use Rattle.ixdtf_reading.proofs.code.WalkNames.{group, use0, enter, no_more, and_then, returns, agg, alloc_all, pass_all, free_all, look_at, get, sets}
use Rattle.ixdtf_reading.proofs.{code.WalkNames.{nothing, makes_shadow, on_entry, Stays, walk_of, says, ends_at}, looks.Looks.none.Statement.statement}
use Rattle.ixdtf_reading.specs.contracts.looks.Looks.{the_row as R}
use base.Fml.{Fml}

abbrev stayed : Stays f.ended.signature.params f.ended.kept
stayed = tt

pub none_spec : {M : Type 1} → statement M
none_spec 𝓤 𝓛 𝓜 𝓡 wired =
    let c = f.clauses 𝓛 𝓜.mem 𝓡.returns in let W = walk_of 𝓛 f.ended stayed c in
    proved 𝓛 f.ended stayed c 𝓜 𝓡 tt
    f.Key.name code.function (code.unfolded 𝓤 𝓛.H 𝓜 𝓡 wired)
    (λ κs. tt) (λ κs. tt) (λ κs qs bounds a _ are.
    let y : W.Ghost = ((κs, qs, bounds, a, tt), tt) in
    let v : Val = vstruct (vcons (vstruct vnil) vnil) in
    let O : Fml = R.own_val record { marker = record {}; count = 0 } (v ∷ []) in
    qed 𝓛 (raw (on_entry 𝓛 f.signature κs qs a y.0.4) ∷ ‵ ftrue ∷ []) ∵ keep ! [] $
    enter ! _ _ _ _ _ $ alloc_all ! (λ l. pass_all ! refl tt $
    sets ! (agg ! (no_more !)) refl (tt, tt) $ sets ! (agg ! (and_then ! (get ! refl) (no_more !))) refl (tt, (tt, tt)) $
    returns ! (look_at ! 0 refl) $ free_all ! refl $
    use0 𝓛 (‵ O) (makes_shadow 𝓛 O ((λ vss. (tt, ((λ uss. (tt, tt)), tt))), tt) (((vstruct vnil ∷ [], tt), (refl, ((tt, (refl, tt)), tt))), tt)) $
    suffices ! _ (ends_at 𝓛 f.ended stayed c y v record { marker = record {}; count = 0 } tt tt) $ says ! refl $
    nothing ! $ nothing ! $ group ! 3 $ done !))
