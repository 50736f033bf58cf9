-- The function only passes its arguments on to `parse_unanswered_as`, with the public error. This proof assumes `Logic`.
use denote.Param.Members as Members
use Rattle.ixdtf_grammar.specs.contracts.error.ParseError
use Rattle.ixdtf_grammar.proofs.error.ParseError.TheLaws as error_laws
use Rattle.ixdtf.specs.contracts.parsers.IxdtfParser
use Rattle.ixdtf_reading.specs.contracts.stop.ParseErrorFromStop.TheImpl as raises
use Rattle.ixdtf_reading.proofs.stop.ParseErrorFromStop.TheImpl.Met as raises_met
use Rattle.ixdtf.specs.contracts.laws.parse_unanswered as R
use Rattle.ixdtf.specs.contracts.laws.parse_unanswered_as as G
use Rattle.ixdtf.specs.contracts.laws.parse_unanswered_as.F-FnMut as GM
use Rattle.ixdtf.specs.contracts.laws.parse_unanswered_as.F-FnOnce as GO
use Rattle.ixdtf.proofs.laws.parse_unanswered_as.Met as G_met
use Rattle.ixdtf.proofs.laws.parse_unanswered.Statement as stated
use Rattle.ixdtf.proofs.laws.parse_unanswered.Code as code
use Rattle.ixdtf.proofs.code.RaisedErrors.{refl, subst, named, sep, via, id⊢, fst∗, snd∗, Lft, Tables, ⊑_refl, ⊑_static, Lfts, fact, fact_use, tables}
use Rattle.ixdtf.proofs.code.RaisedErrors.{tables_of, Denots, param, copied, NamedLft, types_at, implements, insides_in, with_fact, SpecAt, run_framed, hands_on, taken}
use Rattle.ixdtf.proofs.code.RaisedErrors.{taken_laws, Under, Got, lands}

pub parse_unanswered_spec : {M : Type 1} → stated.statement M
unfolding tables_of
parse_unanswered_spec {M} 𝓤 𝓛 𝓜 𝓡 wired T' F U LT LF LU cU g₀ d₀ gₛ dₛ gₑ dₑ g₁ d₁ gₕ dₕ g₂ d₂ g₃ d₃ gᵢ dᵢ g d d' d'' P b₀ bₛ bₑ b₁ bₕ b₂ b₃ bᵢ b b' b'' =
    let 𝓣 : Tables 𝓤 𝓛.H = tables_of 𝓤 𝓛.H 𝓜 (tables 𝓤 𝓛.H 𝓜 𝓡 𝓡.env) in
    let Q = Under 4 P in
    let E = taken ParseError.the_row in
    -- The error names no lifetime, so any token fits.
    let f : Lfts 5 → Lfts 6 = λ τs. (τs.0, (τs.1.0, (τs.1.1.0, (τs.1.0, (τs.1.1.1.0, (τs.1.1.1.1.0, tt)))))) in
    let S = R.signature T' F U g₀ d₀ gₛ dₛ gₑ dₑ g₁ d₁ gₕ dₕ g₂ d₂ g₃ d₃ gᵢ dᵢ g d d' d'' P in
    let S' = G.signature T' E F U g₀ d₀ gₛ dₛ gₑ dₑ g₁ d₁ gₕ dₕ g₂ d₂ g₃ d₃ gᵢ dᵢ raises.ghosts raises.dict g d d' d'' Q in
    let c = R.spec T' F U g₀ d₀ gₛ dₛ gₑ dₑ g₁ d₁ gₕ dₕ g₂ d₂ g₃ d₃ gᵢ dᵢ g d d' d'' P 𝓛 𝓜.mem 𝓡.returns in
    let k = G.spec T' E F U g₀ d₀ gₛ dₛ gₑ dₑ g₁ d₁ gₕ dₕ g₂ d₂ g₃ d₃ gᵢ dᵢ raises.ghosts raises.dict g d d' d'' Q 𝓛 𝓜.mem 𝓡.returns in
    let asked = λ (τs : Lfts 5) (a : Denots (types_at S'.params (f τs))).
    sep 𝓤 (R.requires-callable T' F U g₀ d₀ gₛ dₛ gₑ dₑ g₁ d₁ gₕ dₕ g₂ d₂ g₃ d₃ gᵢ dᵢ g d d' d'' P 𝓛 τs 𝓜.mem 𝓡.returns a.0 a.1.0)
    (R.requires-unanswered T' F U g₀ d₀ gₛ dₛ gₑ dₑ g₁ d₁ gₕ dₕ g₂ d₂ g₃ d₃ gᵢ dᵢ g d d' d'' P 𝓛 τs 𝓜.mem 𝓡.returns a.0 a.1.0) in
    let c' : (τs : Lfts 5) (a : Denots (types_at S'.params (f τs))) → SpecAt 𝓤 S' (f τs) = λ τs a. record {
      ghost = Unit {0};
      requires = (c τs a).requires;
      ensures = (c τs a).ensures;
    } in
    let at : Lfts 5 → NamedLft = λ κs. record { mir = named 1; lft = κs.1.0 } in
    hands_on S.outlives (λ κs. IxdtfParser.the_row (at κs) (param 0 T') (copied 2 U) g₀ g₁ gₕ g₂ gᵢ) 1 F (λ κs. Got ParseError.the_row (at κs) 0 2 T' U) 𝓛 𝓣 c LF _ _
    (λ κs. lands ParseError.the_row (at κs) 0 2 T' U error_laws.the_row_laws LT LU 𝓛)
    (code.unfolded 𝓤 𝓛.H 𝓜 𝓡 wired (T', (F, (U, tt))) d₀ dₛ dₑ d₁ dₕ d₂ d₃ dᵢ d d' d'')
    (implements 𝓛 S' 5 S.outlives f _ (run_framed 𝓤 𝓛.H 𝓜 𝓡 _) k c' 3 (λ τs. τs.1.1) (λ τs. (T'.lives, (F.lives, (U.lives, tt))))
    ((0, tt), ((1, tt), ((2, tt), ((1, tt), ((3, tt), ((4, tt), tt)))))) (λ τs a x. sep 𝓤 (fact 𝓤 (P τs)) (asked τs a)) (λ τs a x. id⊢ 𝓤 _)
    (λ τs h. ((⊑_refl τs.0, (⊑_refl τs.1.0, (⊑_refl τs.1.1.0, (⊑_refl τs.1.0, (⊑_refl τs.1.1.1.0, (⊑_refl τs.1.1.1.1.0, tt)))))), h.0))
    (λ τs a x. tt)
    (λ τs h a x. fact_use 𝓤 (P τs) (fst∗ 𝓤 (fact 𝓤 (P τs)) (asked τs a)) (λ p.
    via 𝓤 (sep 𝓤 (fact 𝓤 (Q (f τs))) (asked τs a))
    (via 𝓤 (asked τs a) (snd∗ 𝓤 (fact 𝓤 (P τs)) (asked τs a)) (with_fact 𝓤 (Q (f τs)) (asked τs a) (τs, p, refl)))
    (insides_in 𝓤 4 (τs.1.1.0, (τs.1.0, (τs.1.1.1.0, (τs.1.1.1.1.0, tt)))) (T'.lives, (E.lives, (F.lives, (U.lives, tt))))
    (sep 𝓤 (fact 𝓤 (Q (f τs))) (asked τs a)) (h.1.0, (⊑_static τs.1.0, (h.1.1.0, (h.1.1.1.0, tt)))))))
    (λ τs a x r. id⊢ 𝓤 _)
    (G_met.met 𝓤 𝓛 𝓜 𝓡 (code.calls-ixdtf::laws::parse_unanswered_as 𝓡.env wired) T' E F U LT (taken_laws ParseError.the_row error_laws.the_row_laws refl) LF LU cU g₀ d₀ gₛ dₛ gₑ dₑ g₁ d₁ gₕ dₕ g₂ d₂ g₃ d₃ gᵢ dᵢ raises.ghosts
    raises.dict g d d' d'' Q b₀ bₛ bₑ b₁ bₕ b₂ b₃ bᵢ
    (raises_met.passed 𝓡.env (code.calls-ixdtf_reading::stop::ParseErrorFromStop::of_stop 𝓡.env wired) M 𝓤 𝓛 𝓜 𝓡)
    (λ κs p. subst (λ (β : Lft). GM.Met 𝓛 𝓜 𝓡 𝓡.env β T' E F U g d × GM.Lawful T' E F U g) p.2 (b p.0 p.1))
    (λ κs p. subst (λ (β : Lft). GO.Met 𝓛 𝓜 𝓡 𝓡.env β T' E F U (Members.once g) d') p.2 (b' p.0 p.1))
    b''))
