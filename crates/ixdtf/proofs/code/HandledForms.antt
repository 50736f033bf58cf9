-- A variant with a handler only passes its arguments on to `read_as`, with its error and its kind of cores. This proof assumes
-- `Logic`.
use denote.Param.Glue
use denote.Param.Members as Members
use denote.Builtin
use denote.Struct.Field
use Rattle.std.specs.declared.cmp.Eq as equal
use Rattle.std.specs.contracts.cmp.Eq.TheBound as equal_bound
use Rattle.std.specs.declared.cmp.PartialEq as eq
use Rattle.std.specs.contracts.cmp.PartialEq.TheBound as eq_bound
use Rattle.std.specs.declared.hash.Hash as hash
use Rattle.std.specs.contracts.hash.Hash.TheBound as hash_bound
use Rattle.std.specs.declared.convert.Into as into
use Rattle.std.specs.contracts.convert.Into.TheBound as into_bound
use Rattle.std.specs.declared.fmt.Debug as debug
use Rattle.std.specs.contracts.fmt.Debug.TheBound as debug_bound
use Rattle.std.specs.declared.clone.Clone as clone
use Rattle.std.specs.contracts.clone.Clone.TheBound as clone_bound
use Rattle.ixdtf_grammar.specs.declared.encoding.EncodingType as encoding
use Rattle.ixdtf_grammar.specs.contracts.encoding.EncodingType.TheBound as encoding_bound
use Rattle.ixdtf_grammar.specs.declared.encoding.private.Sealed as sealed
use Rattle.ixdtf_grammar.specs.contracts.encoding.private.Sealed.TheBound as sealed_bound
use Rattle.ixdtf_grammar.specs.contracts.error.ParseError
use Rattle.ixdtf_grammar.proofs.error.ParseError.TheLaws as error_laws
use Rattle.ixdtf_explanations.specs.contracts.located.LocatedError
use Rattle.ixdtf_explanations.proofs.located.LocatedError.TheLaws as located_laws
use Rattle.ixdtf.specs.declared.parsers.cores.CoreReader as cores
use Rattle.ixdtf.specs.contracts.parsers.cores.CoreReader.TheBound as cores_bound
use Rattle.ixdtf_reading.specs.declared.stop.FromStop as raised
use Rattle.ixdtf_reading.specs.contracts.stop.FromStop.TheBound as raised_bound
use Rattle.ixdtf_reading.specs.contracts.stop.ParseErrorFromStop.TheImpl as plainly
use Rattle.ixdtf_explanations.specs.contracts.located.LocatedErrorFromStop.TheImpl as with_place
use Rattle.ixdtf.specs.contracts.parsers.IxdtfParser
use Rattle.ixdtf.specs.contracts.parsers.IxdtfParser.parse_with_annotation_handler as R
use Rattle.ixdtf.specs.contracts.parsers.IxdtfParser.read_as as G
use Rattle.ixdtf.specs.contracts.parsers.IxdtfParser.read_as.F-FnMut as GM
use Rattle.ixdtf.specs.contracts.parsers.IxdtfParser.read_as.F-FnOnce as GO
use Rattle.ixdtf.proofs.parsers.IxdtfParser.read_as.Met as G_met
use Rattle.ixdtf.specs.contracts.parsers.IxdtfParser.read_as.Key as G_key
use Rattle.ixdtf.proofs.parsers.IxdtfParser.read_as.Symbol as G_symbol
use mir.Syntax.{Dict, Callee, a_type, dcons, dnil, named}
use mir.Raw.{raw as bare}
use seplogic.Ra.Ura.{Ura}
use base.Logic.{SProp, ent, sep, ex_i, ex_e, mono_r, via, id⊢, fst∗, snd∗}
use base.Fml.{Lft}
use prog.Model.{Model}
use prog.Wp.{Tables, Closed}
use prog.Wired.{Wired}
use types.Logic.{Logic, sem}
use contract.Lifetimes.{Lfts}
use contract.Monad.{Fun, fact, fact_use}
use contract.Running.{Running, tables}
use denote.Exit.{yes, no}
use denote.RattleType.{RattleType, Denots}
use denote.Ref.{NamedLft}
use denote.Param.{param, arg, layout, bounded}
use denote.Param.Laws.{Laws, IsCopy, arg_laws}
use denote.Signature.{Signature, types_at}
use denote.Triple.Impl.{implements, insides_in, with_fact}
use denote.Triple.Carry.{insides}
use denote.Triple.End.{Fins, Outs, outs, lasts_of}
use denote.Triple.Entry.{Res}
use denote.Triple.Spec.{Spec, SpecAt, exits, triple_of}
use denote.Triple.Statement.{Triple}
use denote.Triple.Table.{run_framed}
use Rattle.ixdtf.proofs.code.{HandsOn.{Handing, handing_on, handing, hands_on}, RaisedErrors.{written, taken, taken_laws, Under, Got, lands}}
use mathlib.Core.Bool.{Bool, true, false}
use mathlib.Core.List.{[], ◌∷◌}
pub use contract.BorrowLft.{◌⊑◌, ⊑_refl, ⊑_static}
unfoldable pub use contract.Running.{tables_of}
pub use mathlib.Core.Path.{◌≡◌, refl, sym, subst}

-- A kind of cores, as such a function passes it.
pub record Kind : Type 2 where
  pub row : RattleType
  pub laws : Laws row
  pub ghosts : cores.Ghosts row.Denot
  pub dict : Dict
  pub static : (τ : Lft) → τ ⊑ row.lives

abbrev pub kind_of : (R : RattleType) → Laws R → bare (bare (layout R)) ≡ bare (layout R) → cores.Ghosts R.Denot → Dict → ((τ : Lft) → τ ⊑ R.lives) → Kind
kind_of R laws is ghosts dict static = record {
  row = arg (bare (layout R)) no R;
  laws = arg_laws (bare (layout R)) no R laws is;
  ghosts = ghosts;
  dict = dict;
  static = static;
}

-- An error, its bound, and whether the contract of the variant states the position of the error.
pub record Error : Type 2 where
  pub given : RattleType
  pub laws : Laws given
  pub is : bare (written given) ≡ written given
  pub ghosts : raised.Ghosts (taken given).Denot
  pub dict : Dict
  pub static : (τ : Lft) → τ ⊑ (taken given).lives
  pub has_place : Bool

abbrev pub plain : Error
plain = record { given = ParseError.the_row; laws = error_laws.the_row_laws; is = refl; ghosts = plainly.ghosts; dict = plainly.dict; static = ⊑_static; has_place = false }

abbrev pub located : Error
located = record { given = LocatedError.the_row; laws = located_laws.the_row_laws; is = refl; ghosts = with_place.ghosts; dict = with_place.dict; static = ⊑_static; has_place = true }

-- The error, as `read_as` takes it.
abbrev E : Error → RattleType
E X = taken X.given

module _ {M : Type 1} (𝓤 : Ura M) where
  -- `read_as` has a clause without the position and one with it. The contract of the variant has one of these two.
  abbrev Said : Bool → SProp 𝓤 → SProp 𝓤 → SProp 𝓤
  Said false handles places = handles
  Said true handles places = places

  says : (has_place : Bool) (handles places : SProp 𝓤) → ent 𝓤 (sep 𝓤 handles places) (Said has_place handles places)
  says false handles places = fst∗ 𝓤 handles places
  says true handles places = snd∗ 𝓤 handles places

module _ {M : Type 1} (𝓤 : Ura M) (𝓛 : Logic 𝓤) (𝓜 : Model 𝓤 𝓛.H) (𝓡 : Running 𝓤 𝓛.H 𝓜) (X : Error) (K : Kind)
    (T' U F : RattleType) (LT : Laws T') (LU : Laws U) (LF : Laws F) (cU : IsCopy U)
    (g₀ : encoding.Ghosts T'.Denot U.Denot) (d₀ : Dict) (gₛ : sealed.Ghosts T'.Denot) (dₛ : Dict) (gₑ : equal.Ghosts U.Denot) (dₑ : Dict)
    (g₁ : eq.Ghosts U.Denot) (d₁ : Dict) (gₕ : hash.Ghosts U.Denot) (dₕ : Dict) (g₂ : debug.Ghosts U.Denot) (d₂ : Dict) (g₃ : clone.Ghosts U.Denot) (d₃ : Dict)
    (gᵢ : into.Ghosts U.Denot (Field.u32-field).Value) (dᵢ : Dict) (g : R.F-FnMut.Ghosts T' U F) (d d' d'' : Dict) (P : Lfts 5 → Type 0)
    (b₀ : encoding_bound.Met 𝓛 𝓜 𝓡 𝓡.env T' U g₀ d₀ gₛ dₛ gₑ dₑ g₁ d₁ gₕ dₕ g₂ d₂ g₃ d₃ gᵢ dᵢ) (bₛ : sealed_bound.Met 𝓛 𝓜 𝓡 𝓡.env T' gₛ dₛ)
    (bₑ : equal_bound.Met 𝓛 𝓜 𝓡 𝓡.env U gₑ dₑ g₁ d₁) (b₁ : eq_bound.Met 𝓛 𝓜 𝓡 𝓡.env U g₁ d₁)
    (bₕ : hash_bound.Met 𝓛 𝓜 𝓡 𝓡.env U gₕ dₕ gₑ dₑ g₁ d₁) (b₂ : debug_bound.Met 𝓛 𝓜 𝓡 𝓡.env U g₂ d₂)
    (b₃ : clone_bound.Met 𝓛 𝓜 𝓡 𝓡.env U g₃ d₃) (bᵢ : into_bound.Met 𝓛 𝓜 𝓡 𝓡.env U Builtin.u32 gᵢ dᵢ)
    (b : (κs : Lfts 5) → P κs → GM.Met 𝓛 𝓜 𝓡 𝓡.env κs.1.0 T' U (E X) K.row F g d × GM.Lawful T' U (E X) K.row F g)
    (b' : (κs : Lfts 5) → P κs → GO.Met 𝓛 𝓜 𝓡 𝓡.env κs.1.0 T' U (E X) K.row F (Members.once g) d') (b'' : Glue.Met 𝓛 𝓜 𝓡 𝓡.env F d'') where
  abbrev 𝓣 : Tables 𝓤 𝓛.H
  𝓣 = tables_of 𝓤 𝓛.H 𝓜 (tables 𝓤 𝓛.H 𝓜 𝓡 𝓡.env)

  abbrev at : Lfts 5 → NamedLft
  at κs = record { mir = named 1; lft = κs.1.0 }

  abbrev S : Signature
  S = handing (R.signature T' U F g₀ d₀ gₛ dₛ gₑ dₑ g₁ d₁ gₕ dₕ g₂ d₂ g₃ d₃ gᵢ dᵢ g d d' d'' P).outlives (λ κs. IxdtfParser.the_row (at κs) (param 0 T') (param 1 U) g₀ g₁ gₕ g₂ gᵢ)
      2 F (λ κs. Got X.given (at κs) 0 1 T' U)

  abbrev Q : Lfts 7 → Type 0
  Q = Under 5 P

  abbrev S' : Signature
  S' = G.signature T' U (E X) K.row F g₀ d₀ gₛ dₛ gₑ dₑ g₁ d₁ gₕ dₕ g₂ d₂ g₃ d₃ gᵢ dᵢ X.ghosts X.dict K.ghosts K.dict g d d' d'' Q

  abbrev k : Spec 𝓤 S'
  k = G.spec T' U (E X) K.row F g₀ d₀ gₛ dₛ gₑ dₑ g₁ d₁ gₕ dₕ g₂ d₂ g₃ d₃ gᵢ dᵢ X.ghosts X.dict K.ghosts K.dict g d d' d'' Q 𝓛 𝓜.mem 𝓡.returns

  -- Neither the error nor the kind names a lifetime, so any tokens fit.
  abbrev f : Lfts 5 → Lfts 7
  f τs = (τs.0, (τs.1.0, (τs.1.1.0, (τs.1.1.1.0, (τs.1.0, (τs.1.0, (τs.1.1.1.1.0, tt)))))))

  abbrev asked : (τs : Lfts 5) → Denots (types_at S'.params (f τs)) → SProp 𝓤
  asked τs a = R.requires-callable T' U F g₀ d₀ gₛ dₛ gₑ dₑ g₁ d₁ gₕ dₕ g₂ d₂ g₃ d₃ gᵢ dᵢ g d d' d'' P 𝓛 τs 𝓜.mem 𝓡.returns a.0 a.1.0

  -- The function that `read_as` runs.
  abbrev run : Fun 𝓤
  run = 𝓡.run (𝓡.env (G_key.name (bounded (a_type ∷ a_type ∷ a_type ∷ a_type ∷ a_type ∷ []) (T', (U, (E X, (K.row, (F, tt)))))
      (dcons d₀ (dcons dₛ (dcons dₑ (dcons d₁ (dcons dₕ (dcons d₂ (dcons d₃ (dcons dᵢ (dcons X.dict (dcons K.dict (dcons d (dcons d' (dcons d'' dnil))))))))))))))))

  -- The clauses of `read_as` without the position and with it, for these values at exit.
  abbrev handles : (τs : Lfts 5) (a : Denots (types_at S'.params (f τs))) → Outs (f τs) S'.params (yes, (no, tt)) → Res S' (f τs) → SProp 𝓤
  handles τs a e = G.ensures-handles T' U (E X) K.row F g₀ d₀ gₛ dₛ gₑ dₑ g₁ d₁ gₕ dₕ g₂ d₂ g₃ d₃ gᵢ dᵢ X.ghosts X.dict K.ghosts K.dict g d d' d'' Q 𝓛 (f τs) 𝓜.mem 𝓡.returns
      a.0 a.1.0 record { entry = a.0; exit = e.0 } record { entry = a.1.0; exit = e.1.0 }

  abbrev places : (τs : Lfts 5) (a : Denots (types_at S'.params (f τs))) → Outs (f τs) S'.params (yes, (no, tt)) → Res S' (f τs) → SProp 𝓤
  places τs a e = G.ensures-places T' U (E X) K.row F g₀ d₀ gₛ dₛ gₑ dₑ g₁ d₁ gₕ dₕ g₂ d₂ g₃ d₃ gᵢ dᵢ X.ghosts X.dict K.ghosts K.dict g d d' d'' Q 𝓛 (f τs) 𝓜.mem 𝓡.returns
      a.0 a.1.0 record { entry = a.0; exit = e.0 } record { entry = a.1.0; exit = e.1.0 }

  -- The contract of the variant ensures one of the two clauses, if the handler can always be called.
  abbrev c : Spec 𝓤 S
  c τs a = record {
    ghost = Unit {0};
    requires = λ x. insides 𝓤 3 τs.1.1 (T'.lives, (U.lives, (F.lives, tt))) (sep 𝓤 (fact 𝓤 (P τs)) (asked τs a));
    ensures = λ x r. exits 𝓛 S' (yes, (no, tt)) (f τs) a (λ e. Said 𝓤 X.has_place (handles τs a e r) (places τs a e r));
  }

  abbrev c' : (τs : Lfts 5) (a : Denots (types_at S'.params (f τs))) → SpecAt 𝓤 S' (f τs)
  c' τs a = record { ghost = (c τs a).ghost; requires = (c τs a).requires; ensures = (c τs a).ensures }

  -- `read_as` ensures this clause.
  ensured : (τs : Lfts 5) (a : Denots (types_at S'.params (f τs))) (r : Res S' (f τs)) → ent 𝓤 ((k (f τs) a).ensures tt r) ((c' τs a).ensures tt r)
  ensured τs a r =
      let Lasts : Fins (f τs) S'.params (yes, (no, tt)) a → SProp 𝓤 = λ ws. sem 𝓛 (lasts_of (f τs) S'.params (yes, (no, tt)) a ws) in
      let Plain : Fins (f τs) S'.params (yes, (no, tt)) a → SProp 𝓤 = λ ws. handles τs a (outs (f τs) S'.params (yes, (no, tt)) a ws) r in
      let Placed : Fins (f τs) S'.params (yes, (no, tt)) a → SProp 𝓤 = λ ws. places τs a (outs (f τs) S'.params (yes, (no, tt)) a ws) r in
      ex_e 𝓤 (λ ws. sep 𝓤 (Lasts ws) (sep 𝓤 (Plain ws) (Placed ws))) (λ ws.
      via 𝓤 (sep 𝓤 (Lasts ws) (Said 𝓤 X.has_place (Plain ws) (Placed ws))) (mono_r 𝓤 (Lasts ws) (says 𝓤 X.has_place (Plain ws) (Placed ws)))
      (ex_i 𝓤 (λ vs. sep 𝓤 (Lasts vs) (Said 𝓤 X.has_place (Plain vs) (Placed vs))) ws))

  -- `read_as` meets the contract of the variant.
  met : Wired 𝓡.env G_symbol.code → raised_bound.Met 𝓛 𝓜 𝓡 𝓡.env (E X) X.ghosts X.dict
      → cores_bound.Met 𝓛 𝓜 𝓡 𝓡.env K.row K.ghosts K.dict → Triple 𝓤 run (triple_of 𝓛 S c)
  met wired raising cored =
      implements 𝓛 S' 5 S.outlives f _ (run_framed 𝓤 𝓛.H 𝓜 𝓡 _) k c' 3 (λ τs. τs.1.1) (λ τs. (T'.lives, (U.lives, (F.lives, tt))))
      ((0, tt), ((1, tt), ((2, tt), ((3, tt), ((1, tt), ((1, tt), ((4, tt), tt))))))) (λ τs a x. sep 𝓤 (fact 𝓤 (P τs)) (asked τs a)) (λ τs a x. id⊢ 𝓤 _)
      (λ τs h. ((⊑_refl τs.0, (⊑_refl τs.1.0, (⊑_refl τs.1.1.0, (⊑_refl τs.1.1.1.0, (⊑_refl τs.1.0, (⊑_refl τs.1.0, (⊑_refl τs.1.1.1.1.0, tt))))))), h.0))
      (λ τs a x. tt)
      (λ τs h a x. fact_use 𝓤 (P τs) (fst∗ 𝓤 (fact 𝓤 (P τs)) (asked τs a)) (λ p.
      via 𝓤 (sep 𝓤 (fact 𝓤 (Q (f τs))) (asked τs a))
      (via 𝓤 (asked τs a) (snd∗ 𝓤 (fact 𝓤 (P τs)) (asked τs a)) (with_fact 𝓤 (Q (f τs)) (asked τs a) (τs, p, refl)))
      (insides_in 𝓤 5 (τs.1.1.0, (τs.1.1.1.0, (τs.1.0, (τs.1.0, (τs.1.1.1.1.0, tt))))) (T'.lives, (U.lives, ((E X).lives, (K.row.lives, (F.lives, tt)))))
      (sep 𝓤 (fact 𝓤 (Q (f τs))) (asked τs a)) (h.1.0, (h.1.1.0, (X.static τs.1.0, (K.static τs.1.0, (h.1.1.1.0, tt))))))))
      (λ τs a x r. ensured τs a r)
      (G_met.met 𝓤 𝓛 𝓜 𝓡 wired T' U (E X) K.row F LT LU (taken_laws X.given X.laws X.is) K.laws LF cU g₀ d₀ gₛ dₛ gₑ dₑ g₁ d₁ gₕ dₕ g₂ d₂ g₃ d₃ gᵢ dᵢ X.ghosts X.dict K.ghosts K.dict g d d' d'' Q
      b₀ bₛ bₑ b₁ bₕ b₂ b₃ bᵢ raising cored
      (λ κs p. subst (λ (β : Lft). GM.Met 𝓛 𝓜 𝓡 𝓡.env β T' U (E X) K.row F g d × GM.Lawful T' U (E X) K.row F g) p.2 (b p.0 p.1))
      (λ κs p. subst (λ (β : Lft). GO.Met 𝓛 𝓜 𝓡 𝓡.env β T' U (E X) K.row F (Members.once g) d') p.2 (b' p.0 p.1))
      b'')

  -- The variant calls `read_as`, so it meets the contract too.
  pub form : Wired 𝓡.env G_symbol.code → raised_bound.Met 𝓛 𝓜 𝓡 𝓡.env (E X) X.ghosts X.dict → cores_bound.Met 𝓛 𝓜 𝓡 𝓡.env K.row K.ghosts K.dict
      → (h : Handing) (here : Callee) → ((κs : Lfts 5) → h.result ≡ layout (Got X.given (at κs) 0 1 T' U)) → run ≡ 𝓣.C h.callee
      → Closed 𝓤 𝓛.H 𝓣.C 𝓣.Λ here (handing_on h (layout F)) → Triple 𝓤 (𝓣.C here) (triple_of 𝓛 S c)
  form wired raising cored h here result_is calls closed =
      hands_on S.outlives (λ κs. IxdtfParser.the_row (at κs) (param 0 T') (param 1 U) g₀ g₁ gₕ g₂ gᵢ) 2 F (λ κs. Got X.given (at κs) 0 1 T' U) 𝓛 𝓣 c LF h here
      (λ κs x r is. rw (result_is κs) (lands X.given (at κs) 0 1 T' U X.laws LT LU 𝓛 x r is)) closed
      (rw (← calls) (met wired raising cored))
