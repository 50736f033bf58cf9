-- The function only passes its arguments on to `read_as`, with its error and its kind of cores. This proof assumes `Logic`.
use Rattle.ixdtf.specs.contracts.parsers.cores.DateTimes
use Rattle.ixdtf.proofs.parsers.cores.DateTimes.TheLaws as cores_laws
use Rattle.ixdtf.specs.contracts.parsers.cores.DateTimesCoreReader.TheImpl as cores
use Rattle.ixdtf.proofs.parsers.cores.DateTimesCoreReader.TheImpl.Met as cores_met
use Rattle.ixdtf_explanations.proofs.located.LocatedErrorFromStop.TheImpl.Met as error_met
use Rattle.ixdtf.proofs.parsers.IxdtfParser.parse_with_annotation_handler_located.Statement as stated
use Rattle.ixdtf.proofs.parsers.IxdtfParser.parse_with_annotation_handler_located.Code as code
use Rattle.ixdtf.proofs.code.HandledForms.{tables_of, refl, ⊑_static, kind_of, form, located}

pub parse_with_annotation_handler_located_spec : {M : Type 1} → stated.statement M
unfolding tables_of
parse_with_annotation_handler_located_spec {M} 𝓤 𝓛 𝓜 𝓡 wired T' U F LT LU LF cU g₀ d₀ gₛ dₛ gₑ dₑ g₁ d₁ gₕ dₕ g₂ d₂ g₃ d₃ gᵢ dᵢ g d d' d'' P b₀ bₛ bₑ b₁ bₕ b₂ b₃ bᵢ b b' b'' =
    form 𝓤 𝓛 𝓜 𝓡 located (kind_of DateTimes.the_row cores_laws.the_row_laws refl cores.ghosts cores.dict ⊑_static) T' U F LT LU LF cU g₀ d₀ gₛ dₛ gₑ dₑ g₁ d₁ gₕ dₕ g₂ d₂ g₃ d₃ gᵢ dᵢ g d d' d'' P b₀ bₛ bₑ b₁ bₕ b₂ b₃ bᵢ b b' b'' (code.calls-ixdtf::parsers::IxdtfParser::read_as 𝓡.env wired)
    (error_met.passed 𝓡.env (code.calls-ixdtf_explanations::located::LocatedErrorFromStop::of_stop 𝓡.env wired) M 𝓤 𝓛 𝓜 𝓡) (cores_met.passed 𝓡.env (code.calls-ixdtf::parsers::cores::DateTimesCoreReader::parse_core 𝓡.env wired) (code.calls-ixdtf::parsers::cores::DateTimesCoreReader::has_exact_zones 𝓡.env wired) M 𝓤 𝓛 𝓜 𝓡) _ _ (λ κs. refl) refl (code.unfolded 𝓤 𝓛.H 𝓜 𝓡 wired (T', (U, (F, tt))) d₀ dₛ dₑ d₁ dₕ d₂ d₃ dᵢ d d' d'')
