-- A chain of calls with a count of accesses consists of the chain itself, and of the accesses that its replies take.
use Rattle.std.proofs.Common.{◌≡◌, ℕ, ◌+◌, ◌*◌, ◌≤◌, List, [], ◌∷◌, Option, None, Some, option_map, Result, ap, arith}
use Rattle.std.proofs.lemmas.List.{length-map}
use Rattle.ixdtf_grammar.specs.{declared.records.Annotation.Annotation, language.{Letters.Text, Languages.Parsed, Readers.Reader}}
use Rattle.ixdtf_grammar.specs.Handlers.{Reply, value_units, pair_of, Calls, replies_of, Step, IsChain}
use Rattle.ixdtf_reading.specs.{reading.{Chains.{Counting, reply_units, TextRead}, Looks.Placed}}
use Rattle.ixdtf_reading.proofs.theorems.Handled.{OwnReplies}

-- One more reply adds the code units of its value.
one_more : {T U : Type 0} (number : U → ℕ) (reply : Option (Annotation T U)) (replies : List Reply)
    → value_units (option_map (pair_of number) reply ∷ replies) ≡ reply_units reply + value_units replies
one_more number None replies = omega arith
one_more number (Some reply) replies = omega (arith, length-map reply.value.now number)

module _ {T U F : Type 0} (number : U → ℕ) (step : Step T U F) where
  -- Without the count, the calls are still a chain.
  pub chain_of : (calls : Calls T U) (here last : F × ℕ) → IsChain (Counting step) here calls last → IsChain step here.0 calls last.0
  chain_of [] here last is = ap (λ p. p.0) is
  chain_of (call ∷ calls) here last (next, (stepped, more), chain) = (next.0, stepped, chain_of calls next last chain)

  -- The replies take at most two accesses for each code unit of their values.
  pub cost_of : (calls : Calls T U) (here last : F × ℕ) → IsChain (Counting step) here calls last
      → last.1 ≤ here.1 + 2 * value_units (replies_of number calls)
  cost_of [] here last is = let same = ap (λ p. p.1) is in omega (arith, same)
  cost_of (call ∷ calls) here last (next, (stepped, more), chain) =
      omega (arith, more, cost_of calls next last chain, one_more number call.1 (replies_of number calls))

  -- If each reply is the annotation itself, the replies take no more accesses.
  pub own_costs_nothing : OwnReplies step → (calls : Calls T U) (here last : F × ℕ) → IsChain (Counting step) here calls last → last.1 ≡ here.1
  own_costs_nothing own [] here last is = let same = ap (λ p. p.1) is in omega (arith, same)
  own_costs_nothing own (call ∷ calls) here last (next, (stepped, more), chain) =
      let as_long = ap reply_units (own here.0 call.0 call.1 next.0 stepped) in
      omega (arith, more, as_long, own_costs_nothing own calls next last chain)

  -- What was read of a text, without the count.
  abbrev pub text_of : {here last : F × ℕ} {reader : Reader} {text : Text} {result : Result Parsed Placed}
      → TextRead number (Counting step) here last reader text result → TextRead number step here.0 last.0 reader text result
  text_of {here} {last} read = record { calls = read.calls; chain = chain_of read.calls here last read.chain; gives = read.gives }
