use Rattle.std.proofs.Common.{rules, ◌≡◌, ℕ, List, [], ◌∷◌, None, Option, Result, Ok, Err, refl, sym, ◌∙◌, ap, map, option_map}
use Rattle.ixdtf_grammar.specs.declared.records.Annotation.{Annotation}
use Rattle.ixdtf.specs.Handlers.{pair_of, Calls, handed, replies_of, Step, IsChain, Handled}
use Rattle.ixdtf.specs.Laws.{GivesResult, replies_to, OneChain}
use Rattle.ixdtf.specs.language.Brackets.{Pair}
use Rattle.ixdtf.specs.language.Languages.{Parsed}
use Rattle.ixdtf.specs.language.Letters.{Text, byte_letter}
use Rattle.ixdtf.specs.language.Readers.{parse}
use Rattle.ixdtf.specs.language.Readers.CoreKind.{date_time}
use Rattle.ixdtf.specs.table.Faults.{Fault}
use Rattle.ixdtf_tests.proofs.tests.laws.reads_twice.Goals as goal

module _ {T U F : Type 0} (number : U → ℕ) {step : Step T U F} where
  -- Each reply is `None`.
  replied : ((state : F) (annotation : Annotation T U) (reply : Option (Annotation T U)) (next : F) → step state annotation reply next → reply ≡ None)
      → (calls : Calls T U) (state last : F) → IsChain step state calls last → replies_of number calls ≡ replies_to (λ pairs. None) (handed number calls)
  replied none [] state last chain = refl
  replied none (call ∷ calls) state last (next, stepped, chain) =
      let head = none state call.0 call.1 next stepped in
      let tail = replied none calls next last chain in λ i. option_map (pair_of number) (head i) ∷ tail i

  gives : {handler : F} {text : Text} {result : Result Parsed Fault} → Handled number step handler parse text result
      → ((state : F) (annotation : Annotation T U) (reply : Option (Annotation T U)) (next : F) → step state annotation reply next → reply ≡ None)
      → (wanted : Text) → text ≡ wanted → (pairs : List Pair) × GivesResult parse wanted pairs (replies_to (λ pairs. None) pairs) result
  gives {handler = handler} {result = Ok found} h none wanted is =
      (handed number h.calls, rw (← is, ← (replied none h.calls handler h.last h.chain)) ((h.ok found).0 refl))
  gives {handler = handler} {result = Err fault} h none wanted is =
      (handed number h.calls, rw (← is, ← (replied none h.calls handler h.last h.chain)) (h.err fault refl))

-- So there is only one result.
once : OneChain → (text : Text) (x y : Result Parsed Fault) → ((pairs : List Pair) × GivesResult parse text pairs (replies_to (λ pairs. None) pairs) x)
    → ((pairs : List Pair) × GivesResult parse text pairs (replies_to (λ pairs. None) pairs) y) → x ≡ y
once one text x y (xs, h) (ys, g) =
    let only = one date_time text (λ pairs. None) in
    ap (λ (c : List Pair × Result Parsed Fault). c.1) (only.2 (xs, x) h ∙ sym (only.2 (ys, y) g))

pub returns : goal.returns
returns c =
    let text : Text = map byte_letter c.args.bytes.now in
    let found = gives (λ unit. unit) c.parse_unanswered-found.ensures.handles.handled (λ state annotation reply next stepped. search rules) text
    (ap (map byte_letter) c.from_utf8-first.ensures.rest) in
    let again = gives (λ unit. unit) c.parse_unanswered-again.ensures.handles.handled (λ state annotation reply next stepped. search rules) text
    (ap (map byte_letter) c.from_utf8-second.ensures.rest) in
    once c.one_outcome.ensures.replied text _ _ found again
