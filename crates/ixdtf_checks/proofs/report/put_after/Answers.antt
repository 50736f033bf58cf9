-- Proves that what is in the array and the other bytes of the report are written.
use Rattle.ixdtf_checks.proofs.report.put_after.Goals as goal
use Rattle.std.proofs.Common.{◌≡◌, ℕ, List, ◌∷◌, ◌++◌, Option, Result, append_assoc, ap, ◌∙◌, refl, take}
use Rattle.ixdtf_explanations.specs.Messages.{message_text}
use Rattle.ixdtf_buffers.proofs.{AddingLemmas.adds_then, OutputLemmas.{Puts-after, Puts-exit}}
use Rattle.ixdtf_buffers.specs.{declared.{error.RunError.RunError, output.Output.Output}, Lines.newline, Output.Puts}
use Rattle.ixdtf_checks.specs.{Seen.lines_behind, Texts.line_and_column}

-- The bytes in the array are those before the place, and the place. They were written, and then the other bytes.
put_behind : {K : Type 0} {contents : K → Option (List ℕ)} {failed : K → Type 0} {x y : Output K} {r : Result (Unit {0}) RunError} {filled : List ℕ} (front place others : List ℕ)
    → filled ≡ front ++ place → Puts contents failed x y r (filled ++ others) → Puts contents failed x y r (front ++ (place ++ others))
put_behind front place others placed puts = rw (← append_assoc front place others, ← placed) puts

pub returns-in_err-put-in-None : goal.returns-in_err-put-in-None
returns-in_err-put-in-None g c =
    let refusal = c.args.refusal.now in
    put_behind (take c.args.at c.args.room.now.bytes) (line_and_column c.args.number refusal.column) (message_text refusal.message ++ newline ∷ lines_behind refusal.marked c.args.hint)
    (c.in-None.ensures.none refl ∙ c.add_place-place.ensures.text.is) (Puts-exit _ c.in_err-put-in-None.ensures c.from_residual.ensures.1)

pub returns-in_err-put_message-in-None : goal.returns-in_err-put_message-in-None
returns-in_err-put_message-in-None g c =
    let refusal = c.args.refusal.now in
    put_behind (take c.args.at c.args.room.now.bytes) (line_and_column c.args.number refusal.column) (message_text refusal.message ++ newline ∷ lines_behind refusal.marked c.args.hint)
    (c.in-None.ensures.none refl ∙ c.add_place-place.ensures.text.is)
    (Puts-after c.in_ok-put-in-None.ensures (Puts-exit _ c.in_err-put_message-in-None.ensures c.from_residual-in_err-put_message-in-None.ensures.1))

pub returns-in-Some : goal.returns-in-Some
returns-in-Some g c =
    let refusal = c.args.refusal.now in
    let front = take c.args.at c.args.room.now.bytes in
    let place = line_and_column c.args.number refusal.column in
    let made = adds_then c.add_place-place.ensures.text c.in-Some.ensures.text in
    let whole = append_assoc front (place ++ message_text refusal.message) (newline ∷ lines_behind refusal.marked c.args.hint)
    ∙ ap (λ rest. front ++ rest) (append_assoc place (message_text refusal.message) (newline ∷ lines_behind refusal.marked c.args.hint)) in
    rw (made.is, whole) at c.put_lines.ensures

pub returns-in_ok-put_message-in-None : goal.returns-in_ok-put_message-in-None
returns-in_ok-put_message-in-None g c =
    let refusal = c.args.refusal.now in
    put_behind (take c.args.at c.args.room.now.bytes) (line_and_column c.args.number refusal.column) (message_text refusal.message ++ newline ∷ lines_behind refusal.marked c.args.hint)
    (c.in-None.ensures.none refl ∙ c.add_place-place.ensures.text.is) (Puts-after c.in_ok-put-in-None.ensures (Puts-after c.in_ok-put_message-in-None.ensures c.put_lines-in-None.ensures))
