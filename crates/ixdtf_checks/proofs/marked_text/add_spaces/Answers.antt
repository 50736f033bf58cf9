-- Proves that the added bytes are the newline and the first of the spaces.
use Rattle.ixdtf_checks.proofs.marked_text.add_spaces.Goals as goal
use Rattle.std.proofs.Common.{◌≡◌, ℕ, ◌+◌, ◌≤◌, suc, List, take, replicate, refl, ◌∷◌, arith}
use Rattle.ixdtf_buffers.proofs.AddingLemmas.{adds_front}
use Rattle.ixdtf_checks.proofs.PointedLemmas.{front_of_many}

behind_newline : (m n l c : ℕ) → m ≤ n → take (m + 1) (l ∷ replicate n c) ≡ l ∷ replicate m c
behind_newline m n l c within =
    let next : m + 1 ≡ suc m = omega arith in
    rw (next, front_of_many m n c within) refl

pub returns-clause-text : goal.returns-clause-text
returns-clause-text c =
    let many = c.args.indent in
    let few = c.requires.few in
    let spaces : List ℕ = 10 ∷ replicate 50 32 in
    let added = adds_front c.args.room.now c.add_bytes-end.new.room c.args.at c.add_bytes-end.result (c.args.at + many + 1) (many + 1) spaces
    (omega arith) c.add_bytes-end.ensures.place (omega arith) (omega (arith, few)) c.add_bytes-end.ensures.text in
    record { is = rw (← behind_newline many 50 10 32 few) added.is }
