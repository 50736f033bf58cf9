use Rattle.ixdtf_c.proofs.report_bytes.add.Goals as goal
use Rattle.std.proofs.Common.{◌≡◌, ◌∙◌, ℕ, ◌+◌, ◌-◌, ◌^◌, ◌<◌, ◌≤◌, List, ◌++◌, length, take, rules, ap, arith}
use Rattle.std.proofs.lemmas.Slice.{take-put_mid, drop-put_mid, overwrites}
use borrow.Rule.Slice.PartMut.{put_mid}
use Rattle.ixdtf_c.specs.Adding.{Adds}

-- The bytes were copied to their place.
copied : (room part bytes : List ℕ) (at end : ℕ) → at ≤ length room → length bytes ≤ length room - at → end ≡ at + length bytes → at + length bytes < 2 ^ 64 → part ≡ bytes
    → Adds room (put_mid at (end - at) room part) at end bytes
copied room part bytes at end within fits is small same =
    let long : length part ≡ end - at = rw same (omega (arith, is)) in
    record {
      counts = omega (arith, is, small);
      room = search (rules, overwrites);
      is = λ less some. take-put_mid at (end - at) room part (at + length bytes) (rw same (omega arith)) within ∙ ap (λ l. take at room ++ l) same;
      rest = λ less some. drop-put_mid at (end - at) room part (at + length bytes) (omega (arith, is)) within long;
    }

pub returns : goal.returns
returns c =
    copied _ _ _ _ _ (omega (arith, c.if-at-out.false)) (omega (arith, c.if-bytes-out.false)) (omega (arith, c.saturating_add-end.ensures, c.if-at-out.false, c.if-bytes-out.false)) (omega (arith, c.if-at-out.false, c.if-bytes-out.false)) c.copy_from_slice.ensures.after
