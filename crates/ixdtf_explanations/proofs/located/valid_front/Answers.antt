use Rattle.std.proofs.{Common.{◌≡◌, ℕ, List, take, ap, sym, ◌∙◌, arith}, lemmas.{List.take_all, Str.utf8_valid_len-IsUtf8}}
use Rattle.std.specs.{Str.IsUtf8, Str.Lossy.utf8_valid_len}
use Rattle.ixdtf_explanations.proofs.located.valid_front.Goals as goal

-- All of a text that is UTF-8 is valid.
all_valid : (bytes : List ℕ) → IsUtf8 bytes → take (utf8_valid_len bytes) bytes ≡ bytes
all_valid bytes is_utf8 = ap (λ n. take n bytes) (utf8_valid_len-IsUtf8 bytes is_utf8) ∙ take_all _ bytes (omega arith)

pub returns-in-Ok : goal.returns-in-Ok
returns-in-Ok c = let (same, is_utf8) = c.in-Ok.ensures.cases in same ∙ sym (all_valid _ is_utf8)
