-- What it means to write a text into a slice.
use Rattle.std.specs.Prelude.{◌≡◌, ℕ, ◌+◌, ◌≤◌, List, ◌++◌, map, take, drop, length}
use Rattle.ixdtf.specs.language.Letters.{Text, Letter.Plain}

-- The slice has enough bytes for the text from index `from` on.
pub record HasRoom (out : List ℕ) (from : ℕ) (text : Text) : Type 0 where
  pub room : from + length text ≤ length out

-- The text was written from index `from` up to index `to`. All other bytes are unchanged.
pub record Prints (old new : List ℕ) (from to : ℕ) (text : Text) : Type 0 where
  pub bytes : List ℕ
  pub spelled : map Plain bytes ≡ text
  pub is : new ≡ take from old ++ (bytes ++ drop to old)
  pub ends : to ≡ from + length bytes

-- The bytes before `rest` were written.
pub record PrintsFront (old new : List ℕ) (from to : ℕ) (bytes rest : List ℕ) : Type 0 where
  pub done : List ℕ
  pub whole : bytes ≡ done ++ rest
  pub puts : Prints old new from to (map Plain done)
