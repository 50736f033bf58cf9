-- Defines the lines under a message in the way in which the code makes them. No clause of `check` cites this module.
use Rattle.std.specs.Prelude.{◌≡◌, ℕ, Bool, true, ◌+◌, ◌-◌, ◌≤◌, ◌==◌, ◌&&◌, min, if◌then◌else◌, List, [], ◌∷◌, ◌++◌, length, take, drop, replicate, nat_lt, IsUtf8}
use Rattle.std.specs.Str.{chars}
use Rattle.ixdtf_explanations.specs.LocatedTexts.{shown, column_of, cut_mark, indent_of}
use Rattle.ixdtf_buffers.specs.Lines.{newline}
use Rattle.ixdtf_checks.specs.declared.marked_text.Window.{Window}

-- The byte is the first byte of a character, and not a later one.
abbrev pub begins_character : ℕ → Bool
begins_character byte = if nat_lt byte 128 then true else nat_lt 191 byte

-- This is 1 if a character begins with the byte, and otherwise 0.
unfoldable pub begun : ℕ → ℕ
begun byte = if begins_character byte then 1 else 0

-- This is the number of characters that begin in the bytes.
abbrev pub starts : List ℕ → ℕ
starts [] = 0
starts (byte ∷ bytes) = begun byte + starts bytes

-- A byte of ASCII is shown as `shown` says, and any other byte is unchanged.
abbrev pub mask : ℕ → ℕ
mask byte = if nat_lt byte 128 then shown byte else byte

-- A text is shown with `.` for each control character. Such a character is one byte, or 0xC2 and a byte from 0x80 to 0x9F.
unfoldable pub masked : List ℕ → List ℕ
masked [] = []
masked (byte ∷ []) = mask byte ∷ []
masked (byte ∷ (next ∷ bytes)) = if (byte == 194) && nat_lt next 160 then 46 ∷ masked bytes else mask byte ∷ masked (next ∷ bytes)

-- These are the bytes of a window.
abbrev pub bytes_in : Window → List ℕ → List ℕ
bytes_in window bytes = drop window.start (take window.end bytes)

-- The window has at most 288 bytes, and at most 50 columns are before the mark.
pub record Fits (bytes : List ℕ) (window : Window) : Type 0 where
  pub order : window.start ≤ window.end
  pub within : window.end ≤ length bytes
  pub few : window.end ≤ window.start + 288
  pub narrow : window.indent ≤ 50

-- This is the position, or the number of bytes if that is less.
abbrev pub mark_of : List ℕ → ℕ → ℕ
mark_of bytes place = min place (length bytes)

-- The window has 48 bytes before the mark and 24 from it on, or fewer if the text has fewer.
pub record IsNear (bytes : List ℕ) (place : ℕ) (window : Window) : Type 0 where
  pub start : window.start ≡ mark_of bytes place - 48
  pub end : window.end ≡ min (length bytes) (mark_of bytes place + 24)
  pub indent : window.indent ≡ indent_of (mark_of bytes place)

-- The window has the characters that are shown.
pub record IsWindow (bytes : List ℕ) (place : ℕ) (window : Window) : Type 0 where
  pub before : nat_lt 0 window.start ≡ nat_lt 48 (column_of (chars bytes) place)
  pub behind : nat_lt window.end (length bytes) ≡ nat_lt (column_of (chars bytes) place + 24) (length (chars bytes))
  pub indent : window.indent ≡ indent_of (column_of (chars bytes) place)
  pub valid : IsUtf8 (bytes_in window bytes)
  pub characters : chars (bytes_in window bytes)
      ≡ drop (column_of (chars bytes) place - 48) (take (column_of (chars bytes) place + 24) (chars bytes))

-- These bytes follow the part of a text that is shown. `marks` is the number of marks.
abbrev pub behind_shown : List ℕ → Window → ℕ → List ℕ
behind_shown bytes window marks =
    cut_mark (nat_lt window.end (length bytes)) ++ ((newline ∷ replicate window.indent 32) ++ (replicate marks 94 ++ newline ∷ []))

-- These are the lines of a window. `part` is what is shown of its bytes.
abbrev pub window_lines : List ℕ → Window → ℕ → List ℕ → List ℕ
window_lines bytes window marks part = cut_mark (nat_lt 0 window.start) ++ (part ++ behind_shown bytes window marks)
