-- Proves the answer to a line by whether it has a space.
use Rattle.std.proofs.{Common.{◌≡◌, ℕ, ◌+◌, ◌-◌, ◌<◌, ◌≤◌, List, length, take, drop, Some, None, position, refl, arith}, lemmas.{Bool.{le-ltb, lt-ltb}, List.{take_all, length-drop}}}
use Rattle.ixdtf_answers.specs.Answer.{line_limit, is_space, too_long, unknown_reader, IsAnswer, IsReaderAnswer, IsExplainAnswer, IsNamedExplanation}

pub IsAnswer-word : (line answer : List ℕ) (place : ℕ) → length line ≤ line_limit → Some place ≡ position is_space line
    → IsReaderAnswer (take place line) (take (length line - (place + 1)) (drop (place + 1) line)) answer → IsAnswer line answer
IsAnswer-word line answer place short at is =
    let text = drop (place + 1) line in
    let all : take (length line - (place + 1)) text ≡ text = take_all _ text (omega (arith, length-drop (place + 1) line)) in
    rw (le-ltb line_limit (length line) short, ← at) (rw all at is)

-- A line that is too long has this answer.
pub IsAnswer-long : (line : List ℕ) → line_limit < length line → IsAnswer line too_long
IsAnswer-long line long = rw (lt-ltb line_limit (length line) long) refl

-- A line without a space names no reader.
pub IsAnswer-none : (line : List ℕ) → length line ≤ line_limit → None ≡ position is_space line → IsAnswer line unknown_reader
IsAnswer-none line short none = rw (le-ltb line_limit (length line) short, ← none) refl

-- The answer to `explain` and bytes with a space.
pub IsExplainAnswer-word : (bytes answer : List ℕ) (place : ℕ) → Some place ≡ position is_space bytes
    → IsNamedExplanation (take place bytes) (take (length bytes - (place + 1)) (drop (place + 1) bytes)) answer → IsExplainAnswer bytes answer
IsExplainAnswer-word bytes answer place at is =
    let text = drop (place + 1) bytes in
    let all : take (length bytes - (place + 1)) text ≡ text = take_all _ text (omega (arith, length-drop (place + 1) bytes)) in
    rw (← at) (rw all at is)

pub IsExplainAnswer-none : (bytes : List ℕ) → None ≡ position is_space bytes → IsExplainAnswer bytes unknown_reader
IsExplainAnswer-none bytes none = rw (← none) refl
