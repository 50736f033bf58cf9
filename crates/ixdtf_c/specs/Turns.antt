-- What a caller with a handler does, which uses the functions for C.
use Rattle.std.specs.{Prelude.{◌≡◌, ◌≢◌, ℕ, List, [], ◌∷◌, Option, Result, Ok, Err}, Option.option_or}
use Rattle.ixdtf.specs.{language.Brackets.Pair, table.Faults.Fault}
use Rattle.ixdtf.specs.Handlers.{Reply, RefusedBeside, first_calendar, NoneRefused, LastRefused, Calls, IsChain, Step, handed, replies_of}
use Rattle.ixdtf_c.specs.{Located.FaultAt, Numbers.number_for, Replying.IsFront}

-- A reply of the handler is passed to `ixdtf_reply`, if the handler returned one. `old` is the calendar that was kept before. If the
-- number is 0, the reply is not refused, and the first calendar is kept. Otherwise the number is the one of the error.
pub record HandsOver (old new : Option Pair) (reply : Reply) (number : ℕ) : Type 0 where
  pub accepted : number ≡ 0 → (fault : Fault) → ¬ (RefusedBeside old reply fault)
  pub kept : number ≡ 0 → new ≡ option_or old (first_calendar (reply ∷ []))
  pub refused : number ≢ 0 → (fault : Fault) × (number ≡ number_for fault) × RefusedBeside old reply fault

-- The handler was called for these annotations, in order. If the result is 0, it was called for all of them, no reply was refused, and
-- the first calendar is kept. Otherwise the last reply was refused, the result is the number of its error, and no annotation after it
-- was passed to the handler.
pub record InTurn {T U F : Type 0} (number : U → ℕ) (step : Step T U F) (handler last : F) (pairs : List Pair) (kept : Option Pair) (result : ℕ) : Type 0 where
  pub calls : Calls T U
  pub chain : IsChain step handler calls last
  pub asked : IsFront (handed number calls) pairs
  pub all : result ≡ 0 → handed number calls ≡ pairs
  pub accepted : result ≡ 0 → NoneRefused (replies_of number calls)
  pub first : result ≡ 0 → kept ≡ first_calendar (replies_of number calls)
  pub refused : result ≢ 0 → (fault : Fault) × (result ≡ number_for fault) × LastRefused (replies_of number calls) fault

-- The position of the error of an outcome, or 0 if there is no error.
abbrev pub place_in : {A : Type 0} → Result A FaultAt → ℕ
place_in (Ok found) = 0
place_in (Err e) = e.at

-- If the outcome is an error, its position is the one that the reader that listed has written.
abbrev pub StandsAs : {A : Type 0} → Result A FaultAt → Result A FaultAt → Type 0
StandsAs listed (Ok found) = Unit {0}
StandsAs listed (Err e) = e.at ≡ place_in listed
