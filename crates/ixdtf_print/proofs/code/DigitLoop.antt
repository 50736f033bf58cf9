-- Digits of a number, the last one first.
use Rattle.std.proofs.Common.{ℕ, zero, suc, ◌+◌, ◌-◌, ◌/◌, ◌%◌, ◌^◌, ◌<◌, ◌≤◌, ◌≡◌, List, [], ◌∷◌, ◌++◌, length, set, refl, sym, ◌∙◌, ap, arith, append_assoc}
use Rattle.std.proofs.{Common.{append-nil, subst}, Math.Nat.{pow-succ', div-one, div-div-eq-div-mul}, lemmas.List.length-append}
use Rattle.ixdtf.specs.language.{Letters.{Text, Letter.Plain}, Digits.padded_digits}
use Rattle.ixdtf_grammar.proofs.PaddedDigits.{length-padded}
use Rattle.ixdtf_print.specs.Prints.{HasRoom, Prints}
use Rattle.ixdtf_print.proofs.code.PutBytes.{text_long, puts_length, puts_nothing, puts_before}

-- The digits of a number are the digits of `number / 10` and its last digit.
pub last_digit : (count number : ℕ) → padded_digits (suc count) number ≡ padded_digits count (number / 10) ++ (Plain (48 + number % 10) ∷ [])
last_digit zero number = rw div-one refl
last_digit (suc count) number =
    let tenth : number / 10 ^ suc count ≡ number / 10 / 10 ^ count = ap (λ n. number / n) (pow-succ' 10 count)
    ∙ sym (div-div-eq-div-mul number 10 (10 ^ count)) in
    rw (tenth, last_digit count number) refl

-- The last digits of a number were written. The digits of `left`, the rest of the number, go before them.
pub record LastDigits (old new : List ℕ) (from place to left count number : ℕ) : Type 0 where
  pub begun : from ≤ place
  pub done : Text
  pub puts : Prints old new place to done
  pub whole : padded_digits (place - from) left ++ done ≡ padded_digits count number

pub no_digit : (out : List ℕ) (from count number : ℕ) → LastDigits out out from (from + count) (from + count) number count number
no_digit out from count number =
    let all : from + count - from ≡ count = omega arith in
    record {
      begun = omega arith;
      done = [];
      puts = puts_nothing out (from + count);
      whole = rw (all, append-nil (padded_digits count number)) refl;
    }

module _ {old new : List ℕ} {from place to left count number : ℕ} where
  -- The written digits end at the index after the complete number.
  ends_all : LastDigits old new from place to left count number → to ≡ from + count
  ends_all d =
      omega (
        arith,
        d.begun,
        text_long old new place to d.done d.puts,
        length-append (padded_digits (place - from) left) d.done,
        ap length d.whole,
        length-padded (place - from) left,
        length-padded count number,
      )

  -- The slice has enough bytes before the written digits.
  pub inside_room : HasRoom old from (padded_digits count number) → LastDigits old new from place to left count number
      → (place ≤ length old) × (length new ≡ length old)
  inside_room room d =
      let inside : to ≤ length old = omega (arith, room.room, length-padded count number, ends_all d) in
      (omega (arith, inside, d.puts.ends), puts_length old new place to d.done d.puts inside)

  pub next_digit : HasRoom old from (padded_digits count number) → from < place → LastDigits old new from place to left count number
      → LastDigits old (set new (place - 1) (48 + left % 10)) from (place - 1) to (left / 10) count number
  next_digit room more d =
      let one_less : place - from ≡ suc (place - 1 - from) = omega arith in
      record {
        begun = omega arith;
        done = Plain (48 + left % 10) ∷ d.done;
        puts = puts_before (place - 1) (48 + left % 10) (omega arith) (inside_room room d).0 d.puts;
        whole = sym (append_assoc (padded_digits (place - 1 - from) (left / 10)) _ d.done)
            ∙ ap (λ t. t ++ d.done) (sym (last_digit (place - 1 - from) left)) ∙ ap (λ k. padded_digits k left ++ d.done) (sym one_less) ∙ d.whole;
      }

  pub all_digits : place ≤ from → LastDigits old new from place to left count number → Prints old new from to (padded_digits count number)
  all_digits least d =
      let here : place ≡ from = omega (arith, d.begun) in
      let none : place - from ≡ 0 = omega arith in
      subst (Prints old new from to) (ap (λ k. padded_digits k left ++ d.done) (sym none) ∙ d.whole) (subst (λ k. Prints old new k to d.done) here d.puts)

-- One step writes two digits.
pub next_pair : {old new : List ℕ} {from place to left count number : ℕ} (pair here rest tens ones : ℕ) → HasRoom old from (padded_digits count number)
    → 2 ≤ place - from → pair ≡ left % 100 → tens ≡ 48 + pair / 10 % 10 → ones ≡ 48 + pair % 10 → here ≡ place - 2 → rest ≡ left / 100
    → LastDigits old new from place to left count number → LastDigits old (set (set new (place - 1) ones) here tens) from here to rest count number
next_pair {place = place} {left = left} pair here rest tens ones room more p t o h r d =
    let last : ones ≡ 48 + left % 10 = omega arith in
    let first : tens ≡ 48 + left / 10 % 10 = omega arith in
    let before : here ≡ place - 1 - 1 = omega arith in
    let hundredth : rest ≡ left / 10 / 10 = omega arith in
    rw (last, first, before, hundredth) (next_digit room (omega arith) (next_digit room (omega arith) d))

-- If the number of digits is odd, the first digit is written on its own.
pub first_digit : {old new : List ℕ} {from place to left count number : ℕ} → HasRoom old from (padded_digits count number) → place ≡ from + 1
    → LastDigits old new from place to left count number → Prints old (set new from (48 + left % 10)) from to (padded_digits count number)
first_digit {old = old} {new = new} {from = from} {place = place} {to = to} {left = left} {count = count} {number = number} room e d =
    let before : place - 1 ≡ from = omega arith in
    let all : LastDigits old (set new (place - 1) (48 + left % 10)) from (place - 1) to (left / 10) count number = next_digit room (omega arith) d in
    subst (λ k. Prints old (set new k (48 + left % 10)) from to (padded_digits count number)) before (all_digits (omega arith) all)

pub ruleset digit_steps = (length-padded, inside_room)
