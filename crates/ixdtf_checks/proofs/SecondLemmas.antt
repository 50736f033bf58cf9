-- What reaches the second output.
use Rattle.std.proofs.Common.{◌≡◌, ◌⊎◌, ◌∷◌, ℕ, List, [], ◌++◌, Bool, true, false, Option, Result, Ok, Err, OnOk, IfErr, inr, refl, sym, subst, ◌∙◌, append_assoc}
use Rattle.std.proofs.{lemmas.List.append-nil, KnownBytes.{Appends-nil, Appends-trans}}
use Rattle.std.specs.{Bool.MatchBool, Io.KnownBytes.Appends, Result.is_err}
use Rattle.ixdtf_buffers.specs.{declared.{error.RunError.{RunError, TheVariants.{Read, Write}}, output.Output.Output}, Output.{AppendsFront, Puts, written}}
use Rattle.ixdtf_buffers.proofs.OutputLemmas.{AppendsFront-more, Sent-all}
use Rattle.ixdtf_buffers.specs.{Lines.{lines_of, ended_lines_of, last_line_of, unended_of}, Tasks.{Does, DoesFront, Reads}}
use Rattle.ixdtf_checks.specs.{declared.second_output.SecondOutput.SecondOutput, Second.{AddsReports, IsWritten}}

-- A prefix of bytes was written after other bytes.
Front-after : (a b c : Option (List ℕ)) (xs : List ℕ) {ys : List ℕ} → Appends a b xs → AppendsFront b c ys → AppendsFront a c (xs ++ ys)
Front-after a b c xs p q =
    record { front = xs ++ q.front; rest = q.rest; whole = rw (q.whole, append_assoc) refl; appended = Appends-trans a b c xs q.front p q.appended }

Front-whole : {a b : Option (List ℕ)} {xs : List ℕ} → Appends a b xs → AppendsFront a b xs
Front-whole {xs = xs} p = record { front = xs; rest = []; whole = sym (append-nil xs); appended = p }

-- Two lists have no element together.
nil-left : (xs ys : List ℕ) → [] ≡ xs ++ ys → xs ≡ []
nil-left [] ys none = refl
nil-left (x ∷ xs) ys none = absurd (cc)

-- Nothing waited in the buffer, and nothing was put into the output.
pub Puts-nothing : {K : Type 0} {contents : K → Option (List ℕ)} {failed : K → Type 0} {x y : Output K} {r : Result (Unit {0}) RunError}
    → Puts contents failed x y r [] → x.waiting ≡ [] → Appends (written contents x) (written contents y) []
Puts-nothing {r = Ok t} puts none = let p = rw none at puts.ok in rw (nil-left p.front _ p.whole) at p.appended
Puts-nothing {r = Err e} puts none = let p = rw none at puts.err.2 in rw (nil-left p.front _ p.whole) at p.appended

-- At the beginning, nothing was written.
pub IsWritten-nil : {E : Type 0} (contents : E → Option (List ℕ)) (failed : E → Type 0) (second : SecondOutput E) → (second.has_failed ≡ false) × (second.output.waiting ≡ [])
    → IsWritten contents failed (written contents second.output) [] second
IsWritten-nil contents failed second (works, none) = rw works (none, Appends-nil (written contents second.output))

module _ {E : Type 0} {contents : E → Option (List ℕ)} {failed : E → Type 0} where
  pub AddsReports-nil : {output : SecondOutput E} → AddsReports contents failed output output []
  AddsReports-nil = record { same = refl; written = λ start before is. rw append-nil is }

  pub AddsReports-trans : {x y z : SecondOutput E} {first others : List ℕ} → AddsReports contents failed x y first → AddsReports contents failed y z others
      → AddsReports contents failed x z (first ++ others)
  AddsReports-trans {first = first} p q = record {
    same = q.same ∙ p.same;
    written = λ start before is. rw (← append_assoc) (q.written start (before ++ first) (p.written start before is));
  }

  -- A report was written, or the write failed.
  pub AddsReports-put : {old new : SecondOutput E} {r : Result (Unit {0}) RunError} {bytes : List ℕ} → old.has_failed ≡ false → new.has_failed ≡ is_err r
      → OnOk r (new.output.waiting ≡ []) → Puts contents failed old.output new.output r bytes → AddsReports contents failed old new bytes
  AddsReports-put {old = old} {new = new} {r = r} {bytes = bytes} works now empty puts = record { same = puts.same; written = on r now empty puts }
    where
      on : (r : Result (Unit {0}) RunError) → new.has_failed ≡ is_err r → OnOk r (new.output.waiting ≡ []) → Puts contents failed old.output new.output r bytes
          → (start : Option (List ℕ)) (before : List ℕ) → IsWritten contents failed start before old → IsWritten contents failed start (before ++ bytes) new
      on (Ok t) now empty puts start before is =
          let (none, appended) = rw works at is in
          rw now (empty, Appends-trans _ _ _ before bytes appended (Sent-all (rw none at puts.ok) empty))
      on (Err e) now empty puts start before is =
          let (none, appended) = rw works at is in rw now (puts.err.1, Front-after _ _ _ before appended (rw none at puts.err.2))

  -- Nothing more is written after a write failed.
  pub AddsReports-still : {second : SecondOutput E} (bytes : List ℕ) → second.has_failed ≡ true → AddsReports contents failed second second bytes
  AddsReports-still bytes stopped = record {
    same = refl;
    written = λ start before is. (let (holds, front) = rw stopped at is in rw stopped (holds, AppendsFront-more bytes front));
  }

-- Nothing was written to the output. If the result is an error, it has another cause.
pub Puts-none : {K : Type 0} {contents : K → Option (List ℕ)} {failed : K → Type 0} {ended : Type 0} {x : Output K} {r : Result (Unit {0}) RunError}
    → IfErr r (λ error. (error ≡ Write) × ended) → Puts contents (λ sink. failed sink ⊎ ended) x x r []
Puts-none {contents = contents} {x = x} {r = Ok t} err =
    record { same = refl; ok = record { front = []; whole = append-nil x.waiting; appended = Appends-nil (written contents x) }; err = tt }
Puts-none {contents = contents} {x = x} {r = Err e} err = record {
  same = refl;
  ok = tt;
  err = (err.0, inr err.1, record { front = []; rest = x.waiting ++ []; whole = refl; appended = Appends-nil (written contents x) });
}

-- All bytes that were written for the first lines are in the sink.
front-of : {T : Type 0} {step : T → List ℕ → List ℕ → T → Type 0} {s n : Option (List ℕ)} {old new : T} {first lines : List (List ℕ)} (others : List (List ℕ)) → lines ≡ first ++ others
    → Does step s n old new first → DoesFront step s n old new lines
front-of {first = first} others whole does = record { first = first; others = others; whole = whole; bytes = does.bytes; steps = does.steps; front = Front-whole does.appended }

-- However a run ended, a task handled the first lines.
pub ran : {T : Type 0} {step : T → List ℕ → List ℕ → T → Type 0} {old new : T} (s n a b : Option (List ℕ)) {count : ℕ} (flushed at_end failed stopped : Type 0) (end : Result (Unit {0}) RunError)
    → OnOk end (flushed × at_end × Reads a b count (λ bytes. Does step s n old new (lines_of bytes)))
    → (end ≡ Err Read → stopped × Reads a b count (λ bytes. Does step s n old new (ended_lines_of bytes)))
    → (end ≡ Err Write → failed × Reads a b count (λ bytes. DoesFront step s n old new (lines_of bytes)))
    → Reads a b count (λ bytes. DoesFront step s n old new (lines_of bytes))
ran s n a b flushed at_end failed stopped (Ok t) ok read write =
    let (is, last, (bytes, consumed, counted, does)) = ok in (bytes, consumed, counted, front-of [] (sym (append-nil _)) does)
ran s n a b flushed at_end failed stopped (Err Read) ok read write =
    let (is, (bytes, consumed, counted, does)) = read refl in (bytes, consumed, counted, front-of (last_line_of (unended_of bytes)) refl does)
ran s n a b flushed at_end failed stopped (Err Write) ok read write = (write refl).1

module _ {E : Type 0} (contents : E → Option (List ℕ)) (failed : E → Type 0) (second : SecondOutput E) (start after : Option (List ℕ)) (bytes : List ℕ)
    (is : IsWritten contents failed start bytes second) where
  -- No write failed, and all bytes were written. At the end, the buffer was written to the sink, and it was empty.
  pub whole-of : second.has_failed ≡ false → (second.output.waiting ≡ [] → Appends (written contents second.output) after []) → Appends start after bytes
  whole-of works keeps =
      let (none, appended) = rw works at is in
      subst (λ t. Appends start after t) (append-nil bytes) (Appends-trans start _ after bytes [] appended (keeps none))

  -- In any case, a prefix of the bytes was written.
  pub front-written : (second.output.waiting ≡ [] → Appends (written contents second.output) after [])
      → (second.has_failed ≡ true → after ≡ written contents second.output) → AppendsFront start after bytes
  front-written keeps still = by_case second.has_failed is still
    where
      by_case : (has_failed : Bool) → MatchBool has_failed (failed second.output.sink.now × AppendsFront start (written contents second.output) bytes)
          ((second.output.waiting ≡ []) × Appends start (written contents second.output) bytes)
          → (has_failed ≡ true → after ≡ written contents second.output) → AppendsFront start after bytes
      by_case true (holds, p) still = rw (still refl) p
      by_case false (none, p) still = Front-whole (subst (λ t. Appends start after t) (append-nil bytes) (Appends-trans start _ after bytes [] p (keeps none)))

-- A clause about success, for a result that is `Ok`.
pub ok_of : {A : Type 0} (r : Result (Unit {0}) RunError) → OnOk r A → r ≡ Ok tt → A
ok_of r p is = rw is at p

-- A write to the second output failed.
pub failed_of : {E : Type 0} (contents : E → Option (List ℕ)) (failed : E → Type 0) (second : SecondOutput E) (start : Option (List ℕ)) (bytes : List ℕ)
    → IsWritten contents failed start bytes second → second.has_failed ≡ true → failed second.output.sink.now
failed_of contents failed second start bytes is stopped = (rw stopped at is).0
