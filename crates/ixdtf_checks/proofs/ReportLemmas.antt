-- Proves that a run over lines writes the reports of the lines.
use Rattle.std.proofs.Common.{◌≡◌, refl, true, false, if◌then◌else◌, ℕ, ◌+◌, ◌-◌, min, ◌≤◌, ◌<◌, ◌^◌, List, [], ◌∷◌, ◌++◌, length, Option, None, Result, Ok, Err, OnOk, ap, subst, sym, ◌∙◌, arith}
use Rattle.std.specs.Io.KnownBytes.{Appends}
use Rattle.std.proofs.Common.{length-append}
use Rattle.std.specs.{Prelude.{◌==◌, ◌||◌, nat_lt, Bool}, Bool.MatchBool}
use Rattle.ixdtf_buffers.specs.{declared.error.RunError.RunError, Lines.{ended_lines_of, last_line_of, unended_of}, Output.{written}}
use Rattle.ixdtf_buffers.specs.Tasks.{Steps, Does, DoesFront}
use Rattle.std.proofs.lemmas.List.{append-nil}
use Rattle.ixdtf_buffers.proofs.LinesLemmas.{lines_most}
use Rattle.ixdtf_checks.specs.{Texts.text_of, declared.{request.{Request.Request, Format.TheVariants.{Text}}, tally.Tally.Tally, checking.Checking.Checking}, Checks.{Counts, Reports, ReportsFront, ReportsLine}, Second.AddsReports}
use Rattle.ixdtf_checks.proofs.SecondLemmas.{AddsReports-nil, AddsReports-trans, IsWritten-nil, failed_of, front-written, whole-of}
use Rattle.ixdtf_instants.specs.declared.instant.Instant.{Instant}
use Rattle.ixdtf_checks.specs.{Order.latest, Reports.{AreReports, AreVerdicts, IsFirst, IsHintIn, IsRefusalReport, IsReport, IsSecond, goes_to_second, has_hint, instant_in, last_instant, refusal_count, refusal_of, refusals_of}}
use Rattle.ixdtf_checks.specs.Verdicts.{Cause, IsHintAbout, Refusal, Tells, Verdict, IsVerdict, Verdict.{accepted, printed, skipped, refused}}

-- A line counts as at most one refused line.
one_most : (verdict : Verdict) → refusal_count verdict ≤ 1
one_most = elim [
  | accepted instant ↦ omega arith
  | printed canonical ↦ omega arith
  | skipped ↦ omega arith
  | refused instant cause ↦ omega arith
]

-- `earlier` has the verdicts on the lines so far. The code has counted these lines, and `last` is the instant of the last one that
-- has one.
record After (tally : Tally) (last : Option Instant) (earlier : List Verdict) : Type 0 where
  lines : tally.lines ≡ length earlier
  instant : last ≡ last_instant earlier

-- `count` more lines can be counted without overflow.
abbrev HasRoom : Tally → ℕ → Type 0
HasRoom tally count = (tally.lines + count < 2 ^ 64) × (tally.refused + count < 2 ^ 64)

-- A line that is refused for a cause has a report, if a report can tell the cause, and if it is known which hint is about it.
pub reported : (request : Request) (number refusals : ℕ) (instant : Option Instant) (cause : Cause) (refusal : Refusal) (hint : Option (List ℕ))
    → Tells cause refusal → IsHintAbout cause hint → (report : List ℕ) × IsReport request number refusals (refused instant cause) report
reported request number refusals instant cause refusal hint tells about = by_case (request.is_quiet || nat_lt request.most_reports refusals)
  where
    hinted : Bool
    hinted = has_hint request.format refusals

    shown : (test : Bool) → (given : Option (List ℕ)) × IsHintIn test cause given
    shown true = (hint, about)
    shown false = (None, refl)

    by_case : (unreported : Bool)
        → (report : List ℕ) × MatchBool unreported (report ≡ []) (IsRefusalReport request.format request.name.now number hinted cause report)
    by_case true = ([], refl)
    by_case false =
        let (given, is) = shown hinted in (refusal_of request.format request.name.now number refusal given, (refusal, given, tells, is, refl))

-- The name of the file is before a report without a name.
pub named : (name : List ℕ) (number : ℕ) (hinted : Bool) (cause : Cause) (report : List ℕ) → IsRefusalReport Text [] number hinted cause report
    → IsRefusalReport Text name number hinted cause (name ++ report)
named name number hinted cause report (refusal, hint, tells, is, same) = (refusal, hint, tells, is, ap (λ (rest : List ℕ). name ++ rest) same)

-- This is a report without a hint.
pub unhinted : (number : ℕ) (cause : Cause) (refusal : Refusal) → Tells cause refusal
    → IsRefusalReport Text [] number false cause (text_of [] number refusal.column refusal.message refusal.lines)
unhinted number cause refusal tells =
    (refusal, None, tells, refl, ap (λ (lines : List ℕ). text_of [] number refusal.column refusal.message lines) (sym (append-nil refusal.lines)))

-- The line has this verdict and this report, and it was counted. The report goes to one of the outputs, and nothing goes to the other one.
pub line_reported : {request : Request} {old new : Tally} {last next : Option Instant} {line : List ℕ} (verdict : Verdict) (report : List ℕ) (second : Bool)
    → goes_to_second request.task verdict ≡ second → IsReport request new.lines new.refused verdict report
    → IsVerdict request (old.lines == 0) last line verdict → next ≡ latest (instant_in verdict) last
    → new.lines ≡ min (old.lines + 1) (2 ^ 64 - 1) → new.refused ≡ min (old.refused + refusal_count verdict) (2 ^ 64 - 1)
    → ReportsLine request old new last next line (if second then [] else report) (if second then report else [])
line_reported {request = request} {new = new} verdict report second goes reports is instant lines refusals = record {
  verdict = verdict;
  is = is;
  instant = instant;
  lines = lines;
  refused = refusals;
  first_is = in_first second goes;
  second_is = in_second second goes;
}
  where
    -- These bytes go to the first output.
    in_first : (test : Bool) → goes_to_second request.task verdict ≡ test → IsFirst request new.lines new.refused verdict (if test then [] else report)
    in_first true goes = rw goes refl
    in_first false goes = rw goes reports

    -- These bytes go to the second output.
    in_second : (test : Bool) → goes_to_second request.task verdict ≡ test → IsSecond request new.lines new.refused verdict (if test then report else [])
    in_second true goes = rw goes reports
    in_second false goes = rw goes refl

-- The report of a line and the reports of the lines after it are those of all these lines. `Is` says what the report of one line is, for a
-- request.
one_before : (Is : Request → ℕ → ℕ → Verdict → List ℕ → Type 0) (before : ℕ) (verdicts : List Verdict) {request asked : Request} {number next refusals : ℕ} {verdict : Verdict} (put others : List ℕ)
    → asked ≡ request → next ≡ number → refusals ≡ before + refusal_count verdict → Is request next refusals verdict put
    → AreReports (Is asked) (next + 1) refusals verdicts others → AreReports (Is request) number before (verdict ∷ verdicts) (put ++ others)
one_before Is before verdicts {request = request} {asked = asked} {number = number} {next = next} {refusals = refusals} {verdict = verdict} put others same is count one more =
    let all = before + refusal_count verdict in (
      put,
      others,
      refl,
      subst (λ n. Is request n all verdict put) is (subst (λ k. Is request next k verdict put) count one),
      subst (λ r. AreReports (Is r) (number + 1) all verdicts others) same
          (subst (λ n. AreReports (Is asked) (n + 1) all verdicts others) is (subst (λ k. AreReports (Is asked) (next + 1) k verdicts others) count more)),
    )

module _ {E : Type 0} (contents : E → Option (List ℕ)) (failed : E → Type 0) where
  -- This is one step of a check: one line is reported and counted.
  abbrev Checks : Checking E → List ℕ → List ℕ → Checking E → Type 0
  Checks old line bytes new = (new.request ≡ old.request) × ((second : List ℕ)
      × ReportsLine old.request old.tally new.tally old.last new.last line bytes second × AddsReports contents failed old.second new.second second)

  -- The bytes are the reports of the next lines, and the code counted these lines.
  record AllReported (earlier : List Verdict) (old new : Checking E) (lines : List (List ℕ)) (bytes : List ℕ) : Type 0 where
    verdicts : List Verdict
    are : AreVerdicts old.request earlier lines verdicts
    reports : AreReports (IsFirst old.request) (old.tally.lines + 1) old.tally.refused verdicts bytes
    others : List ℕ
    second : AreReports (IsSecond old.request) (old.tally.lines + 1) old.tally.refused verdicts others
    adds : AddsReports contents failed old.second new.second others
    count : new.tally.lines ≡ old.tally.lines + length verdicts
    refusals : new.tally.refused ≡ old.tally.refused + refusals_of verdicts

  -- If the reports of the other lines are right, those of one more line before them are right too.
  one_more : {earlier : List Verdict} {old next new : Checking E} {line put other : List ℕ} {lines : List (List ℕ)} {others bytes : List ℕ}
      → bytes ≡ put ++ others → next.request ≡ old.request → After old.tally old.last earlier
      → (one : ReportsLine old.request old.tally next.tally old.last next.last line put other) → AddsReports contents failed old.second next.second other
      → next.tally.lines ≡ old.tally.lines + 1 → next.tally.refused ≡ old.tally.refused + refusal_count one.verdict
      → AllReported (one.verdict ∷ earlier) next new lines others → AllReported earlier old new (line ∷ lines) bytes
  one_more {earlier = earlier} {old = old} {next = next} {line = line} {put = put} {other = other} {lines = lines} {others = others} whole same stands one added number count more =
      let first = one.verdict in
      let rest = more.verdicts in
      record {
        verdicts = first ∷ rest;
        are = (
          subst (λ n. IsVerdict old.request (n == 0) (last_instant earlier) line first) stands.lines
              (subst (λ l. IsVerdict old.request (old.tally.lines == 0) l line first) stands.instant one.is),
          subst (λ r. AreVerdicts r (first ∷ earlier) lines rest) same more.are,
        );
        reports = rw whole (one_before IsFirst old.tally.refused rest put others same number count one.first_is more.reports);
        others = other ++ more.others;
        second = one_before IsSecond old.tally.refused rest other more.others same number count one.second_is more.second;
        adds = AddsReports-trans added more.adds;
        count = omega (arith, more.count, number);
        refusals = omega (arith, more.refusals, count);
      }

  all_reported : (earlier : List Verdict) (old new : Checking E) (lines : List (List ℕ)) (bytes : List ℕ) → HasRoom old.tally (length lines)
      → After old.tally old.last earlier → Steps Checks old lines bytes new → AllReported earlier old new lines bytes
  all_reported earlier old new [] bytes room stands (none, same) = record {
    verdicts = [];
    are = tt;
    reports = none;
    others = [];
    second = refl;
    adds = rw same AddsReports-nil;
    count = rw same (omega arith);
    refusals = rw same (omega arith);
  }
  all_reported earlier old new (line ∷ lines) bytes room stands (put, others, next, whole, (same, (other, one, added)), rest) =
      let number : next.tally.lines ≡ old.tally.lines + 1 = omega (arith, one.lines, room.0) in
      let count : next.tally.refused ≡ old.tally.refused + refusal_count one.verdict = omega (arith, one.refused, room.1, one_most one.verdict) in
      let now : After next.tally next.last (one.verdict ∷ earlier) =
      record { lines = omega (arith, number, stands.lines); instant = one.instant ∙ ap (λ l. latest (instant_in one.verdict) l) stands.instant } in
      one_more whole same stands one added number count
      (all_reported (one.verdict ∷ earlier) next new lines others (omega (arith, number, room.0), omega (arith, count, room.1, one_most one.verdict)) now rest)

  module _ (old new : Checking E) (request : Request) (tally : Tally) (lines : List (List ℕ)) (asked : old.request ≡ request)
      (none : old.tally.lines ≡ 0) (zero : old.tally.refused ≡ 0) (unseen : old.last ≡ None) (few : length lines < 2 ^ 64)
      (count : tally.lines ≡ new.tally.lines) (refusals : tally.refused ≡ new.tally.refused) where
    -- These are the reports of the first lines.
    some_reported : (first : List (List ℕ)) (bytes : List ℕ) → length first ≤ length lines → Steps Checks old first bytes new
        → (verdicts : List Verdict) × AreVerdicts request [] first verdicts × AreReports (IsFirst request) 1 0 verdicts bytes
        × ((others : List ℕ) × AreReports (IsSecond request) 1 0 verdicts others × AddsReports contents failed old.second new.second others)
        × Counts tally verdicts
    some_reported first bytes fewer steps =
        let start : After old.tally old.last [] = record { lines = none; instant = unseen } in
        let all = all_reported [] old new first bytes (omega (arith, none, few, fewer), omega (arith, zero, few, fewer)) start steps in (
          all.verdicts,
          subst (λ r. AreVerdicts r [] first all.verdicts) asked all.are,
          at_start IsFirst all.verdicts bytes all.reports,
          (all.others, at_start IsSecond all.verdicts all.others all.second, all.adds),
          record { lines = omega (arith, count, all.count, none); refused = omega (arith, refusals, all.refusals, zero) },
        )
      where
        at_start : (Is : Request → ℕ → ℕ → Verdict → List ℕ → Type 0) (verdicts : List Verdict) (bytes : List ℕ)
            → AreReports (Is old.request) (old.tally.lines + 1) old.tally.refused verdicts bytes → AreReports (Is request) 1 0 verdicts bytes
        at_start Is verdicts bytes are =
            let one : old.tally.lines + 1 ≡ 1 = omega (arith, none) in
            subst (λ r. AreReports (Is r) 1 0 verdicts bytes) asked
            (subst (λ k. AreReports (Is old.request) 1 k verdicts bytes) zero
            (subst (λ k. AreReports (Is old.request) k old.tally.refused verdicts bytes) one are))

    -- All bytes that were passed to the outputs were written. `after` is what is in the second output after a flush.
    pub reports : (start now after : Option (List ℕ)) → (old.second.has_failed ≡ false) × (old.second.output.waiting ≡ []) → new.second.has_failed ≡ false
        → (new.second.output.waiting ≡ [] → Appends (written contents new.second.output) after []) → Does Checks start now old new lines
        → Reports start now (written contents old.second.output) after request tally lines
    reports start now after began works keeps p =
        let (verdicts, are, is, (others, second, adds), counts) = some_reported lines p.bytes (omega arith) p.steps in
        record {
          verdicts = verdicts;
          are = are;
          bytes = p.bytes;
          reports = is;
          appended = p.appended;
          other_bytes = others;
          other_reports = second;
          second = whole-of contents failed new.second _ after _ (adds.written _ [] (IsWritten-nil contents failed old.second began)) works keeps;
          counts = counts;
        }

    -- A prefix of the reports of the first lines was written.
    pub reports_front : (start now after : Option (List ℕ)) → (old.second.has_failed ≡ false) × (old.second.output.waiting ≡ [])
        → (new.second.output.waiting ≡ [] → Appends (written contents new.second.output) after [])
        → (new.second.has_failed ≡ true → after ≡ written contents new.second.output) → DoesFront Checks start now old new lines
        → ReportsFront start now (written contents old.second.output) after request tally lines
    reports_front start now after began keeps still p =
        let fewer : length p.first ≤ length lines = omega (arith, ap length p.whole, length-append p.first p.others) in
        let (verdicts, are, is, (others, second, adds), counts) = some_reported p.first p.bytes fewer p.steps in
        record {
          first = p.first;
          others = p.others;
          whole = p.whole;
          verdicts = verdicts;
          are = are;
          bytes = p.bytes;
          reports = is;
          front = p.front;
          other_bytes = others;
          other_reports = second;
          second = front-written contents failed new.second _ after _ (adds.written _ [] (IsWritten-nil contents failed old.second began)) keeps still;
          counts = counts;
        }

  -- The second output still has the same sink.
  pub adds_of : (old new : Checking E) (lines : List (List ℕ)) (bytes : List ℕ) → Steps Checks old lines bytes new
      → (others : List ℕ) × AddsReports contents failed old.second new.second others
  adds_of old new [] bytes (none, same) = ([], rw same AddsReports-nil)
  adds_of old new (line ∷ lines) bytes (put, others, next, whole, (same, (other, one, added)), rest) =
      let (more, adds) = adds_of next new lines others rest in (other ++ more, AddsReports-trans added adds)

  -- If a write to the second output failed, this is known of its sink.
  pub second_failed : (old new : Checking E) (lines : List (List ℕ)) (bytes : List ℕ) → (old.second.has_failed ≡ false) × (old.second.output.waiting ≡ [])
      → Steps Checks old lines bytes new → new.second.has_failed ≡ true → failed new.second.output.sink.now
  second_failed old new lines bytes began steps stopped =
      let (others, adds) = adds_of old new lines bytes steps in
      failed_of contents failed new.second (written contents old.second.output) ([] ++ others)
      (adds.written _ [] (IsWritten-nil contents failed old.second began)) stopped

-- The number of lines that end with a newline is at most the number of bytes.
pub ended_most : (bytes : List ℕ) → length (ended_lines_of bytes) ≤ length bytes
ended_most bytes = omega (arith, lines_most bytes, length-append (ended_lines_of bytes) (last_line_of (unended_of bytes)))

-- A statement about a successful call follows from another one.
pub on_ok : (A B : Type 0) (r : Result (Unit {0}) RunError) → (A → B) → OnOk r A → OnOk r B
on_ok A B (Ok t) follows p = follows p
on_ok A B (Err e) follows p = tt
