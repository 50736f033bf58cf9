-- A handler is called for annotations in order, and its replies are passed to `ixdtf_reply`.
use Rattle.std.proofs.Common.{◌≡◌, ◌≢◌, ◌≤◌, ℕ, List, [], ◌∷◌, ◌++◌, length, map, take, drop, get_or, ◌<◌, ◌+◌, Option, None, Result, Ok, Err, refl, sym, ◌∙◌}
use Rattle.std.proofs.{Common.{ap, inl, arith, option_map, Bool, true, false}, SliceLists.chained_more}
use Rattle.std.proofs.lemmas.List.{map-append, length-append, take_more, take-append-drop, length-map}
use Rattle.std.specs.Option.{option_or}
use Rattle.ixdtf_grammar.specs.declared.{profile.Profile.Profile, records.Annotation.Annotation}
use Rattle.ixdtf.specs.{language.{Brackets.Pair, Letters.Text, Readers.{CoreKind, Reader.bracketed}, Languages.Parsed}, table.Faults.Fault}
use Rattle.ixdtf.specs.Handlers.{Reply, calendar_value, first_calendar, NoneRefused, LastRefused, Calls, IsChain, Step, handed, replies_of, pair_of, Handled}
use Rattle.ixdtf_reading.proofs.theorems.{Handled.handled_of, Replies.{first_calendar-more, NoneRefused-nothing, NoneRefused-more}}
use Rattle.ixdtf_c.specs.{Crossing.{Contents, Gives, units_for, is_there}, Listing.Lists, Located.{FaultAt, unplaced}, Replying.with_kept}
use Rattle.ixdtf_c.specs.{Standing.where_there, Turns.{HandsOver, InTurn, place_in, StandsAs}, Numbers.number_for}
use Rattle.ixdtf_c.proofs.{Numbers.{number_some, nowhere}, Replying.{overwritten-front, gives_all, front_of}}

-- ---- Annotations in order.

-- The first `i + 1` annotations are the first `i` annotations and the next one.
pub taken_more : {A : Type 0} (view : A → Pair) (annotations : List A) (i : ℕ) (d : A) → i < length annotations
    → map view (take (i + 1) annotations) ≡ map view (take i annotations) ++ view (get_or annotations i d) ∷ []
taken_more view annotations i d less =
    ap (map view) (take_more annotations i d less) ∙ map-append view (take i annotations) (get_or annotations i d ∷ [])

-- All annotations are the first `i + 1` annotations and the others.
pub taken_split : {A : Type 0} (view : A → Pair) (annotations : List A) (i : ℕ) (d : A) → i < length annotations
    → map view annotations ≡ (map view (take i annotations) ++ view (get_or annotations i d) ∷ []) ++ map view (drop (i + 1) annotations)
taken_split view annotations i d less =
    ap (map view) (sym (take-append-drop (i + 1) annotations)) ∙ map-append view (take (i + 1) annotations) (drop (i + 1) annotations)
    ∙ ap (λ front. front ++ map view (drop (i + 1) annotations)) (taken_more view annotations i d less)

module _ {T U F : Type 0} (number : U → ℕ) (step : Step T U F) (handler : F) where
  -- The handler was called for these annotations, none of its replies was refused, and this calendar is kept.
  pub record SoFar (state : F) (pairs : List Pair) (kept : Option Pair) : Type 0 where
    pub calls : Calls T U
    pub chain : IsChain step handler calls state
    pub asked : handed number calls ≡ pairs
    pub accepted : NoneRefused (replies_of number calls)
    pub first : kept ≡ first_calendar (replies_of number calls)

  pub so_far_none : (kept : Option Pair) → kept ≡ None → SoFar handler [] kept
  so_far_none kept none = record { calls = []; chain = refl; asked = refl; accepted = NoneRefused-nothing; first = none }

  -- The handler is called for one more annotation.
  module _ {state : F} {pairs : List Pair} {kept : Option Pair} {annotation : Annotation T U} {reply : Option (Annotation T U)} {next : F}
      (so_far : SoFar state pairs kept) (called : step state annotation reply next) where
    more_calls : Calls T U
    more_calls = so_far.calls ++ (annotation, reply) ∷ []

    more_chain : IsChain step handler more_calls next
    unfolding more_calls
    more_chain = chained_more (λ f call g. step f call.0 call.1 g) handler so_far.calls state (annotation, reply) next so_far.chain called

    more_handed : handed number more_calls ≡ pairs ++ pair_of number annotation ∷ []
    unfolding more_calls
    more_handed = map-append (λ call. pair_of number call.0) so_far.calls ((annotation, reply) ∷ [])
        ∙ ap (λ all. all ++ pair_of number annotation ∷ []) so_far.asked

    more_replies : replies_of number more_calls ≡ replies_of number so_far.calls ++ option_map (pair_of number) reply ∷ []
    unfolding more_calls
    more_replies = map-append (λ call. option_map (pair_of number) call.1) so_far.calls ((annotation, reply) ∷ [])

    pub so_far_more : {new : Option Pair} {result : ℕ} (all : List Pair) → HandsOver kept new (option_map (pair_of number) reply) result → result ≡ 0
        → all ≡ pairs ++ pair_of number annotation ∷ [] → SoFar next all new
    so_far_more {new} all over zeroed is = record {
      calls = more_calls;
      chain = more_chain;
      asked = more_handed ∙ sym is;
      accepted = rw more_replies (NoneRefused-more (replies_of number so_far.calls) (option_map (pair_of number) reply) so_far.accepted
          (λ fault. rw (← so_far.first) (over.accepted zeroed fault)));
      first = over.kept zeroed ∙ ap (λ c. option_or c (first_calendar (option_map (pair_of number) reply ∷ []))) so_far.first
          ∙ sym (first_calendar-more (replies_of number so_far.calls) (option_map (pair_of number) reply)) ∙ ap first_calendar (sym more_replies);
    }

    -- The reply is refused, and the annotations `behind` follow.
    pub refused_in_turn : {new : Option Pair} {result : ℕ} (all behind : List Pair) → HandsOver kept new (option_map (pair_of number) reply) result → result ≢ 0
        → all ≡ (pairs ++ pair_of number annotation ∷ []) ++ behind → InTurn number step handler next all new result
    refused_in_turn {new} all behind over refused is = record {
      calls = more_calls;
      chain = more_chain;
      asked = (behind, is ∙ ap (λ front. front ++ behind) (sym more_handed));
      all = λ zeroed. absurd (refused zeroed);
      accepted = λ zeroed. absurd (refused zeroed);
      first = λ zeroed. absurd (refused zeroed);
      refused = λ other. let (fault, named, beside) = over.refused refused in (
        fault,
        named,
        record {
          earlier = replies_of number so_far.calls;
          reply = option_map (pair_of number) reply;
          split = more_replies;
          none = so_far.accepted;
          refused = rw (← so_far.first) beside;
        },
      );
    }

-- ---- The outcome.

-- The record gets the calendar that was kept.
pub kept_given : (number : ℕ) (old new : Contents) (listed : Result Parsed FaultAt) (kept : Option Pair) (units : List ℕ) (there : Bool)
    → Gives (λ found. found) listed number old new → number ≡ 0 → units ≡ units_for (calendar_value kept) → there ≡ is_there (calendar_value kept)
    → Gives (λ found. found) (with_kept kept listed) number old (record new { calendar = units; has_calendar = there })
kept_given number old new (Ok found) kept units there given zeroed is_units is_there = (given.0, rw (given.1, is_units, is_there) refl)
kept_given number old new (Err e) kept units there given zeroed is_units is_there = absurd (number_some e.fault (sym given.0 ∙ zeroed))

pub there_kept : (there : Bool) (pair : Pair) → there ≡ is_there (calendar_value (where_there there pair))
there_kept true pair = refl
there_kept false pair = refl

-- The calendar can be added before or after the position of an error is dropped.
unplaced_kept : (kept : Option Pair) (listed : Result Parsed FaultAt) → unplaced (with_kept kept listed) ≡ with_kept kept (unplaced listed)
unplaced_kept kept (Ok found) = refl
unplaced_kept kept (Err e) = refl

-- The calendar does not change an outcome that is an error.
pub kept_refused : (number : ℕ) (old new : Contents) (listed : Result Parsed FaultAt) (kept : Option Pair)
    → Gives (λ found. found) listed number old new → number ≢ 0 → Gives (λ found. found) (with_kept kept listed) number old new
kept_refused number old new (Ok found) kept given some = absurd (some given.0)
kept_refused number old new (Err e) kept given some = given

-- If a reply is refused, the location in the record is empty, and the position is this one.
pub refused_given : (number at : ℕ) (old : Contents) (replies : List Reply) (fault : Fault) → number ≡ number_for fault → LastRefused replies fault
    → Gives (λ found. found) (Err (record { fault = fault; at = at })) number old (record old { location = []; place = at })
refused_given number at old replies fault named last =
    (named, λ i. record old { location = sym (nowhere (first_calendar last.earlier) last.reply fault last.refused) i; place = at })

-- The position that a reader wrote is the one of its outcome.
pub place_listed : (number : ℕ) (old new : Contents) (listed : Result Parsed FaultAt) → Gives (λ found. found) listed number old new
    → new.place ≡ place_in listed
place_listed number old new (Ok found) given = ap (λ it. it.place) given.1
place_listed number old new (Err e) given = ap (λ it. it.place) given.1

pub stands_kept : (kept : Option Pair) (listed : Result Parsed FaultAt) → StandsAs listed (with_kept kept listed)
stands_kept kept (Ok found) = tt
stands_kept kept (Err e) = refl

-- All annotations were listed, and the handler was called for them in order. Then the contract of a reader with a handler is true.
module _ {T U F A : Type 0} {number : U → ℕ} {step : Step T U F} {handler last : F} {view : A → Pair} {profile : Profile} {kind : CoreKind}
    {text : Text} {old new : List A} {count result : ℕ} {listed : Result Parsed FaultAt} {kept : Option Pair}
    (listing : Lists view profile (bracketed kind) text old new count listed) (room : count ≤ length old)
    (turns : InTurn number step handler last (map view (take count new)) kept result) where
  shown : map view (take count new) ≡ map view listing.annotations
  shown = ap (map view) (rw (listing.counted, listing.written) (overwritten-front old listing.annotations (rw (← listing.counted) room)))

  -- None of the replies was refused.
  pub handled_all : result ≡ 0 → Handled number step handler (bracketed kind) text (unplaced (with_kept kept listed))
  handled_all zeroed = rw (unplaced_kept kept listed) (handled_of number step handler (bracketed kind) text (with_kept kept (unplaced listed)) turns.calls last turns.chain
      (rw (turns.first zeroed, turns.all zeroed ∙ shown)
      (gives_all profile kind text (map view listing.annotations) listed (replies_of number turns.calls) listing.read (turns.accepted zeroed))))

  -- The last of the replies was refused.
  pub handled_refused : (fault : Fault) → LastRefused (replies_of number turns.calls) fault → Handled number step handler (bracketed kind) text (Err fault)
  handled_refused fault stop =
      let (behind, is) = turns.asked in
      let split : map view listing.annotations ≡ handed number turns.calls ++ behind = sym shown ∙ is in
      let lengths : length (replies_of number turns.calls) ≡ length (handed number turns.calls) = length-map turns.calls _ ∙ sym (length-map turns.calls _) in
      let some : handed number turns.calls ++ behind ≢ [] = λ none. omega (
        arith,
        lengths,
        ap length stop.split,
        length-append stop.earlier (stop.reply ∷ []),
        ap length none,
        length-append (handed number turns.calls) behind,
      ) in
      handled_of number step handler (bracketed kind) text (Err fault) turns.calls last turns.chain
      (inl (front_of profile kind text (map view listing.annotations) listed (handed number turns.calls) behind listing.read split some, stop))
