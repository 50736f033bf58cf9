-- If a caller replies in order to the annotations that a reader listed, the outcome is the one of a reader with a handler.
use Rattle.std.proofs.Common.{◌≡◌, ◌≢◌, ◌⊎◌, ℕ, zero, suc, ◌≤◌, List, [], ◌∷◌, ◌++◌, length, map, take, drop, Option, Some, None, Result, Ok, Err, refl, sym}
use Rattle.std.proofs.{Common.{◌∙◌, ap, inl, inr, arith}, lemmas.List.{append-nil, append_assoc, length-append, length-map, length-take-le, take-append-drop}}
use Rattle.std.specs.Option.{option_or}
use Rattle.ixdtf_grammar.specs.declared.profile.Profile.{Profile}
use Rattle.ixdtf.specs.{language.{Brackets.Pair, Letters.Text, Readers.{CoreKind, Reader.bracketed}, Languages.Parsed}, table.Faults.Fault}
use Rattle.ixdtf.specs.{Handlers.{Reply, first_calendar, NoneRefused, LastRefused, HasFront, Step, Handled, handed, replies_of}, Laws.GivesResult}
use Rattle.ixdtf_reading.proofs.theorems.{OneChain.{Replying, GivesChain, only_chain, derived_front, row_front}, Replies.first_calendar-more}
use Rattle.ixdtf_reading.proofs.theorems.Replies.{NoneRefused-nothing, NoneRefused-more}
use Rattle.ixdtf_c.specs.{Listing.{PassesOver, overwritten}, Located.{FaultAt, unplaced}}
use Rattle.ixdtf_c.specs.Replying.{with_kept, Replied, IsFront, ReplyingGives, ReplyingIsHandling}

-- ---- The list.

-- If the array is long enough for all items, its first elements are the items.
pub overwritten-front : {A : Type 0} (slots items : List A) → length items ≤ length slots → take (length items) (overwritten slots items) ≡ items
overwritten-front slots [] room = refl
overwritten-front [] (item ∷ items) room = absurd (omega (arith, room))
overwritten-front (slot ∷ slots) (item ∷ items) room = ap (λ rest. item ∷ rest) (overwritten-front slots items (omega (arith, room)))

-- ---- Replies in order.

pub zero_or_not : (number : ℕ) → (number ≡ 0) ⊎ (number ≢ 0)
zero_or_not zero = inl refl
zero_or_not (suc n) = inr (λ is. omega (arith, is))

option_or-none : {A : Type 0} (kept : Option A) → option_or kept None ≡ kept
option_or-none None = refl
option_or-none (Some x) = refl

-- There are two cases. Either no reply is refused, and the outcome is the one of the reader that listed, with the calendar that is
-- kept. Or the outcome is the error of the first reply that is refused.
abbrev Settled : List Reply → Result Parsed Fault → Result Parsed Fault → Type 0
Settled all listed outcome = (NoneRefused all × (outcome ≡ with_kept (first_calendar all) listed))
    ⊎ ((front back : List Reply) × (all ≡ front ++ back) × (fault : Fault) × (outcome ≡ Err fault) × LastRefused front fault)

module _ (listed outcome : Result Parsed Fault) where
  -- None of the replies before was refused.
  settled : (given rest : List Reply) (kept : Option Pair) → NoneRefused given → kept ≡ first_calendar given → Replied kept rest listed outcome
      → Settled (given ++ rest) listed outcome
  settled given [] kept none is replied =
      rw (append-nil given) (inl (none, replied ∙ ap (λ first. with_kept first listed) is))
  settled given (None ∷ rest) kept none is replied =
      let same : kept ≡ first_calendar (given ++ None ∷ []) = is ∙ sym (option_or-none (first_calendar given)) ∙ sym (first_calendar-more given None) in
      rw (← (append_assoc given (None ∷ []) rest)) (settled (given ++ None ∷ []) rest kept (NoneRefused-more given None none (λ fault h. h)) same replied)
  settled given (Some reply ∷ rest) kept none is (number, next, takes, on, stop) = elim (zero_or_not number) [
    | inl zeroed ↦
        let accepted : (fault : Fault) → ¬ (_) = λ fault h. takes.accepted.0 zeroed fault (rw is h) in
        let same : next ≡ first_calendar (given ++ Some reply ∷ []) = takes.kept zeroed ∙ ap (λ first. option_or first (first_calendar (Some reply ∷ []))) is
        ∙ sym (first_calendar-more given (Some reply)) in
        rw (← (append_assoc given (Some reply ∷ []) rest)) (settled (given ++ Some reply ∷ []) rest next
        (NoneRefused-more given (Some reply) none accepted) same (on zeroed))
    | inr refused ↦
        let (fault, named) = takes.named refused in
        inr (
          given ++ Some reply ∷ [],
          rest,
          sym (append_assoc given (Some reply ∷ []) rest),
          fault,
          stop fault named,
          record {
            earlier = given;
            reply = Some reply;
            split = refl;
            none = none;
            refused = rw (← is) ((takes.refused fault).0 named);
          },
        )
  ]

-- The text gives the outcome with the first of the annotations and the replies to them.
abbrev Gives : CoreKind → Text → List Pair → List Reply → Result Parsed Fault → Type 0
Gives kind text pairs replies outcome =
    (asked : List Pair) × (given : List Reply) × IsFront asked pairs × IsFront given replies × (length given ≡ length asked)
    × GivesResult (bracketed kind) text asked given outcome

module _ (profile : Profile) (kind : CoreKind) (text : Text) (pairs : List Pair) where
  -- No reply is refused.
  pub gives_all : (listed : Result Parsed FaultAt) (replies : List Reply) → PassesOver profile (bracketed kind) text pairs listed → NoneRefused replies
      → GivesResult (bracketed kind) text pairs replies (with_kept (first_calendar replies) (unplaced listed))
  gives_all (Ok found) replies passes none = record { read = found; whole = (passes.ok found).0 refl; accepted = none; has = refl }
  gives_all (Err e) replies passes none = let (row, fits, has, there) = passes.err e refl in inr ((row, fits, has), none)

  -- The prefix of the text that ends after the annotation whose reply is refused.
  pub front_of : (listed : Result Parsed FaultAt) (xs ys : List Pair) → PassesOver profile (bracketed kind) text pairs listed → pairs ≡ xs ++ ys → xs ++ ys ≢ []
      → HasFront (bracketed kind) text xs
  front_of (Ok found) xs ys passes split some = derived_front kind text found pairs xs ys ((passes.ok found).0 refl) split
  front_of (Err e) xs ys passes split some = let (row, fits, has, there) = passes.err e refl in row_front kind row pairs xs ys text fits split some

  gives : (listed : Result Parsed FaultAt) (outcome : Result Parsed Fault) (replies : List Reply) → PassesOver profile (bracketed kind) text pairs listed
      → length replies ≡ length pairs → Settled replies (unplaced listed) outcome → Gives kind text pairs replies outcome
  gives listed outcome replies passes each (inl (none, is)) =
      (pairs, replies, ([], sym (append-nil pairs)), ([], sym (append-nil replies)), each, rw is (gives_all listed replies passes none))
  gives listed outcome replies passes each (inr (front, back, is, fault, faulted, last)) =
      let n = length front in
      let fits : n ≤ length pairs = omega (arith, each, ap length is, length-append front back) in
      let split : pairs ≡ take n pairs ++ drop n pairs = sym (take-append-drop n pairs) in
      let some : 1 ≤ n = omega (arith, ap length last.split, length-append last.earlier (last.reply ∷ [])) in
      let some_pair : take n pairs ++ drop n pairs ≢ [] = λ none. omega (arith, fits, some, ap length (split ∙ none)) in (
        take n pairs,
        front,
        (drop n pairs, split),
        (back, is),
        sym (length-take-le n pairs fits),
        rw faulted (inl (front_of listed (take n pairs) (drop n pairs) passes split some_pair, last)),
      )

-- ---- A list of replies has one outcome.

-- One reply for each annotation. Missing replies are `None`, and further replies are left out.
abbrev by_place : List Reply → List Pair → List Reply
by_place all [] = []
by_place [] (pair ∷ pairs) = None ∷ by_place [] pairs
by_place (reply ∷ all) (pair ∷ pairs) = reply ∷ by_place all pairs

by_place-more : (all : List Reply) (pairs : List Pair) (pair : Pair) → (reply : Reply) × (by_place all (pairs ++ pair ∷ []) ≡ by_place all pairs ++ reply ∷ [])
by_place-more [] [] pair = (None, refl)
by_place-more (reply ∷ all) [] pair = (reply, refl)
by_place-more [] (first ∷ pairs) pair = let (reply, is) = by_place-more [] pairs pair in (reply, ap (λ rest. None ∷ rest) is)
by_place-more (x ∷ all) (first ∷ pairs) pair = let (reply, is) = by_place-more all pairs pair in (reply, ap (λ rest. x ∷ rest) is)

by_place-front : (given more : List Reply) (pairs : List Pair) → length given ≡ length pairs → by_place (given ++ more) pairs ≡ given
by_place-front [] more [] same = refl
by_place-front [] more (pair ∷ pairs) same = absurd (omega (arith, same))
by_place-front (reply ∷ given) more [] same = absurd (omega (arith, same))
by_place-front (reply ∷ given) more (pair ∷ pairs) same = ap (λ rest. reply ∷ rest) (by_place-front given more pairs (omega (arith, same)))

replying : (all : List Reply) → Replying (by_place all)
replying all = record { nothing = nothing all; more = by_place-more all }
  where
    nothing : (all : List Reply) → by_place all [] ≡ []
    nothing [] = refl
    nothing (reply ∷ all) = refl

module _ (kind : CoreKind) (text : Text) (all : List Reply) where
  by_places : (pairs : List Pair) (given : List Reply) (outcome : Result Parsed Fault) → IsFront given all → length given ≡ length pairs
      → GivesResult (bracketed kind) text pairs given outcome → GivesChain (by_place all) (replying all) kind text (pairs, outcome)
  by_places pairs given outcome (more, is) same h = rw (is, by_place-front given more pairs same) h

  -- If the text gives outcomes with two beginnings of this list of replies, both outcomes are equal, and so are the annotations.
  same_chain : (asked others : List Pair) (given replies : List Reply) (outcome result : Result Parsed Fault) → IsFront given all → IsFront replies all
      → length given ≡ length asked → length replies ≡ length others
      → GivesResult (bracketed kind) text asked given outcome → GivesResult (bracketed kind) text others replies result
      → (asked ≡ others) × (result ≡ outcome)
  same_chain asked others given replies outcome result x y m n g h =
      let one = only_chain (by_place all) (replying all) kind text in
      let same : (asked, outcome) ≡ (others, result) =
      one.2 (asked, outcome) (by_places asked given outcome x m g) ∙ sym (one.2 (others, result) (by_places others replies result y n h)) in
      (ap (λ chain. chain.0) same, sym (ap (λ chain. chain.1) same))

-- ---- The laws.

pub replying_gives : {A : Type 0} (view : A → Pair) → ReplyingGives view
replying_gives view profile kind text pairs replies outcome h =
    let listing = h.lists in
    let shown : take h.count h.new ≡ listing.annotations =
    rw (listing.counted, listing.written) (overwritten-front h.old listing.annotations (rw (← listing.counted) h.room)) in
    let is : pairs ≡ map view listing.annotations = h.all ∙ ap (map view) shown in
    let each : length replies ≡ length pairs = h.each ∙ listing.counted ∙ sym (length-map listing.annotations view) ∙ sym (ap length is) in
    gives profile kind text pairs h.listed outcome replies (rw is listing.read) each
    (settled (unplaced h.listed) outcome [] replies None NoneRefused-nothing refl h.replied)

-- The contract of a reader with a handler, about its chain of calls.
handled_gives : {T U F : Type 0} (number : U → ℕ) (step : Step T U F) (handler : F) (kind : CoreKind) (text : Text) (result : Result Parsed Fault)
    (h : Handled number step handler (bracketed kind) text result)
    → GivesResult (bracketed kind) text (handed number h.calls) (replies_of number h.calls) result
handled_gives number step handler kind text (Ok found) h = (h.ok found).0 refl
handled_gives number step handler kind text (Err fault) h = h.err fault refl

pub replying_is_handling : {T U F A : Type 0} (view : A → Pair) (number : U → ℕ) (step : Step T U F) → ReplyingIsHandling view number step
replying_is_handling view number step profile kind text pairs replies outcome h handler result handled front =
    let (asked, given, first, begins, same, gives) = replying_gives view profile kind text pairs replies outcome h in
    let lengths : length (replies_of number handled.calls) ≡ length (handed number handled.calls) =
    length-map handled.calls _ ∙ sym (length-map handled.calls _) in
    let one = same_chain kind text replies asked (handed number handled.calls) given
    (replies_of number handled.calls) outcome result begins front same lengths gives
    (handled_gives number step handler kind text result handled) in
    (one.1, rw (← one.0) first)
