-- The invariant of the loop over the annotations, and what follows at each of its ends.
use Rattle.ixdtf_grammar.specs.declared.reason.Reason.{Reason}
use Rattle.std.proofs.Common.{◌≡◌, ℕ, List, [], ◌∷◌, ◌++◌, Option, None, Result, Ok, Err, refl, sym, ◌∙◌, ap, inl, inr, append_assoc, option_map}
use Rattle.std.proofs.{lemmas.List.{map-append, append-nil}, SliceLists.chained_more}
use Rattle.std.specs.Option.{option_or}
use Rattle.ixdtf_grammar.specs.{declared.records.Annotation.Annotation, language.{Letters.Text, Brackets.{Pair, IsPair, ArePairs}, Cores.{Core, IsCore}}}
use Rattle.ixdtf_grammar.specs.language.{Readers.{Reader, CoreKind, has_exact_zones, Reader.bracketed}, Languages.{Parsed, parsed_with, IsBracketed, Derives.as_parsed}}
use Rattle.ixdtf_grammar.specs.{table.{Faults.Fault, Rows.{Row, Fits}}, Handlers.{first_calendar, RefusedBeside, NoneRefused, LastRefused, calendar_value}}
use Rattle.ixdtf_grammar.specs.Handlers.{with_calendar, pair_of, Calls, handed, replies_of, Step, IsChain}
use Rattle.ixdtf_reading.specs.{reading.Stops.Refuses}
use Rattle.ixdtf_reading.specs.reading.{Looks.{Placed, error_of}, Brackets.{Bracket, zone_in, pairs_in}}
use Rattle.ixdtf_reading.specs.reading.Chains.{FitsAfterBrackets, PairsUpTo, PairsRead, TextGives, TextRead}
use Rattle.ixdtf_reading.proofs.{to_reading.ExactBracket.IsBracketBy, to_grammar.Wholes.{after_brackets, tail_of, bracket_stands}, theorems.Replies.first_calendar-more}
use Rattle.ixdtf_reading.proofs.theorems.Replies.{NoneRefused-more, NoneRefused-nothing}

-- ---- texts of annotations

-- One more annotation follows others.
pub pairs_more : (front : Text) (pairs : List Pair) (bracket : Text) (pair : Pair) → ArePairs front pairs → IsPair bracket pair
    → ArePairs (front ++ bracket) (pairs ++ pair ∷ [])
pairs_more front [] bracket pair is last = (bracket, [], ap (λ f. f ++ bracket) is ∙ sym (append-nil bracket), last, refl)
pairs_more front (p ∷ pairs) bracket pair h last =
    (h.0, h.1 ++ bracket, ap (λ f. f ++ bracket) h.2 ∙ append_assoc h.0 h.1 bracket, h.3, pairs_more h.1 pairs bracket pair h.4 last)

-- One more annotation follows others, in a text with a rest after them.
upto_more : (text : Text) (pairs : List Pair) (rest bracket after : Text) (pair : Pair) → PairsUpTo text pairs rest → rest ≡ bracket ++ after
    → IsPair bracket pair → PairsUpTo text (pairs ++ pair ∷ []) after
upto_more text pairs rest bracket after pair h is last =
    (h.0 ++ bracket, h.1 ∙ ap (λ r. h.0 ++ r) is ∙ sym (append_assoc h.0 bracket after), pairs_more h.0 pairs bracket pair h.2 last)

-- ---- the loop over the annotations

module _ {T U F : Type 0} (number : U → ℕ) (step : Step T U F) (handler : F) (first : List Pair) (text : Text) where
  -- The annotation of a reply, if there is one.
  abbrev reply_of : Option (Annotation T U) → Option Pair
  reply_of reply = option_map (pair_of number) reply

  -- The calls so far left the handler in this state, this rest of the text, and this calendar.
  pub record SoFar (state : F) (rest : Text) (calendar : Option Pair) : Type 0 where
    pub calls : Calls T U
    pub chain : IsChain step handler calls state
    pub more : List Pair
    pub all : handed number calls ≡ first ++ more
    pub upto : PairsUpTo text more rest
    pub accepted : NoneRefused (replies_of number calls)
    pub kept : calendar ≡ first_calendar (replies_of number calls)

  -- No call was made yet.
  pub so_far_start : first ≡ [] → SoFar handler text None
  so_far_start none = record {
    calls = [];
    chain = refl;
    more = [];
    all = ap (λ pairs. pairs ++ []) (sym none);
    upto = ([], refl, refl);
    accepted = NoneRefused-nothing;
    kept = refl;
  }

  -- The handler is called with the first annotation.
  module _ {annotation : Annotation T U} {reply : Option (Annotation T U)} {next : F} {pair : Pair}
      (alone : first ≡ pair ∷ []) (same : pair_of number annotation ≡ pair) (called : step handler annotation reply next) where
    one_call : Calls T U
    one_call = (annotation, reply) ∷ []

    one_chain : IsChain step handler one_call next
    unfolding one_call
    one_chain = (next, called, refl)

    one_handed : handed number one_call ≡ first ++ []
    unfolding one_call
    one_handed = ap (λ p. p ∷ []) same ∙ sym (append-nil _) ∙ ap (λ pairs. pairs ++ []) (sym alone)

    one_reply : replies_of number one_call ≡ reply_of reply ∷ []
    unfolding one_call
    one_reply = refl

    pub so_far_first : (kept : Option Pair) → ((fault : Fault) → ¬ (RefusedBeside None (reply_of reply) fault))
        → kept ≡ option_or None (first_calendar (reply_of reply ∷ [])) → SoFar next text kept
    so_far_first kept accepted is = record {
      calls = one_call;
      chain = one_chain;
      more = [];
      all = one_handed;
      upto = ([], refl, refl);
      accepted = rw one_reply (NoneRefused-more [] (reply_of reply) NoneRefused-nothing accepted);
      kept = is ∙ sym (first_calendar-more [] (reply_of reply)) ∙ ap first_calendar (sym one_reply);
    }

    pub read_first_refused : (stop : Reason) → (fault : Fault) × Refuses stop fault × RefusedBeside None (reply_of reply) fault
        → PairsRead number step handler next first text (Err (stop, text))
    read_first_refused stop (fault, refuses, refused) =
        let last : LastRefused (replies_of number one_call) fault = record {
          earlier = [];
          reply = reply_of reply;
          split = one_reply;
          none = NoneRefused-nothing;
          refused = refused;
        } in
        record { calls = one_call; chain = one_chain; more = []; all = one_handed; gives = (text, ([], refl, refl), inl ((fault, last, refuses), refl)) }

  -- The handler is called with one more annotation.
  module _ {state : F} {rest : Text} {calendar : Option Pair} {annotation : Annotation T U} {bracket : Text} (after : Text)
      {reply : Option (Annotation T U)} {next : F} (so_far : SoFar state rest calendar) (is_pair : IsPair bracket (pair_of number annotation))
      (read : rest ≡ bracket ++ after)
      (called : step state annotation reply next) where
    more_calls : Calls T U
    more_calls = so_far.calls ++ (annotation, reply) ∷ []

    more_chain : IsChain step handler more_calls next
    unfolding more_calls
    more_chain = chained_more (λ f call g. step f call.0 call.1 g) handler so_far.calls state (annotation, reply) next so_far.chain called

    more_handed : handed number more_calls ≡ first ++ (so_far.more ++ pair_of number annotation ∷ [])
    unfolding more_calls
    more_handed = map-append (λ call. pair_of number call.0) so_far.calls ((annotation, reply) ∷ [])
        ∙ ap (λ pairs. pairs ++ pair_of number annotation ∷ []) so_far.all
        ∙ append_assoc first so_far.more _

    more_replies : replies_of number more_calls ≡ replies_of number so_far.calls ++ reply_of reply ∷ []
    unfolding more_calls
    more_replies = map-append (λ call. option_map (pair_of number) call.1) so_far.calls ((annotation, reply) ∷ [])

    more_upto : PairsUpTo text (so_far.more ++ pair_of number annotation ∷ []) after
    more_upto = upto_more text so_far.more rest bracket after (pair_of number annotation) so_far.upto read is_pair

    -- The reply is not refused.
    pub so_far_more : (kept : Option Pair) → ((fault : Fault) → ¬ (RefusedBeside calendar (reply_of reply) fault))
        → kept ≡ option_or calendar (first_calendar (reply_of reply ∷ [])) → SoFar next after kept
    so_far_more kept accepted is = record {
      calls = more_calls;
      chain = more_chain;
      more = so_far.more ++ pair_of number annotation ∷ [];
      all = more_handed;
      upto = more_upto;
      accepted = rw more_replies
          (NoneRefused-more (replies_of number so_far.calls) (reply_of reply) so_far.accepted
          (λ fault. rw (← so_far.kept) (accepted fault)));
      kept = is ∙ ap (λ c. option_or c (first_calendar (reply_of reply ∷ []))) so_far.kept
          ∙ sym (first_calendar-more (replies_of number so_far.calls) (reply_of reply)) ∙ ap first_calendar (sym more_replies);
    }

    -- The reply is refused.
    pub read_refused : (stop : Reason) → (fault : Fault) × Refuses stop fault × RefusedBeside calendar (reply_of reply) fault
        → PairsRead number step handler next first text (Err (stop, after))
    read_refused stop (fault, refuses, refused) =
        let last : LastRefused (replies_of number more_calls) fault = record {
          earlier = replies_of number so_far.calls;
          reply = reply_of reply;
          split = more_replies;
          none = so_far.accepted;
          refused = rw (← so_far.kept) refused;
        } in
        record {
          calls = more_calls;
          chain = more_chain;
          more = so_far.more ++ pair_of number annotation ∷ [];
          all = more_handed;
          gives = (after, more_upto, inl ((fault, last, refuses), refl));
        }

  -- No text is left.
  pub read_whole : {state : F} {rest : Text} {calendar : Option Pair} → SoFar state rest calendar → rest ≡ []
      → PairsRead number step handler state first text (Ok calendar)
  read_whole so_far none =
      let front = so_far.upto in
      let whole : front.0 ≡ text = sym (front.1 ∙ ap (λ r. front.0 ++ r) none ∙ append-nil front.0) in
      record {
        calls = so_far.calls;
        chain = so_far.chain;
        more = so_far.more;
        all = so_far.all;
        gives = (rw (← whole) front.2, so_far.accepted, so_far.kept);
      }

  -- A row fits the rest of the text.
  pub read_fault : {state : F} {rest : Text} {calendar : Option Pair} → SoFar state rest calendar → (row : Row) (placed : Placed) → FitsAfterBrackets row rest
      → error_of row ≡ placed
      → PairsRead number step handler state first text (Err placed)
  read_fault {rest} so_far row placed fits is = record {
    calls = so_far.calls;
    chain = so_far.chain;
    more = so_far.more;
    all = so_far.all;
    gives = (rest, so_far.upto, inr ((row, fits, is), so_far.accepted));
  }

-- ---- the complete text

-- The result for the complete text, computed from the result for the annotations.
abbrev pub text_result : Core → Bracket → Result (Option Pair) Placed → Result Parsed Placed
text_result core b (Ok calendar) = Ok (with_calendar (parsed_with core (zone_in b)) (calendar_value calendar))
text_result core b (Err placed) = Err placed

module _ (kind : CoreKind) (text cores bracket rest : Text) (core : Core) (b : Bracket) (is : text ≡ cores ++ (bracket ++ rest))
    (is_core : IsCore kind cores core) (is_bracket : IsBracketBy (has_exact_zones kind) bracket b) where
  -- The text is a core, a first bracket and more annotations.
  whole_of : (front : Text) (more : List Pair) → ArePairs front more
      → IsBracketed kind (cores ++ (bracket ++ front)) (parsed_with core (zone_in b)) (pairs_in b ++ more)
  whole_of front more pairs = let tail = tail_of _ b bracket front more is_bracket pairs in
      record { cores = cores; brackets = bracket ++ front; core = core; zone = zone_in b; is = refl; is_core = is_core; is_tail = tail; has = refl }

  split_of : (front left : Text) → rest ≡ front ++ left → text ≡ (cores ++ (bracket ++ front)) ++ left
  split_of front left e = is ∙ rw e (simp append_assoc)

  -- If a row fits after complete brackets, it fits the text.
  fits_text : (more : List Pair) (left : Text) (row : Row) → PairsUpTo rest more left → FitsAfterBrackets row left
      → Fits (bracketed kind) row (pairs_in b ++ more) text
  fits_text more left row upto_left fits =
      let front = upto_left.0 in
      after_brackets kind row _ text _ left (split_of front left upto_left.1) (
        cores,
        bracket ++ front,
        refl,
        (core, is_core),
        zone_in b,
        tail_of _ b bracket front more is_bracket upto_left.2,
        bracket_stands _ bracket front b is_bracket,
      ) fits

  module _ {T U F : Type 0} (number : U → ℕ) (step : Step T U F) (handler last : F) where
    -- The result for the annotations gives the result for the complete text.
    pub text_read : (result : Result (Option Pair) Placed) → PairsRead number step handler last (pairs_in b) rest result
        → TextRead number step handler last (bracketed kind) text (text_result core b result)
    text_read (Ok calendar) h = record {
      calls = h.calls;
      chain = h.chain;
      gives = record {
        read = parsed_with core (zone_in b);
        whole = rw h.all
            (rw is (as_parsed (whole_of rest h.more h.gives.0)));
        accepted = h.gives.1;
        has = ap (λ c. with_calendar (parsed_with core (zone_in b)) (calendar_value c)) h.gives.2;
      };
    }
    text_read (Err placed) h =
        let left = h.gives.0 in
        let front = h.gives.1 in
        let gives : TextGives (bracketed kind) text (pairs_in b ++ h.more) (replies_of number h.calls) (Err placed) =
        elim h.gives.2 [
          | inl p ↦ inl (
            (
              cores ++ (bracket ++ front.0),
              split_of front.0 left front.1 ∙ ap (λ t. (cores ++ (bracket ++ front.0)) ++ t) p.1,
              parsed_with core (zone_in b),
              as_parsed (whole_of front.0 h.more front.2),
            ),
            p.0,
          )
          | inr p ↦ inr ((p.0.0, fits_text h.more left p.0.0 front p.0.1, p.0.2), p.1)
        ] in
        record { calls = h.calls; chain = h.chain; gives = rw h.all gives }

-- ---- a text without a call

module _ {T U F : Type 0} (number : U → ℕ) (step : Step T U F) (handler : F) (text : Text) where
  -- The text has an error before the first annotation.
  pub text_fault : (reader : Reader) (placed : Placed) → (row : Row) × Fits reader row [] text × (error_of row ≡ placed)
      → TextRead number step handler handler reader text (Err placed)
  text_fault reader placed h = record { calls = []; chain = refl; gives = inr (h, NoneRefused-nothing) }

  -- The text is only a core.
  pub text_derived : (kind : CoreKind) (core : Core) → IsCore kind text core
      → TextRead number step handler handler (bracketed kind) text (Ok (with_calendar (parsed_with core None) None))
  text_derived kind core is_core = record {
    calls = [];
    chain = refl;
    gives = record {
      read = parsed_with core None;
      whole = as_parsed (record {
        cores = text;
        brackets = [];
        core = core;
        zone = None;
        is = sym (append-nil text);
        is_core = is_core;
        is_tail = ([], [], refl, refl, refl);
        has = refl;
      });
      accepted = NoneRefused-nothing;
      has = refl;
    };
  }
