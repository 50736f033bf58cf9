-- Proves which result a text and replies give, from the outcome of the text and a test of the replies.
use Rattle.std.proofs.Common.{◌≡◌, ◌≢◌, ◌⊎◌, ℕ, nat_eq, Bool, true, false, not, ◌&&◌, ◌||◌, IsTrue, List, [], ◌∷◌, ◌++◌, Option, Some, None, refl, sym, ◌∙◌, ap}
use Rattle.std.proofs.Common.{subst, inl, inr, append_assoc, append-nil, Ok, Err}
use Rattle.std.specs.Cmp.Lexicographic.{pointwise, same_text}
use Rattle.std.proofs.lemmas.Cmp.{nat_list_eq_equiv}
use Rattle.std.proofs.lemmas.Bool.{and_parts, false_from_ne_true}
use Rattle.ixdtf.specs.Handlers.{Reply, calendar_key, is_calendar, first_calendar, RefusedBeside, NoneRefused, LastRefused, calendar_value, with_calendar}
use Rattle.ixdtf.specs.Handlers.{GivesRecord, GivesFault, own_replies, UnhandledRecord}
use Rattle.ixdtf.specs.language.Letters.{Text}
use Rattle.ixdtf.specs.language.Brackets.{Pair}
use Rattle.ixdtf.specs.language.Readers.{Reader, parse}
use Rattle.ixdtf.specs.language.Languages.{Parsed, Found}
use Rattle.ixdtf.specs.language.Languages.Found.{parsed}
use Rattle.ixdtf.specs.table.Faults.{Fault}
use Rattle.ixdtf.specs.table.Faults.Fault.{UnrecognizedCritical, CriticalDuplicateCalendar}
use Rattle.ixdtf.specs.table.Rows.{Row}
use Rattle.ixdtf.specs.table.Outcomes.{Outcome, Holds}
use Rattle.ixdtf.specs.table.Outcomes.Outcome.{derived, refused}
use Rattle.ixdtf_reading.specs.reading.Looks.{Read}
use Rattle.ixdtf_reading.specs.reading.Wholes.{RowBehind, row_behind, read_at, outcome_of, outcome}
use Rattle.ixdtf_reading.proofs.{to_grammar.Wholes.{OnWhole, whole_read}, theorems.Replies.{NoneRefused-nothing, NoneRefused-more, neither_refused}}
use Rattle.ixdtf_tests.proofs.Helpers.{text_of, parsing}

-- ---- replies that are accepted, by a test

is_key : (pair : Pair) → pair.key ≡ calendar_key → is_calendar pair ≡ true
is_key pair e = ap (λ key. pointwise nat_eq pair.key key) (sym e) ∙ nat_list_eq_equiv.refl pair.key

-- Two lists differ if the test of their equality is false.
pub differ : (xs ys : List ℕ) → pointwise nat_eq xs ys ≡ false → xs ≢ ys
differ xs ys test e = let same : pointwise nat_eq xs ys ≡ true = ap (pointwise nat_eq xs) (sym e) ∙ nat_list_eq_equiv.refl xs in absurd cc

-- The annotation is a calendar with another value than the first one, and one of the two is critical.
abbrev pub is_double : Option Pair → Pair → Bool
is_double None pair = false
is_double (Some first) pair = is_calendar pair && (not (pointwise nat_eq pair.value first.value) && (first.critical || pair.critical))

abbrev pub accepts : Option Pair → Reply → Bool
accepts first None = true
accepts first (Some pair) = not (pair.critical && not (is_calendar pair)) && not (is_double first pair)

not_unknown : (first : Option Pair) (pair : Pair) → accepts first (Some pair) ≡ true → ¬ (RefusedBeside first (Some pair) UnrecognizedCritical)
not_unknown first pair e h =
    let other : is_calendar pair ≡ false = false_from_ne_true _ (λ t. h.1 (same_text pair.key calendar_key (sym t))) in
    let no : accepts first (Some pair) ≡ false = rw h.0 (rw other refl) in
    absurd cc

not_double : (first : Option Pair) (pair : Pair) → accepts first (Some pair) ≡ true → ¬ (RefusedBeside first (Some pair) CriticalDuplicateCalendar)
not_double None pair e h = h
not_double (Some first) pair e h =
    let key = is_key pair h.0 in
    let differs : pointwise nat_eq pair.value first.value ≡ false = false_from_ne_true _ (λ t. h.1 (same_text pair.value first.value (sym t))) in
    let no : accepts (Some first) (Some pair) ≡ false = rw key (rw differs (one_is_critical first.critical pair.critical h.2)) in
    absurd cc
  where
    one_is_critical : (a b : Bool) → IsTrue a ⊎ IsTrue b → not (b && false) && not (a || b) ≡ false
    one_is_critical true true h = refl
    one_is_critical true false h = refl
    one_is_critical false true h = refl
    one_is_critical false false (inl t) = absurd cc
    one_is_critical false false (inr t) = absurd cc

not_refused : (first : Option Pair) (reply : Reply) → accepts first reply ≡ true → (fault : Fault) → ¬ (RefusedBeside first reply fault)
not_refused first None e fault h = h
not_refused first (Some pair) e fault h = neither_refused first (Some pair) (not_unknown first pair e) (not_double first pair e) fault h

-- The later replies are accepted, one after the other.
abbrev pub accepted : List Reply → List Reply → Bool
accepted earlier [] = true
accepted earlier (reply ∷ later) = accepts (first_calendar earlier) reply && accepted (earlier ++ reply ∷ []) later

none_refused : (earlier later : List Reply) → NoneRefused earlier → accepted earlier later ≡ true → NoneRefused (earlier ++ later)
none_refused earlier [] none e = subst NoneRefused (sym (append-nil earlier)) none
none_refused earlier (reply ∷ later) none e =
    let parts : (accepts (first_calendar earlier) reply ≡ true) × (accepted (earlier ++ reply ∷ []) later ≡ true) = and_parts _ _ e in
    let more = NoneRefused-more earlier reply none (not_refused (first_calendar earlier) reply parts.0) in
    subst NoneRefused (append_assoc earlier (reply ∷ []) later) (none_refused (earlier ++ reply ∷ []) later more parts.1)

-- If the test accepts all replies, no reply is refused.
pub all_accepted : (replies : List Reply) → accepted [] replies ≡ true → NoneRefused replies
all_accepted replies e = none_refused [] replies NoneRefused-nothing e

-- If the test accepts the replies before the last one, only the last one is refused.
pub last_refused : (earlier : List Reply) (reply : Reply) (fault : Fault) → accepted [] earlier ≡ true → RefusedBeside (first_calendar earlier) reply fault
    → LastRefused (earlier ++ reply ∷ []) fault
last_refused earlier reply fault none is_refused =
    record { earlier = earlier; reply = reply; split = refl; none = all_accepted earlier none; refused = is_refused }

-- ---- the outcome of a text holds

holds : (reader : Reader) (text : Text) (x : Outcome) → outcome reader text ≡ x → Holds reader text x
holds reader text x e = subst (Holds reader text) e (go (read_at row_behind reader text) (whole_read row_behind reader text))
  where
    go : (r : Read RowBehind (Found × List Pair)) → OnWhole row_behind reader text r → Holds reader text (outcome_of r)
    go (Ok x) h = h.1
    go (Err stop) h = rw h.2 h.3

-- If a text derives a record with these annotations, and all replies are accepted, the result is the record with the first
-- calendar.
pub gives : (units : List ℕ) (read : Parsed) (pairs : List Pair) (replies : List Reply) → parsing units ≡ derived (parsed read) pairs
    → accepted [] replies ≡ true
    → GivesRecord parse (text_of units) pairs replies (with_calendar read (calendar_value (first_calendar replies)))
gives units read pairs replies is none =
    record { read = read; whole = holds parse (text_of units) (derived (parsed read) pairs) is; accepted = all_accepted replies none; has = refl }

-- If a row fits a text, with these annotations before it, and all replies are accepted, the result is the error of the row.
pub stops_with : (units : List ℕ) (row : Row) (pairs : List Pair) (replies : List Reply) → parsing units ≡ refused row pairs → accepted [] replies ≡ true
    → GivesFault parse (text_of units) pairs replies row.error
stops_with units row pairs replies is none = inr ((row, holds parse (text_of units) (refused row pairs) is, refl), all_accepted replies none)

-- If a prefix of a text derives a record with these annotations, and the last reply is refused, the result is the error of this
-- reply.
pub refuses : (front rest : List ℕ) (read : Parsed) (pairs : List Pair) (earlier : List Reply) (reply : Reply) (fault : Fault)
    → parsing front ≡ derived (parsed read) pairs → accepted [] earlier ≡ true → RefusedBeside (first_calendar earlier) reply fault
    → GivesFault parse (text_of front ++ text_of rest) pairs (earlier ++ reply ∷ []) fault
refuses front rest read pairs earlier reply fault is none is_refused = inl (
  (text_of front, text_of rest, refl, read, holds parse (text_of front) (derived (parsed read) pairs) is),
  last_refused earlier reply fault none is_refused,
)

-- Without a handler, the reply to each annotation is the annotation itself.
pub unhandled_record : (units : List ℕ) (read : Parsed) (pairs : List Pair) → parsing units ≡ derived (parsed read) pairs
    → accepted [] (own_replies pairs) ≡ true
    → UnhandledRecord parse (text_of units) (with_calendar read (calendar_value (first_calendar (own_replies pairs))))
unhandled_record units read pairs is none = (pairs, gives units read pairs (own_replies pairs) is none)
