-- Lists of replies: one more reply at the end, replies that are `None`, and which reply is refused.
use Rattle.std.proofs.Common.{◌≡◌, ◌⊎◌, List, [], ◌∷◌, ◌++◌, Option, Some, None, refl, ◌∙◌, ap, inl, inr, append_assoc, length, arith, length-append, map}
use Rattle.std.proofs.lemmas.List.{Elements.filter_map-append, Folds.find-append}
use Rattle.std.specs.{Prelude.{find, filter_map}, Option.option_or}
use Rattle.ixdtf_grammar.specs.{table.Faults.{Fault, Fault.{UnrecognizedCritical, CriticalDuplicateCalendar}}, language.Brackets.Pair}
use Rattle.ixdtf_grammar.specs.Handlers.{Reply, is_calendar, first_calendar, RefusedBeside, IsRefused, NoneRefused, LastRefused}

-- The empty list has no element.
pub nothing_split : {A : Type 0} (earlier later : List A) (x : A) → [] ≡ earlier ++ x ∷ later → ⊥
nothing_split [] later x e = cc
nothing_split (y ∷ earlier) later x e = cc

-- Of two elements of a list, one is before the other, or they are at the same index.
pub two_places : {A : Type 0} (xs ys xs' ys' : List A) (a b : A) → xs ++ a ∷ ys ≡ xs' ++ b ∷ ys'
    → ((xs ≡ xs') × (a ≡ b)) ⊎ (((rest : List A) × (xs' ≡ xs ++ a ∷ rest)) ⊎ ((rest : List A) × (xs ≡ xs' ++ b ∷ rest)))
two_places [] ys [] ys' a b e = inl (refl, cc)
two_places [] ys (x ∷ xs') ys' a b e = inr (inl (xs', cc))
two_places (x ∷ xs) ys [] ys' a b e = inr (inr (xs, cc))
two_places {A} (x ∷ xs) ys (x' ∷ xs') ys' a b e =
    let head : x ≡ x' = cc in
    let tail : xs ++ a ∷ ys ≡ xs' ++ b ∷ ys' = cc in
    elim (two_places xs ys xs' ys' a b tail) [
      | inl p ↦ let same = p.0 in inl (cc, p.1)
      | inr (inl p) ↦ let same = p.1 in inr (inl (p.0, cc))
      | inr (inr p) ↦ let same = p.1 in inr (inr (p.0, cc))
    ]

-- An element of a list with one more element at the end is this element, or it is in the list.
split_more : {A : Type 0} (xs : List A) (a : A) (earlier later : List A) (x : A) → xs ++ a ∷ [] ≡ earlier ++ x ∷ later
    → ((xs ≡ earlier) × (a ≡ x)) ⊎ ((rest : List A) × (xs ≡ earlier ++ x ∷ rest))
split_more {A} xs a earlier later x e = elim (two_places xs [] earlier later a x e) [
  | inl p ↦ inl p
  | inr (inl p) ↦ absurd (omega (arith, ap length e, ap length p.1, length-append {A = A}))
  | inr (inr p) ↦ inr p
]

pub same_last : {A : Type 0} (xs ys : List A) (a b : A) → xs ++ a ∷ [] ≡ ys ++ b ∷ [] → (xs ≡ ys) × (a ≡ b)
same_last {A} xs ys a b e = elim (split_more xs a ys [] b e) [
  | inl p ↦ p
  | inr p ↦ absurd (omega (arith, ap length e, ap length p.1, length-append {A = A}))
]

pub first_calendar-more : (replies : List Reply) (reply : Reply)
    → first_calendar (replies ++ reply ∷ []) ≡ option_or (first_calendar replies) (first_calendar (reply ∷ []))
first_calendar-more replies reply =
    ap (find is_calendar) (filter_map-append (λ a. a) replies (reply ∷ []))
    ∙ find-append is_calendar (filter_map (λ a. a) replies) (filter_map (λ a. a) (reply ∷ []))

pub NoneRefused-nothing : NoneRefused []
NoneRefused-nothing = record { none = λ earlier later reply fault split. absurd (nothing_split earlier later reply split) }

pub NoneRefused-more : (replies : List Reply) (reply : Reply) → NoneRefused replies
    → ((fault : Fault) → ¬ (IsRefused replies reply fault)) → NoneRefused (replies ++ reply ∷ [])
NoneRefused-more replies reply accepted more = record {
  none = λ earlier later x fault split refused.
      elim (split_more replies reply earlier later x split) [
        | inl p ↦ more fault (rw (p.0, p.1) refused)
        | inr p ↦ accepted.none earlier p.0 x fault p.1 refused
      ];
}

-- If the last reply is refused, it is not true that no reply is refused, also with more replies after it.
pub refused_last : (replies more : List Reply) (fault : Fault) → LastRefused replies fault → ¬ (NoneRefused (replies ++ more))
refused_last replies more fault last none =
    none.none last.earlier more last.reply fault (ap (λ all. all ++ more) last.split ∙ append_assoc last.earlier _ more) last.refused

-- ---- one reply

-- A reply is refused with one of two errors.
pub refused_split : (calendar : Option Pair) (reply : Reply) (fault : Fault) → RefusedBeside calendar reply fault
    → ((fault ≡ UnrecognizedCritical) × RefusedBeside calendar reply UnrecognizedCritical)
    ⊎ ((fault ≡ CriticalDuplicateCalendar) × RefusedBeside calendar reply CriticalDuplicateCalendar)
refused_split calendar None fault h = absurd h
refused_split calendar (Some pair) UnrecognizedCritical h = inl (refl, h)
refused_split None (Some pair) CriticalDuplicateCalendar h = absurd h
refused_split (Some first) (Some pair) CriticalDuplicateCalendar h = inr (refl, h)
refused_split calendar (Some pair) fault h = absurd h

-- A reply that is refused with neither of the two errors is not refused.
pub neither_refused : (calendar : Option Pair) (reply : Reply) → ¬ (RefusedBeside calendar reply UnrecognizedCritical)
    → ¬ (RefusedBeside calendar reply CriticalDuplicateCalendar)
    → (fault : Fault) → ¬ (RefusedBeside calendar reply fault)
neither_refused calendar reply a b fault h = elim (refused_split calendar reply fault h) [
  | inl p ↦ a p.1
  | inr p ↦ b p.1
]

-- ---- replies that are `None`

-- A list of the same length in which each reply is `None`.
abbrev pub nones : {A : Type 0} → List A → List Reply
nones calls = map (λ call. None) calls

pub first_calendar-nones : {A : Type 0} (calls : List A) → first_calendar (nones calls) ≡ None
first_calendar-nones [] = refl
first_calendar-nones (call ∷ calls) = first_calendar-nones calls

pub each_is_none : {A : Type 0} (calls : List A) (earlier later : List Reply) (reply : Reply) → nones calls ≡ earlier ++ reply ∷ later → reply ≡ None
each_is_none [] [] later reply e = cc
each_is_none [] (b ∷ earlier) later reply e = cc
each_is_none (call ∷ calls) [] later reply e = cc
each_is_none (call ∷ calls) (b ∷ earlier) later reply e = let tail : nones calls ≡ earlier ++ reply ∷ later = cc in each_is_none calls earlier later reply tail
