-- Each text of a shape of durations is plain.
use Rattle.std.proofs.Common.{ℕ, List, [], ◌∷◌, inl, inr, refl}
use Rattle.ixdtf_grammar.specs.{declared.{profile.Profile.Profile, records.{Sign.Sign, DurationParseRecord.DurationParseRecord}}, language.Letters.Text}
use Rattle.ixdtf_grammar.specs.language.{Shapes.{Shape, some}, Durations.{Half, Group, Number, IntegerGroup, FractionGroup, Groups, SignedDesignator}}
use Rattle.ixdtf_grammar.specs.{language.Durations.{TimeGroups, TimePart, IsDuration, Half.{date, time}}, table.DurationFronts.{Context, IsContext}}
use Rattle.ixdtf_grammar.specs.table.DurationFronts.{InContext, AfterDateGroups, AfterTimeDesignator, AfterTimeGroups, ValuePast, AnyGroup, OutOfOrder}
use Rattle.ixdtf_grammar.specs.table.DurationFronts.{UnitPast, LastGroup, Context.{in_dates, in_times}}
use Rattle.ixdtf_grammar.proofs.widths.PlainTexts.{IsPlain, plain_append, PlainShape, plain_one, plain_some, plain_some_digits, is_plain}
use Rattle.ixdtf_grammar.proofs.theorems.CoreEnds.{in_fraction}

-- ---- groups

number_plain : (text : Text) (n : ℕ) → Number text n → IsPlain text
number_plain text n h = plain_some_digits.plain text h.0

pub plain_number : PlainShape (some Number)
plain_number = plain_some number_plain

integer_group_plain : (half : Half) (text : Text) (g : Group) → IntegerGroup half text g → IsPlain text
integer_group_plain half text g h = rw h.is (plain_append h.ds _ (number_plain h.ds g.value h.number) (refl, tt))

fraction_group_plain : (text : Text) (g : Group) → FractionGroup text g → IsPlain text
fraction_group_plain text g h =
    rw h.is (plain_append h.ds _ (number_plain h.ds g.value h.number) (plain_append h.fs _ (is_plain _ h.fs (in_fraction h.fs h.parts h.is_fraction)) (refl, tt)))

any_group_plain : (half : Half) (text : Text) (g : Group) → AnyGroup half text g → IsPlain text
any_group_plain date text g h = integer_group_plain date text g h
any_group_plain time text g (inl h) = integer_group_plain time text g h
any_group_plain time text g (inr h) = fraction_group_plain text g h

groups_plain : (profile : Profile) (half : Half) (text : Text) (groups : List Group) → Groups profile half text groups → IsPlain text
groups_plain profile half text [] h = rw h tt
groups_plain profile half text (g ∷ earlier) h = rw h.2 (plain_append h.0 h.1 (groups_plain profile half h.0 earlier h.3) (integer_group_plain half h.1 g h.4))

-- ---- the parts of a duration

pub designator_plain : (text : Text) (s : Sign) → SignedDesignator text s → IsPlain text
designator_plain text s (inl h) = plain_one.plain text h.0
designator_plain text s (inr h) = rw h.2 (refl, plain_one.plain h.1 h.4)

time_groups_plain : (profile : Profile) (text : Text) (groups : List Group) → TimeGroups profile text groups → IsPlain text
time_groups_plain profile text [] h = absurd h
time_groups_plain profile text (g ∷ earlier) (inl h) = groups_plain profile time text (g ∷ earlier) h
time_groups_plain profile text (g ∷ earlier) (inr h) =
    rw h.2 (plain_append h.0 h.1 (groups_plain profile time h.0 earlier h.3) (fraction_group_plain h.1 g h.4))

time_part_plain : (profile : Profile) (text : Text) (groups : List Group) → TimePart profile text groups → IsPlain text
time_part_plain profile text groups (inl h) = rw h.0 tt
time_part_plain profile text groups (inr h) = rw h.2 (refl, time_groups_plain profile h.1 groups h.4)

pub duration_plain : (profile : Profile) (text : Text) (duration : DurationParseRecord) → IsDuration profile text duration → IsPlain text
duration_plain profile text duration h =
    rw h.is (plain_append h.start _ (designator_plain _ _ h.is_start)
    (plain_append h.date_text _ (groups_plain profile date _ _ h.are_dates) (time_part_plain profile _ _ h.are_times)))

-- ---- prefixes

context_plain : (profile : Profile) (text : Text) (context : Context) → IsContext profile text context → IsPlain text
context_plain profile text (in_dates s dates) (start, date_text, is, starts, groups) =
    rw is (plain_append start date_text (designator_plain start s starts) (groups_plain profile date date_text dates groups))
context_plain profile text (in_times s dates times) (start, date_text, time_text, c, is, starts, groups, mark, later) =
    rw is (plain_append start _ (designator_plain start s starts)
    (plain_append date_text _ (groups_plain profile date date_text dates groups) (refl, groups_plain profile time time_text times later)))

pub plain_in_context : (profile : Profile) {half : Half} {shape : Context → Shape} → ((context : Context) → PlainShape (shape context))
    → PlainShape (InContext profile half shape)
plain_in_context profile x = record {
  plain = λ text h.
      let (context, before, rest, is_half, is, stands, has) = h in
      rw is (plain_append before rest (context_plain profile before context stands) ((x context).plain rest has));
}

pub plain_after_dates : (profile : Profile) → PlainShape (AfterDateGroups profile)
plain_after_dates profile = record { plain = λ text h. context_plain profile text (in_dates h.0 (h.1 ∷ h.2)) h.3 }

pub plain_after_time : (profile : Profile) → PlainShape (AfterTimeDesignator profile)
plain_after_time profile = record { plain = λ text h. context_plain profile text (in_times h.0 h.1 []) h.2 }

pub plain_after_times : (profile : Profile) → PlainShape (AfterTimeGroups profile)
plain_after_times profile = record { plain = λ text h. context_plain profile text (in_times h.0 h.1 (h.2 ∷ h.3)) h.4 }

pub plain_value_past : PlainShape ValuePast
plain_value_past = record { plain = λ text h. plain_some_digits.plain text h.3 }

pub plain_out_of_order : (profile : Profile) (half : Half) (context : Context) → PlainShape (OutOfOrder profile half context)
plain_out_of_order profile half context = record { plain = λ text h. any_group_plain half text h.0 h.1 }

pub plain_unit_past : (profile : Profile) (context : Context) → PlainShape (UnitPast profile context)
plain_unit_past profile context = record { plain = λ text h. integer_group_plain date text h.0 h.1 }

pub plain_last_group : (profile : Profile) (context : Context) → PlainShape (LastGroup profile context)
plain_last_group profile context = record { plain = λ text h. fraction_group_plain text h.0 h.1 }
