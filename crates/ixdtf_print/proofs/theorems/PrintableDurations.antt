-- The durations that have a text are those whose fields have texts, and the canonical text is one of these texts.
use Rattle.std.proofs.Common.{◌↔◌, Bool, IsTrue}
use Rattle.ixdtf_grammar.specs.declared.{profile.Profile.{Profile, TheVariants.Crate}, records.DurationParseRecord.DurationParseRecord}
use Rattle.ixdtf.specs.language.{Letters.Text, Durations.IsDuration, Readers.Reader.parse_duration, Languages.{Derives.as_lasting, Found.lasting}}
use Rattle.ixdtf_print.specs.{Printing.{HasText, TestsText}, Durations.{IsDurationText, IsPrintableDuration, IsDurationReadBack, DurationFits, DurationIsReadBack, duration_text}}
use Rattle.ixdtf_print.specs.SpelledDurations.{AreParts}
use Rattle.ixdtf_print.proofs.{parts.DerivedDurations.of_duration, parts.WrittenDurations.duration_reads_back, theorems.{DisplayedDurations.duration_is_shown, OneTexts.{StandsForOne, one_found, has_one_text, tests_text}}}

derived : (profile : Profile) (text : Text) (duration : DurationParseRecord) → IsDurationText profile text duration → IsDuration profile text duration
derived profile text duration (as_lasting h) = h

one_duration : (profile : Profile) → StandsForOne (IsDurationText profile)
one_duration profile text a b p q = let same = one_found (parse_duration profile) text (lasting a) (lasting b) p q in cc

spelled : (profile : Profile) (duration : DurationParseRecord) → HasText (IsDurationText profile) duration → AreParts duration.date duration.time
spelled profile duration h = (of_duration profile h.0 duration (derived profile h.0 duration h.1)).0

is_text : (profile : Profile) (duration : DurationParseRecord) → AreParts duration.date duration.time → IsDurationText profile (duration_text duration) duration
is_text profile duration s = as_lasting (duration_reads_back profile duration s)

pub printable_duration : (duration : DurationParseRecord) → IsPrintableDuration duration ↔ AreParts duration.date duration.time
printable_duration duration = (spelled Crate duration, λ s. (duration_text duration, is_text Crate duration s))

pub duration_is_read_back : DurationIsReadBack
duration_is_read_back duration h profile =
    let s = spelled Crate duration h in
    has_one_text (one_duration profile) (λ found k. is_text profile found (spelled profile found k)) duration (duration_text duration, is_text profile duration s)

pub duration_fits : DurationFits
duration_fits profile text duration h = (of_duration profile text duration (derived profile text duration h)).1

-- A duration that the parser returns under some profile is printable.
pub duration_printable : (profile : Profile) (duration : DurationParseRecord) → HasText (IsDurationText profile) duration → IsPrintableDuration duration
duration_printable profile duration h = (printable_duration duration).1 (spelled profile duration h)

-- A test of the fields tells which records are printable.
pub tests_duration : {test : Bool} (duration : DurationParseRecord) → IsTrue test ↔ AreParts duration.date duration.time
    → TestsText test (IsPrintableDuration duration) (IsDurationReadBack duration) (duration_text duration)
tests_duration duration =
    tests_text (printable_duration duration) (λ is. duration_is_shown duration ((printable_duration duration).0 is)) (duration_is_read_back duration)
