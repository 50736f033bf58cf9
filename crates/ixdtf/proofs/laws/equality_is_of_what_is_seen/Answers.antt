use Rattle.ixdtf.proofs.laws.equality_is_of_what_is_seen.Goals as goal
use Rattle.std.proofs.Common.{rules, refl}
use Rattle.std.specs.Cmp.{booleans_Decides, unsigned_Decides}
use Rattle.ixdtf_grammar.specs.table.ErrorEquality.{same_error-Decides}
use Rattle.ixdtf.proofs.code.EqualRecords.{by_exact, on_part, on_both, on_option, on_option_itself, put_together, zones_exact, offsets_exact}
use Rattle.ixdtf.proofs.code.EqualRecords.{offsets_or_z_exact, time_durations_exact}
use Rattle.ixdtf_reading.proofs.code.EqualUnits.{equal_lists}

pub returns-clause-units : goal.returns-clause-units
returns-clause-units g c = by_exact (on_part (λ units. units.now) (λ xs ys. equal_lists g.T.EncodingType.number _ g.met.T.EncodingType.equal xs ys _ refl))

pub returns-clause-date : goal.returns-clause-date
returns-clause-date g c = by_exact (λ a b. search rules)

pub returns-clause-annotation : goal.returns-clause-annotation
returns-clause-annotation g c =
    let units = (returns-clause-units g c).exact in
    by_exact (put_together (λ parts. record { critical = parts.0; key = parts.1.0; value = parts.1.1 }) (λ p. (p.critical, (p.key, p.value))) (λ parts. refl) (
    on_both (on_part (λ a. a.critical) booleans_Decides) (on_both (on_part (λ a. a.key) units) (on_part (λ a. a.value) units))))

pub returns-clause-minute_offset : goal.returns-clause-minute_offset
returns-clause-minute_offset g c = by_exact (λ a b. search rules)

pub returns-clause-fraction : goal.returns-clause-fraction
returns-clause-fraction g c = by_exact (λ a b. search rules)

pub returns-clause-time : goal.returns-clause-time
returns-clause-time g c =
    let fraction = on_option_itself (returns-clause-fraction g c).exact in
    by_exact (put_together (λ parts. record { hour = parts.0; minute = parts.1.0; second = parts.1.1.0; fraction = parts.1.1.1 })
    (λ t. (t.hour, (t.minute, (t.second, t.fraction)))) (λ parts. refl) (
    on_both (on_part (λ t. t.hour) unsigned_Decides) (on_both (on_part (λ t. t.minute) unsigned_Decides) (
    on_both (on_part (λ t. t.second) unsigned_Decides) (on_part (λ t. t.fraction) fraction)))))

pub returns-clause-full_offset : goal.returns-clause-full_offset
returns-clause-full_offset g c =
    let minutes = (returns-clause-minute_offset g c).exact in
    let fraction = on_option_itself (returns-clause-fraction g c).exact in
    by_exact (put_together (λ parts. record { minute_precision_offset = parts.0; second = parts.1.0; fraction = parts.1.1 })
    (λ o. (o.minute_precision_offset, (o.second, o.fraction))) (λ parts. refl) (
    on_both (on_part (λ o. o.minute_precision_offset) minutes) (on_both (on_part (λ o. o.second) unsigned_Decides) (on_part (λ o. o.fraction) fraction))))

pub returns-clause-offset : goal.returns-clause-offset
returns-clause-offset g c = by_exact (offsets_exact (returns-clause-minute_offset g c).exact (returns-clause-full_offset g c).exact)

pub returns-clause-offset_or_z : goal.returns-clause-offset_or_z
returns-clause-offset_or_z g c = by_exact (offsets_or_z_exact (returns-clause-offset g c).exact)

pub returns-clause-zone : goal.returns-clause-zone
returns-clause-zone g c =
    by_exact (zones_exact g.T.EncodingType.number
    (record { names = λ u v. refl; offsets = λ o p. refl; name_first = λ u o. refl; offset_first = λ o u. refl })
    (returns-clause-units g c).exact (returns-clause-minute_offset g c).exact)

pub returns-clause-zone_annotation : goal.returns-clause-zone_annotation
returns-clause-zone_annotation g c =
    by_exact (put_together (λ parts. record { critical = parts.0; zone = parts.1 }) (λ n. (n.critical, n.zone)) (λ parts. refl) (
    on_both (on_part (λ a. a.critical) booleans_Decides) (on_part (λ a. a.tz) (returns-clause-zone g c).exact)))

pub returns-clause-record : goal.returns-clause-record
returns-clause-record g c =
    let date = on_option_itself (returns-clause-date g c).exact in
    let time = on_option_itself (returns-clause-time g c).exact in
    let offset = on_option_itself (returns-clause-offset_or_z g c).exact in
    let zone = on_option (returns-clause-zone_annotation g c).exact in
    let calendar = on_option (returns-clause-units g c).exact in
    by_exact (put_together
    (λ parts. record { date = parts.0; time = parts.1.0; offset = parts.1.1.0; zone = parts.1.1.1.0; calendar = parts.1.1.1.1 })
    (λ r. (r.date, (r.time, (r.offset, (r.zone, r.calendar))))) (λ parts. refl) (
    on_both (on_part (λ r. r.date) date) (on_both (on_part (λ r. r.time) time) (on_both (on_part (λ r. r.offset) offset) (
    on_both (on_part (λ r. r.tz) zone) (on_part (λ r. r.calendar) calendar))))))

pub returns-clause-date_duration : goal.returns-clause-date_duration
returns-clause-date_duration g c = by_exact (λ a b. search rules)

pub returns-clause-time_duration : goal.returns-clause-time_duration
returns-clause-time_duration g c = by_exact (time_durations_exact (on_option_itself (returns-clause-fraction g c).exact))

pub returns-clause-sign : goal.returns-clause-sign
returns-clause-sign g c = by_exact (λ a b. search rules)

pub returns-clause-duration : goal.returns-clause-duration
returns-clause-duration g c =
    let sign = (returns-clause-sign g c).exact in
    let date = on_option_itself (returns-clause-date_duration g c).exact in
    let time = on_option_itself (returns-clause-time_duration g c).exact in
    by_exact (put_together (λ parts. record { sign = parts.0; date = parts.1.0; time = parts.1.1 }) (λ d. (d.sign, (d.date, d.time))) (λ parts. refl) (
    on_both (on_part (λ d. d.sign) sign) (on_both (on_part (λ d. d.date) date) (on_part (λ d. d.time) time))))

pub returns-clause-error : goal.returns-clause-error
returns-clause-error g c = by_exact same_error-Decides
