use Rattle.ixdtf.proofs.laws.widths_agree.Goals as goal
use Rattle.ixdtf_reading.proofs.{theorems.OneUnhandledOutcome.one_unhandled_outcome, widths.Widths.{same_where_shared, fault_where_not_shared}}
use Rattle.ixdtf_reading.proofs.widths.Widths.{same_place_where_shared, place_where_not_shared, non_ascii_is_first, non_ascii_is_wide}

pub returns : goal.returns
returns c =
    record { one = one_unhandled_outcome; same = same_where_shared; fault = fault_where_not_shared; same_place = same_place_where_shared; place = place_where_not_shared; first = non_ascii_is_first; wide = non_ascii_is_wide }
