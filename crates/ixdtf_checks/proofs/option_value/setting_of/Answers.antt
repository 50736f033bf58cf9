-- The value is one of a form of reports, or of `--color`.
use Rattle.ixdtf_checks.proofs.option_value.setting_of.Goals as goal

pub returns-in-Format-clause-err : goal.returns-in-Format-clause-err
returns-in-Format-clause-err c =
    rw (c.in-Format.is, ← c.as_bytes-in-Format.ensures.value) c.format_setting.ensures.err

pub returns-in-Color-clause-err : goal.returns-in-Color-clause-err
returns-in-Color-clause-err c =
    rw (c.in-Color.is, ← c.as_bytes-in-Color.ensures.value) c.color_setting.ensures.err
