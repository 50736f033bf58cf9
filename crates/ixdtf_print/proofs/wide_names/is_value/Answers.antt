use Rattle.ixdtf_print.proofs.wide_names.is_value.Goals as goal
use Rattle.std.proofs.Common.{◌∙◌, sym, inl, inr}
use Rattle.ixdtf_print.proofs.code.ValueLoop.{over_value_byte, over_mark, value_refused, value_ends}
use Rattle.ixdtf_print.proofs.wide_names.is_value.Goals.{then-is_value_unit, else-is_value_unit+then-unit-eq-HYPHEN+then-in_run}
use Rattle.ixdtf_print.proofs.wide_names.is_value.Goals.{else-unit-eq-HYPHEN-via-then-unit-eq-HYPHEN+else-in_run, else-unit-eq-HYPHEN-via-else-unit-eq-HYPHEN}

pub returns : goal.returns
returns c = value_ends c.loop-unit.in_run c.args.units.now c.loop-unit.unit-index c.loop-unit.invariant c.loop-unit-test.false

pub loop-unit-preserved : goal.loop-unit-preserved
loop-unit-preserved c =
    let l = c.loop-unit in
    let e = c.is_value_unit.ensures in
    elim c.if-is_value_unit.branch [
      | then-is_value_unit w ↦ over_value_byte l.in_run _ c.args.units.now l.unit-index l.invariant c.loop-unit-test.true (sym e ∙ w.if-is_value_unit.true) w.in_run-is
      | else-is_value_unit+then-unit-eq-HYPHEN+then-in_run w ↦
          over_mark l.in_run _ c.args.units.now l.unit-index l.invariant c.loop-unit-test.true (sym e ∙ w.if-is_value_unit.false) w.if-unit-eq-HYPHEN.true w.if-in_run.true w.in_run-is
    ]

pub returns-else-unit-eq-HYPHEN : goal.returns-else-unit-eq-HYPHEN
returns-else-unit-eq-HYPHEN c =
    value_refused c.loop-unit.in_run c.args.units.now c.loop-unit.unit-index c.loop-unit.invariant c.loop-unit-test.true
    (sym c.is_value_unit.ensures ∙ c.if-is_value_unit.false)
    (elim c.else-unit-eq-HYPHEN.branch [
      | else-unit-eq-HYPHEN-via-then-unit-eq-HYPHEN+else-in_run w ↦ inr w.if-in_run.false
      | else-unit-eq-HYPHEN-via-else-unit-eq-HYPHEN w ↦ inl w.if-unit-eq-HYPHEN.false
    ])
