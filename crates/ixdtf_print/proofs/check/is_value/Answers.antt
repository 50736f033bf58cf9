use Rattle.ixdtf_print.proofs.check.is_value.Goals as goal
use Rattle.std.proofs.Common.{◌∙◌, sym, inl, inr}
use Rattle.ixdtf_print.proofs.code.ValueLoop.{over_value_byte, over_mark, value_refused, value_ends}
use Rattle.ixdtf_print.proofs.check.is_value.Goals.{then-is_annotation_value_component, else-is_annotation_value_component+then-byte-eq45+then-in_run}
use Rattle.ixdtf_print.proofs.check.is_value.Goals.{else-byte-eq45-via-then-byte-eq45+else-in_run, else-byte-eq45-via-else-byte-eq45}

pub returns : goal.returns
returns c = value_ends c.loop-byte.in_run c.args.bytes.now c.loop-byte.byte-index c.loop-byte.invariant c.loop-byte-test.false

pub loop-byte-preserved : goal.loop-byte-preserved
loop-byte-preserved c =
    let l = c.loop-byte in
    let e = c.is_annotation_value_component.ensures in
    elim c.if-is_annotation_value_component.branch [
      | then-is_annotation_value_component w ↦ over_value_byte l.in_run _ c.args.bytes.now l.byte-index l.invariant c.loop-byte-test.true (sym e ∙ w.if-is_annotation_value_component.true) w.in_run-is
      | else-is_annotation_value_component+then-byte-eq45+then-in_run w ↦
          over_mark l.in_run _ c.args.bytes.now l.byte-index l.invariant c.loop-byte-test.true (sym e ∙ w.if-is_annotation_value_component.false) w.if-byte-eq45.true w.if-in_run.true w.in_run-is
    ]

pub returns-else-byte-eq45 : goal.returns-else-byte-eq45
returns-else-byte-eq45 c =
    value_refused c.loop-byte.in_run c.args.bytes.now c.loop-byte.byte-index c.loop-byte.invariant c.loop-byte-test.true
    (sym c.is_annotation_value_component.ensures ∙ c.if-is_annotation_value_component.false)
    (elim c.else-byte-eq45.branch [
      | else-byte-eq45-via-then-byte-eq45+else-in_run w ↦ inr w.if-in_run.false
      | else-byte-eq45-via-else-byte-eq45 w ↦ inl w.if-byte-eq45.false
    ])
