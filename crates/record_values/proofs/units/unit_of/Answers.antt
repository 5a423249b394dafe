use Rattle.std.proofs.Common.{◌≤◌, sym, ◌∙◌, arith}
use Rattle.dif_vif.proofs.Spans.{first_vife_within}
use Rattle.record_values.proofs.UnitCases.{unit-primary}
use Rattle.record_values.proofs.units.unit_of.Goals as goal
use Rattle.record_values.proofs.units.unit_of.Goals.{else-span-2-via-then-span-2+else-span-3, else-span-2-via-else-span-2}

pub returns-then-span-3 : goal.returns-then-span-3
returns-then-span-3 c =
    c.unit_in.ensures ∙ sym (unit-primary c.args.bytes.now c.args.span.now c.if-span.false c.if-span-2.true c.if-span-3.true)

pub bounds-bytes-span : goal.bounds-bytes-span
bounds-bytes-span c =
    let top : 128 ≤ c.args.span.now.vif = elim c.else-span-2.branch [
      | else-span-2-via-then-span-2+else-span-3 w ↦ omega arith
      | else-span-2-via-else-span-2 w ↦ omega arith
    ] in
    (first_vife_within c.args.bytes.now c.args.span.now c.requires c.if-span.false top).1
