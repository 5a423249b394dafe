use Rattle.std.proofs.Common.{ap, sym, rules}
use Rattle.std.specs.List.{flat_map}
use Rattle.std.proofs.lemmas.List.{take_all}
use Rattle.paper.proofs.Items.{is_put, one_item}
use Rattle.state_file.specs.Left.{slot_line}
use Rattle.state_file.proofs.left.put_lines.Goals as goal

pub loop-slot-preserved : goal.loop-slot-preserved
loop-slot-preserved g c = search (rules, one_item)

pub returns : goal.returns
returns g c =
    is_put _ _ (ap (flat_map slot_line) (sym (take_all c.loop-slot.slot-index c.args.slots.now c.loop-slot-test.false)))
    c.loop-slot.invariant
