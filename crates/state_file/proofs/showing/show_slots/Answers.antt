use Rattle.std.proofs.Common.{arith}
use Rattle.meter_slots.proofs.Starting.{all_more}
use Rattle.state_file.specs.Left.{IsLeft}
use Rattle.state_file.proofs.Telling.{all_taken}
use Rattle.state_file.proofs.showing.show_slots.Goals as goal

pub loop-place-preserved : goal.loop-place-preserved
loop-place-preserved c = all_more IsLeft c.args.slots.now c.loop-place.place c.show_slot_at.ensures c.loop-place.invariant

pub returns : goal.returns
returns c =
    all_taken IsLeft c.args.slots.now c.loop-place.place (let done = c.loop-place-test.false in omega arith) c.loop-place.invariant
