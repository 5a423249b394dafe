use Rattle.std.proofs.Common.{arith}
use Rattle.meter_slots.proofs.Starting.{all_more}
use Rattle.state_file.specs.Telling.{IsSayable}
use Rattle.state_file.proofs.Telling.{all_taken}
use Rattle.state_file.proofs.showing.show_commands.Goals as goal

pub loop-place-preserved : goal.loop-place-preserved
loop-place-preserved c = all_more IsSayable c.args.queue.now.commands c.loop-place.place c.show_command_at.ensures c.loop-place.invariant

pub returns : goal.returns
returns c =
    all_taken IsSayable c.args.queue.now.commands c.loop-place.place
    (let done = c.loop-place-test.false in let count = c.pending-place-end.ensures.count in omega arith) c.loop-place.invariant
