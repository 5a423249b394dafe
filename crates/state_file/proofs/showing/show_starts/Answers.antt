use Rattle.std.proofs.Common.{arith}
use Rattle.meter_slots.proofs.Starting.{all_more}
use Rattle.state_file.specs.Written.{IsStart}
use Rattle.state_file.proofs.Telling.{all_taken}
use Rattle.state_file.proofs.showing.show_starts.Goals as goal

pub loop-place-preserved : goal.loop-place-preserved
loop-place-preserved c = all_more IsStart c.args.starts.now c.loop-place.place c.show_start_at.ensures c.loop-place.invariant

pub returns : goal.returns
returns c =
    all_taken IsStart c.args.starts.now c.loop-place.place (let done = c.loop-place-test.false in omega arith) c.loop-place.invariant
