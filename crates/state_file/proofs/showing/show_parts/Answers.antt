use Rattle.std.proofs.Common.{arith}
use Rattle.meter_slots.proofs.Starting.{all_more}
use Rattle.afl_fragments.specs.Held.{held}
use Rattle.state_file.specs.Telling.{HasSpelt}
use Rattle.state_file.proofs.Telling.{all_taken}
use Rattle.state_file.proofs.showing.show_parts.Goals as goal

pub loop-place-preserved : goal.loop-place-preserved
loop-place-preserved c = all_more HasSpelt (held c.args.known.now.told) c.loop-place.place c.show_part_at.ensures c.loop-place.invariant

pub returns : goal.returns
returns c =
    all_taken HasSpelt (held c.args.known.now.told) c.loop-place.place
    (let done = c.loop-place-test.false in let count = c.part_count-place-end.ensures.count in omega arith) c.loop-place.invariant
