use Rattle.std.proofs.Common.{subst, arith}
use Rattle.std.specs.List.{All}
use Rattle.std.proofs.lemmas.List.{take_all}
use Rattle.meter_slots.proofs.Starting.{all_more}
use Rattle.steps_main.specs.Ending.{IsTellable}
use Rattle.steps_main.proofs.leaving.show_each.Goals as goal

pub loop-place-preserved : goal.loop-place-preserved
loop-place-preserved c = all_more IsTellable c.args.world.now c.loop-place.place c.show_known_at.ensures c.loop-place.invariant

pub returns : goal.returns
returns c =
    subst (All IsTellable) (take_all c.loop-place.place c.args.world.now (let done = c.loop-place-test.false in let count = c.len-place-end.ensures in omega arith))
    c.loop-place.invariant
