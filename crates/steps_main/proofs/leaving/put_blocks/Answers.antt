use Rattle.std.proofs.Common.{refl, subst, arith}
use Rattle.std.specs.List.{flat_map}
use Rattle.std.proofs.lemmas.List.{take_all}
use Rattle.paper.specs.Puts.{Puts}
use Rattle.paper.proofs.Items.{one_more}
use Rattle.steps_main.specs.Ending.{meter_block}
use Rattle.steps_main.proofs.leaving.put_blocks.Goals as goal

pub loop-place-preserved : goal.loop-place-preserved
loop-place-preserved g c =
    one_more meter_block c.args.world.now c.loop-place.place _ refl c.loop-place.invariant c.put_block_at.ensures

pub returns : goal.returns
returns g c =
    subst (λ ms. Puts g.P.Paper.takes c.args.paper.now (flat_map meter_block ms) c.loop-place.paper)
    (take_all c.loop-place.place c.args.world.now
    (let done = c.loop-place-test.false in let count = c.len-place-end.ensures in omega arith)) c.loop-place.invariant
