-- What was found among all places is the least.
use Rattle.std.proofs.Common.{refl, arith}
use Rattle.line_merge.proofs.Choosing.{more, all_seen}
use Rattle.line_merge.proofs.choice.least.Goals as goal

pub loop-place-preserved : goal.loop-place-preserved
loop-place-preserved c =
    more c.args.heads.now c.loop-place.place _ _ c.loop-place-test.true refl c.loop-place.best c.better_of-best.result
    c.better_of-best.ensures c.loop-place.invariant

pub returns : goal.returns
returns c =
    let found = all_seen c.args.heads.now c.loop-place.place c.loop-place.best
    (omega (arith, c.loop-place-test.false, c.loop-place.auto.place-end)) c.loop-place.invariant in
    record { least = found.least; at = found.at; none = found.none }
