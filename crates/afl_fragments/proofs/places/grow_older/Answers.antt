use Rattle.std.proofs.Common.{arith}
use Rattle.afl_fragments.proofs.Holding.{aging}
use Rattle.afl_fragments.proofs.places.grow_older.Goals as goal

pub loop-held-preserved : goal.loop-held-preserved
loop-held-preserved c = aging _ _ _ _ c.loop-held.invariant (omega arith)
