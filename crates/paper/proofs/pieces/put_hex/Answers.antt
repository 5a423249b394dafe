use Rattle.paper.proofs.Hex.{cut_at, parts_put}
use Rattle.paper.proofs.pieces.put_hex.Goals as goal

pub loop-left-preserved : goal.loop-left-preserved
loop-left-preserved g c = λ q later. c.loop-left.invariant q
    (parts_put _ _ _ (cut_at 64 _ _ _ c.split_at.ensures.front c.split_at.ensures.back) c.put_few_hex.ensures later)

pub returns : goal.returns
returns g c = c.loop-left.invariant _ c.put_few_hex-2.ensures
