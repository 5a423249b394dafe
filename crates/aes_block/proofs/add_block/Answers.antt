use Rattle.std.proofs.Common.{◌<◌, length, arith}
use Rattle.aes_block.proofs.Lists.{add_more}
use Rattle.aes_block.proofs.add_block.Goals as goal

pub loop-i-preserved : goal.loop-i-preserved
loop-i-preserved c =
    let hx : c.loop-i.i < length c.args.block.now = omega arith in
    let hk : c.loop-i.i < length c.args.other.now = omega arith in
    add_more c.args.block.now c.args.other.now c.loop-i.block c.loop-i.i hx hk c.loop-i.invariant
