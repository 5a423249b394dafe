use Rattle.std.proofs.Common.{◌≡◌, ◌++◌, take, drop}
use Rattle.aes_block.specs.Block.{add}
use Rattle.aes_block.proofs.add_block.Given as goal

abbrev pub invariant-loop-i : goal.invariant-loop-i
invariant-loop-i l = l.block ≡ add (take l.i l.fn.block) (take l.i l.other) ++ drop l.i l.fn.block
