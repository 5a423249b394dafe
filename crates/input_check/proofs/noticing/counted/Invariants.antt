use Rattle.std.proofs.Common.{take}
use Rattle.input_check.specs.Counting.{AreCounts}
use Rattle.input_check.proofs.noticing.counted.Given as goal

abbrev pub invariant-loop-address : goal.invariant-loop-address
invariant-loop-address l = AreCounts (take l.address-index l.addresses) l.counts.entries
