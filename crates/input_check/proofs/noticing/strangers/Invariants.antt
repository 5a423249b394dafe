use Rattle.std.proofs.Common.{◌≡◌, ◌++◌}
use Rattle.input_check.specs.Counting.{strangers_in}
use Rattle.input_check.proofs.noticing.strangers.Given as goal

abbrev pub invariant-loop-address : goal.invariant-loop-address
invariant-loop-address l = l.strangers.items ++ strangers_in l.address-iterator l.known.entries ≡ strangers_in l.heard.entries l.known.entries
