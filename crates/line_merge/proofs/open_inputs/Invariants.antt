use Rattle.std.proofs.Common.{◌≡◌, length}
use Rattle.lists.specs.Each.{Each}
use Rattle.line_merge.specs.Run.{IsFresh}
use Rattle.line_merge.proofs.open_inputs.Given as goal

abbrev pub invariant-loop-name : goal.invariant-loop-name
invariant-loop-name g l = record {
  fresh : Each IsFresh l.inputs.items;
  count : length l.inputs.items ≡ l.name-index;
}
