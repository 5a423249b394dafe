use Rattle.std.proofs.Common.{◌≡◌, length}
use Rattle.lists.specs.Each.{Each}
use Rattle.input_check.specs.Receivers.{IsFresh}
use Rattle.input_check.proofs.open_receivers.Given as goal

abbrev pub invariant-loop-name : goal.invariant-loop-name
invariant-loop-name g l = record {
  fresh : Each IsFresh l.receivers.items;
  count : length l.receivers.items ≡ l.name-index;
}
