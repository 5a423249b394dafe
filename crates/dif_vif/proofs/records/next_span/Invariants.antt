use Rattle.std.proofs.Common.{◌≡◌}
use Rattle.dif_vif.specs.Reading.{next_of}
use Rattle.dif_vif.proofs.records.next_span.Given as goal

abbrev pub invariant-loop-start : goal.invariant-loop-start
invariant-loop-start l = next_of l.bytes l.start ≡ next_of l.bytes l.from
