use Rattle.std.proofs.Common.{◌≡◌, drop}
use Rattle.meter_side_main.specs.Run.{meter_with}
use Rattle.meter_side_main.proofs.top.meter_of.Given as goal

-- the meter among those that are left is the one among all
abbrev pub invariant-loop-start : goal.invariant-loop-start
invariant-loop-start l = meter_with l.address (drop l.start-index l.starts) ≡ meter_with l.address l.starts
