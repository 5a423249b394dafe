use Rattle.std.proofs.Common.{◌≡◌, drop}
use Rattle.frame_inspect.specs.Below.{meter_with}
use Rattle.frame_inspect.proofs.serving.meter_with.Given as goal

-- the meter among those that are left is the one among all
abbrev pub invariant-loop-meter : goal.invariant-loop-meter
invariant-loop-meter l = meter_with l.address (drop l.meter-index l.meters) ≡ meter_with l.address l.meters
