use Rattle.std.proofs.Common.{take}
use Rattle.std.specs.List.{flat_map}
use Rattle.paper.specs.Puts.{Puts}
use Rattle.roster_file.specs.Text.{meter_text}
use Rattle.roster_file.proofs.writing.put_meters.Given as goal

abbrev pub invariant-loop-meter : goal.invariant-loop-meter
invariant-loop-meter g l = Puts g.P.Paper.takes l.initial.paper (flat_map meter_text (take l.meter-index l.meters)) l.paper
