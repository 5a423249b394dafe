use Rattle.std.proofs.Math.Facts.{Fits-lt-pow}
use Rattle.steps_main.proofs.Events.{line_tells}
use Rattle.steps_main.proofs.telling.StepperTeller.tell.Goals as goal

pub returns : goal.returns
returns c = line_tells _ _ _ _ _ _ _ _ _ c.said_of.ensures c.in_ok-class.ensures c.counted-self.ensures (Fits-lt-pow c.ranges.number)
