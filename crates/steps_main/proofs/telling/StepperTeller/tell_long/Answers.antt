use Rattle.std.proofs.Math.Facts.{Fits-lt-pow}
use Rattle.steps_main.proofs.Events.{line_tells, long_said, said_so}
use Rattle.std.proofs.Common.{refl}
use Rattle.steps_main.proofs.telling.StepperTeller.tell_long.Goals as goal

pub returns : goal.returns
returns c = λ line long.
    line_tells _ _ _ line _ _ _ _ _ (long_said line long)
    (said_so _ _ _ _ _ _ _ _ _ refl (record { text_is = refl; class_is = refl; same = refl }) c.put_bad_line.ensures.puts)
    c.counted-self.ensures (Fits-lt-pow c.ranges.number)
