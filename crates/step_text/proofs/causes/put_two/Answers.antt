use Rattle.paper.proofs.Calls.{then}
use Rattle.step_text.proofs.causes.put_two.Goals as goal

pub returns : goal.returns
returns g c =
    then c.put_text.ensures (then c.put_number.ensures (then c.put_text-2.ensures (then c.put_number-2.ensures c.put_text-3.ensures)))
