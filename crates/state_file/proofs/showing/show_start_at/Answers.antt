use Rattle.std.proofs.Common.{subst}
use Rattle.state_file.specs.Written.{IsStart}
use Rattle.state_file.proofs.Telling.{at_place}
use Rattle.state_file.proofs.showing.show_start_at.Goals as goal

pub returns-in-Some : goal.returns-in-Some
returns-in-Some c =
    at_place IsStart c.args.starts.now c.args.place c.in-Some.start.now c.in-Some.ensures.lookup.3.0 c.in-Some.ensures.lookup.1
    (subst IsStart c.known.ensures c.show_known.ensures)
