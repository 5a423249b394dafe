use Rattle.std.proofs.Common.{subst}
use Rattle.state_file.specs.Left.{IsLeft}
use Rattle.state_file.specs.Written.{IsStart}
use Rattle.state_file.proofs.Telling.{at_place}
use Rattle.state_file.proofs.showing.show_slot_at.Goals as goal

pub returns-in-Some : goal.returns-in-Some
returns-in-Some c =
    at_place IsLeft c.args.slots.now c.args.place c.in-Some.slot.now c.in-Some.ensures.lookup.3.0 c.in-Some.ensures.lookup.1
    (subst IsStart c.known.ensures c.show_known.ensures)
