use Rattle.std.proofs.Common.{ap}
use Rattle.paper.specs.InMemory.{Kept}
use Rattle.paper.proofs.Keeping.{kept}
use Rattle.frame_inspect_main.proofs.room.Room.shown.Goals as goal

pub returns : goal.returns
returns g c =
    kept _ _ _ _ c.print.ensures (ap (λ (k : Kept). k.text) c.begin.ensures) c.in_ok-end.ensures.0 c.in_ok-end.ensures.1
