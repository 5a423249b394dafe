use Rattle.std.proofs.Common.{ap}
use Rattle.paper.proofs.Keeping.{kept}
use Rattle.paper.specs.InMemory.{Kept}
use Rattle.paper.proofs.in_memory.written.Goals as goal

pub returns : goal.returns
returns g c =
    kept c.new-paper.result c.print.new.paper _ _ c.print.ensures (ap (λ (p : Kept). p.text) c.new-paper.ensures)
    c.in_ok-into_bytes.ensures.0 c.in_ok-into_bytes.ensures.1
