use Rattle.std.proofs.Common.{ap}
use Rattle.paper.specs.InMemory.{Kept}
use Rattle.paper.proofs.Keeping.{kept}
use Rattle.made_input.proofs.line_paper.written_line.Goals as goal

pub returns : goal.returns
returns g c =
    kept _ _ _ _ c.print.ensures (ap (λ (k : Kept). k.text) c.in_ok-paper.ensures) c.in_ok-into_bytes.ensures.0
    c.in_ok-into_bytes.ensures.1
