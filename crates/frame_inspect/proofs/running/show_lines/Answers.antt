use Rattle.std.proofs.Common.{refl}
use Rattle.frame_inspect.proofs.Runs.{showing}
use Rattle.frame_inspect.proofs.running.show_lines.Goals as goal

pub returns : goal.returns
returns g c =
    showing _ _ _ _ _ refl c.tell_lines.ensures.ended c.tell_lines.ensures.read c.tell_lines.ensures.write c.tell_lines.ensures.bytes
