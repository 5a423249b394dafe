use Rattle.receivers.proofs.SaidBytes.{lines_say_bytes}
use Rattle.receivers.proofs.laws.lines_say_bytes.Goals as goal

pub returns : goal.returns
returns _ = lines_say_bytes
