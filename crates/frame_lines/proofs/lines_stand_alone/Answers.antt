use Rattle.frame_lines.proofs.ReadBack.{lines_stand_alone}
use Rattle.frame_lines.proofs.lines_stand_alone.Goals as goal

pub returns : goal.returns
returns _ = lines_stand_alone
