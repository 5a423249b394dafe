use Rattle.frame_formats.proofs.Division.{one_crc}
use Rattle.frame_formats.proofs.laws.one_crc.Goals as goal

pub returns : goal.returns
returns c = one_crc
