use Rattle.std.proofs.Common.{arith}
use Rattle.frame_formats.proofs.Division.{near_byte}
use Rattle.frame_formats.proofs.crc16.after_byte.Goals as goal

pub returns : goal.returns
returns c = λ p is. near_byte p _ _ _ is (omega arith) c.remainder_of.ensures
