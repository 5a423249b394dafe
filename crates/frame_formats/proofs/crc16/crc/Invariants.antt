use Rattle.std.proofs.Common.{◌*◌, ◌^◌, take}
use Rattle.frame_formats.specs.Crc.{HasRemainder, polynomial}
use Rattle.frame_formats.proofs.crc16.crc.Given as goal

-- the register holds the remainder of the bytes so far
abbrev pub invariant-loop-byte : goal.invariant-loop-byte
invariant-loop-byte l = HasRemainder (polynomial (take l.byte-index l.bytes) * 2 ^ 16) l.register
