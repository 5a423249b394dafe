use Rattle.std.proofs.Common.{arith}
use Rattle.frame_formats.proofs.Division.{each_byte, nothing_left, one_more, all_through, is_crc, same_crc}
use Rattle.frame_formats.proofs.crc16.crc.Goals as goal

-- (written out: a search goes through all lemmas of numbers first, which takes six seconds)
pub loop-byte-init : goal.loop-byte-init
loop-byte-init c = nothing_left

pub loop-byte-preserved : goal.loop-byte-preserved
loop-byte-preserved c =
    one_more _ _ _ c.loop-byte-test.true (c.after_byte-register.ensures _ c.loop-byte.invariant)

pub returns-clause-is : goal.returns-clause-is
returns-clause-is c = all_through _ _ _ c.loop-byte-test.false c.loop-byte.invariant

pub returns-clause-computed : goal.returns-clause-computed
returns-clause-computed c =
    same_crc c.args.bytes.now _ _ (all_through _ _ _ c.loop-byte-test.false c.loop-byte.invariant)
    (is_crc _ (each_byte _ (λ k. omega (arith, c.type_inv.bytes k))))
