use Rattle.std.proofs.Common.{arith, sym}
use Rattle.frame_formats.proofs.Division.{each_byte}
use Rattle.frame_formats.proofs.Checked.{bytes-take, bytes_same}
use Rattle.meter_side_main.proofs.delivery.front_of.Goals as goal

pub returns-clause-each : goal.returns-clause-each
returns-clause-each c =
    bytes_same _ _ (sym c.split_at.ensures.front)
    (bytes-take c.args.len c.args.bytes.now (each_byte c.args.bytes.now (λ k. omega (arith, c.type_inv.bytes k))))
