use Rattle.std.proofs.Common.{arith}
use Rattle.frame_formats.proofs.Division.{each_byte}
use Rattle.downlink_maker.proofs.Bytes.{bytes_all}
use Rattle.meter_side_main.proofs.listener.is_block.Goals as goal

pub returns : goal.returns
returns c = record {
  count = c.requires;
  bytes = bytes_all c.args.key.now (each_byte c.args.key.now (λ k. omega (arith, c.type_inv.key k)));
}
