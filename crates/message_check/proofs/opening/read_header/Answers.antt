use Rattle.std.proofs.Common.{arith}
use Rattle.frame_formats.proofs.Division.{each_byte}
use Rattle.message_check.proofs.opening.read_header.Goals as goal

pub returns-clause-bytes : goal.returns-clause-bytes
returns-clause-bytes c = each_byte c.args.message.now (λ k. omega (arith, c.type_inv.message k))
