use Rattle.std.proofs.Common.{arith}
use Rattle.afl_layer.proofs.HeaderLaws.{is_found, is_only}
use Rattle.afl_layer.proofs.Faults.{is_fault}
use Rattle.afl_layer.proofs.header.read_afl.Goals as goal

pub returns-clause-found : goal.returns-clause-found
returns-clause-found c =
    is_found c.args.bytes.now c.read_header.result c.requires (λ i. omega (arith, c.type_inv.bytes i)) c.read_header.ensures

pub returns-clause-only : goal.returns-clause-only
returns-clause-only c = is_only c.args.bytes.now c.read_header.result c.read_header.ensures

pub returns-clause-fault : goal.returns-clause-fault
returns-clause-fault c =
    is_fault c.args.bytes.now c.read_header.result c.requires (λ i. omega (arith, c.type_inv.bytes i)) c.read_header.ensures
