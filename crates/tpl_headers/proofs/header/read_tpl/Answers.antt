use Rattle.std.proofs.Common.{arith}
use Rattle.tpl_headers.proofs.Headers.{is_found, is_only}
use Rattle.tpl_headers.proofs.header.read_tpl.Goals as goal

pub returns-clause-found : goal.returns-clause-found
returns-clause-found c = is_found c.args.bytes.now c.read_header.result (λ i. omega (arith, c.type_inv.bytes i)) c.read_header.ensures

pub returns-clause-only : goal.returns-clause-only
returns-clause-only c = is_only c.args.bytes.now c.read_header.result c.read_header.ensures
