use Rattle.ell_layer.proofs.Headers.{is_only}
use Rattle.ell_layer.proofs.extension.read_ell.Goals as goal

pub returns-clause-only : goal.returns-clause-only
returns-clause-only c = is_only c.args.bytes.now c.extension.result c.extension.ensures
