use Rattle.std.proofs.Common.{rules}
use Rattle.meter_address.proofs.Texts.{bytes_of-made}
use Rattle.meter_address.proofs.address.Address.from_bytes.Goals as goal

pub returns-clause-again : goal.returns-clause-again
returns-clause-again c = bytes_of-made c.args.bytes _ (search rules) (search rules) c.from_be_bytes.ensures
