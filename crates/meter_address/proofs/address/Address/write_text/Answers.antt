use Rattle.std.proofs.Common.{rules}
use Rattle.meter_address.proofs.Texts.{written_spells}
use Rattle.meter_address.proofs.address.Address.write_text.Goals as goal

pub returns-clause-again : goal.returns-clause-again
returns-clause-again c = written_spells _ c.args.self (search rules)
