use Rattle.full_records.proofs.Short.{short_is}
use Rattle.full_records.proofs.powers.power_of_ten.Goals as goal

pub returns : goal.returns
returns c = short_is _ c.checked_pow.result c.checked_pow.ensures
