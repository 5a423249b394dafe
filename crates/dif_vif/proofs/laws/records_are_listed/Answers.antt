use Rattle.dif_vif.proofs.Listed.{listed}
use Rattle.dif_vif.proofs.laws.records_are_listed.Goals as goal

pub returns : goal.returns
returns c = listed
