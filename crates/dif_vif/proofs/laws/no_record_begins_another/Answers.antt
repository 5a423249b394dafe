use Rattle.dif_vif.proofs.Listings.{one_record}
use Rattle.dif_vif.proofs.laws.no_record_begins_another.Goals as goal

pub returns : goal.returns
returns c = one_record
