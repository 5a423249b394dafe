use Rattle.dif_vif.proofs.Listings.{one_span}
use Rattle.dif_vif.proofs.laws.one_span_at_a_place.Goals as goal

pub returns : goal.returns
returns c = one_span
