use Rattle.dif_vif.proofs.Listings.{ending_is, next_is}
use Rattle.dif_vif.proofs.laws.listing_is_read.Goals as goal

pub returns-clause-begins : goal.returns-clause-begins
returns-clause-begins c = λ bytes from span spans ending l. next_is bytes from span l.0

pub returns-clause-ends : goal.returns-clause-ends
returns-clause-ends c = ending_is
