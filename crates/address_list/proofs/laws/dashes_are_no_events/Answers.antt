use Rattle.address_list.proofs.Named.{dashes}
use Rattle.address_list.proofs.laws.dashes_are_no_events.Goals as goal

pub returns : goal.returns
returns c = dashes
