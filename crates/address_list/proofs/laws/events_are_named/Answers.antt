use Rattle.address_list.proofs.Named.{named}
use Rattle.address_list.proofs.laws.events_are_named.Goals as goal

pub returns : goal.returns
returns c = named
