use Rattle.std.proofs.Common.{ap, filter_map}
use Rattle.dif_vif.proofs.Listed.{listed}
use Rattle.usage_totals.specs.Amounts.{given, amount_at}
use Rattle.usage_totals.proofs.laws.amounts_are_of_the_listing.Goals as goal

pub returns : goal.returns
returns c = λ payload spans ending key l. ap (λ z. amount_at key (filter_map (given payload) z)) (listed payload spans ending l)
