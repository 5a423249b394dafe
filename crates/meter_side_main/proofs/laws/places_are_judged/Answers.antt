use Rattle.meter_side_main.proofs.Places.{places_are_judged}
use Rattle.meter_side_main.proofs.laws.places_are_judged.Goals as goal

pub returns : goal.returns
returns c = places_are_judged
