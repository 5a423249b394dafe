use Rattle.std.proofs.Common.{ap, length, arith}
use Rattle.std.proofs.lemmas.List.{length-map}
use Rattle.afl_fragments.specs.Places.{at_place}
use Rattle.afl_fragments.proofs.PlaceLaws.{few_places}
use Rattle.afl_fragments.proofs.parts.Parts.count.Goals as goal

pub returns-clause-few : goal.returns-clause-few
returns-clause-few c =
    let order = c.self.inside.order.items in
    omega (arith, ap length c.self.view_is, length-map order (at_place c.self.inside.places), few_places _ order c.self.invariant.0)
