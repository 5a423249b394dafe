use Rattle.std.proofs.Common.{ap, sym, ◌∙◌, arith}
use Rattle.std.specs.List.{IsDistinct}
use Rattle.afl_fragments.specs.Places.{held_in}
use Rattle.afl_fragments.proofs.Holding.{held-clear}
use Rattle.afl_fragments.proofs.parts.Parts.clear.Goals as goal

pub invariant_of-self : goal.invariant_of-self
unfolding IsDistinct
invariant_of-self c = (
  rw c.clear.ensures.items (record { long = c.self.invariant.0.long; distinct = tt; each = tt }),
  omega (arith, c.clear.ensures.capacity, c.self.invariant.1),
)

pub returns : goal.returns
returns c told h = ap (held_in c.self.inside.places) c.clear.ensures.items ∙ sym (held-clear told)
