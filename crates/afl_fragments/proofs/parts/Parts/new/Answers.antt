use Rattle.std.proofs.Common.{ap, sym, ◌∙◌, arith}
use Rattle.std.specs.List.{IsDistinct}
use Rattle.afl_fragments.specs.Places.{held_in}
use Rattle.afl_fragments.proofs.Holding.{held-nothing}
use Rattle.afl_fragments.proofs.parts.Parts.new.Goals as goal

pub invariant_of-result : goal.invariant_of-result
unfolding IsDistinct
invariant_of-result c = (
  rw c.in_ok-with_capacity.ensures.items (record { long = c.from_fn.ensures.items.long; distinct = tt; each = tt }),
  omega (arith, c.in_ok-with_capacity.ensures.capacity),
)

pub returns : goal.returns
returns c = ap (held_in _) c.in_ok-with_capacity.ensures.items ∙ sym held-nothing
