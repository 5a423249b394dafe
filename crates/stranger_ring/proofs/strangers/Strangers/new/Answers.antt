use Rattle.std.proofs.Common.{ap, sym, ◌∙◌}
use Rattle.stranger_ring.specs.Ring.{ring_of}
use Rattle.stranger_ring.proofs.Rings.{no_ring}
use Rattle.stranger_ring.proofs.strangers.Strangers.new.Goals as goal

pub invariant_of-result : goal.invariant_of-result
invariant_of-result c = c.new-2.ensures ∙ sym (ap ring_of c.new.ensures.items ∙ no_ring)
