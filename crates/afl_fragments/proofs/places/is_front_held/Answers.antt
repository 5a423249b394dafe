use Rattle.std.proofs.Common.{sym, ◌∙◌, arith}
use Rattle.afl_fragments.proofs.FrontLaws.{front_goes_on, front_stops}
use Rattle.afl_fragments.proofs.places.is_front_held.Goals as goal

pub returns-then-not-leads : goal.returns-then-not-leads
returns-then-not-leads c =
    front_stops _ _ _ _ c.requires.ordered c.loop-place-test.true c.requires.count c.loop-place.invariant (sym c.leads.ensures
    ∙ c.if-not-leads.true)

pub loop-place-preserved : goal.loop-place-preserved
loop-place-preserved c =
    front_goes_on _ _ _ c.requires.ordered (omega arith) c.loop-place.invariant (sym c.leads.ensures ∙ c.if-not-leads.false)
