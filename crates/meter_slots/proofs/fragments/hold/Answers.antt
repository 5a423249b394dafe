use Rattle.std.proofs.Common.{◌≡◌, [], sym, ap, ◌∙◌}
use Rattle.afl_fragments.proofs.Holding.{held-nothing}
use Rattle.meter_slots.specs.Keeping.{held_by}
use Rattle.meter_slots.proofs.fragments.hold.Goals as goal

pub returns-in_ok-parts-in-None-clause-ok : goal.returns-in_ok-parts-in-None-clause-ok
returns-in_ok-parts-in-None-clause-ok c told stands =
    let new = c.in_ok-new-in-None.ensures ∙ held-nothing in
    let before : held_by c.args.fragments.now ≡ [] = ap held_by c.in-None.is in
    c.hold-in-None.ensures.held told
    (c.deref_mut-in-None.ensures.value ∙ c.in_ok-parts-in-None.ensures.ok ∙ new ∙ sym before ∙ stands)
