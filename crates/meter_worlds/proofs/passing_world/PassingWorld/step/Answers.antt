use Rattle.std.proofs.Common.{List, sym, ◌∙◌, ap, subst}
use Rattle.std.specs.Prelude.{slice_get}
use Rattle.meter_worlds.specs.declared.passing_world.PassingMeter.{PassingMeter}
use Rattle.meter_worlds.specs.PassingWorld.{ArePassing, step_for}
use Rattle.meter_worlds.proofs.PassingWorlds.{own_served, own_after, own_ordered, own_others, some_meter}
use Rattle.meter_worlds.proofs.passing_world.PassingWorld.step.Goals as goal

pub invariant_of-self-in-Some : goal.invariant_of-self-in-Some
invariant_of-self-in-Some c =
    own_ordered _ _ (step_for 0 0 c.args.address c.args.event.now) c.self.invariant _ some_meter _ _ (sym c.in-Some.ensures)
    (c.in_ok-served-in-Some.ensures.ok some_meter)

pub returns-in_ok-served-in-Some-clause-served : goal.returns-in_ok-served-in-Some-clause-served
returns-in_ok-served-in-Some-clause-served c slots source line all =
    own_served _ _ (step_for source line c.args.address c.args.event.now) c.self.invariant _ some_meter _ _ (sym c.in-Some.ensures)
    (c.in_ok-served-in-Some.ensures.ok some_meter) slots (subst (ArePassing slots) (sym c.self.view_is) all)

pub returns-in_ok-served-in-Some-clause-after : goal.returns-in_ok-served-in-Some-clause-after
returns-in_ok-served-in-Some-clause-after c slots source line all =
    own_after _ _ (step_for source line c.args.address c.args.event.now) c.self.invariant _ some_meter _ _ (sym c.in-Some.ensures)
    (c.in_ok-served-in-Some.ensures.ok some_meter) slots (subst (ArePassing slots) (sym c.self.view_is) all)

pub returns-in_ok-served-in-Some-clause-others : goal.returns-in_ok-served-in-Some-clause-others
returns-in_ok-served-in-Some-clause-others c i off =
    own_others _ _ (step_for 0 0 c.args.address c.args.event.now) c.self.invariant _ some_meter _ _ (sym c.in-Some.ensures)
    (c.in_ok-served-in-Some.ensures.ok some_meter) i off
    ∙ ap (λ (ms : List PassingMeter). slice_get ms i) c.self.view_is
