use Rattle.std.proofs.Common.{refl, ap, sym, ◌∙◌}
use Rattle.command_queue.specs.Orders.{Orders}
use Rattle.meter_slots.specs.Restoring.{window_fits}
use Rattle.meter_slots.proofs.Restorings.{agrees_waiting, agrees_still}
use Rattle.meter_slots.proofs.commands.Commands.restore.Goals as goal

pub invariant_of-self-then-waits : goal.invariant_of-self-then-waits
invariant_of-self-then-waits c =
    let q = c.self.inside.queue in
    agrees_waiting q c.restore.new.self c.args.command c.restore.ensures.was_sound c.restore.ensures.after
    (sym c.restore.ensures.answer ∙ c.if-not-restore.false)
    (ap (window_fits q.commands c.args.command) (sym c.if-waits.true)
    ∙ ap (λ (k : Orders). window_fits k.queue.commands c.args.command c.args.waits) c.self.view_is ∙ sym (c.window_fits.ensures c.args.command refl)
    ∙ c.if-not-window_fits.false)

pub invariant_of-self-else-waits : goal.invariant_of-self-else-waits
invariant_of-self-else-waits c =
    let q = c.self.inside.queue in
    agrees_still q c.restore.new.self c.args.command c.restore.ensures.was_sound c.restore.ensures.after
    (sym c.restore.ensures.answer ∙ c.if-not-restore.false) c.self.inside.window c.self.invariant
    (ap (window_fits q.commands c.args.command) (sym c.if-waits.false)
    ∙ ap (λ (k : Orders). window_fits k.queue.commands c.args.command c.args.waits) c.self.view_is ∙ sym (c.window_fits.ensures c.args.command refl)
    ∙ c.if-not-window_fits.false)
