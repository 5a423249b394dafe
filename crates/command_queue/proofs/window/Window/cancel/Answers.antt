use Rattle.std.proofs.Common.{sym, ap, ◌∙◌}
use Rattle.command_queue.specs.Orders.{orders_of}
use Rattle.command_queue.proofs.Agreement.{agrees_cancelled, cancel_refused, cancel_taken}
use Rattle.command_queue.proofs.window.Window.cancel.Goals as goal

pub returns-in_err-command-clause-after : goal.returns-in_err-command-clause-after
returns-in_err-command-clause-after c = λ down.
    ap (λ q. orders_of q c.args.self.now down) c.in_err-command.ensures.refused
    ∙ cancel_refused c.args.id (orders_of c.args.queue.now c.args.self.now down) c.in_err-command.field-0.0
    (sym c.in_err-command.ensures.answer)

pub returns-clause-after : goal.returns-clause-after
returns-clause-after c = λ down.
    rw (c.take.ensures.after, c.cancelled.ensures)
    (cancel_taken c.args.id (orders_of c.args.queue.now c.args.self.now down) c.in_ok-command.command (sym c.in_ok-command.ensures.answer))

pub returns-clause-agrees : goal.returns-clause-agrees
returns-clause-agrees c =
    rw (c.take.ensures.after, c.cancelled.ensures)
    (agrees_cancelled c.args.id c.args.self.now c.args.queue.now c.take.ensures.was_sound c.requires)
