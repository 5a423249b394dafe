-- The window agrees with the queue when the oldest command was sent.
use Rattle.std.proofs.Common.{subst, sym}
use Rattle.command_queue.specs.declared.window.Window.TheVariants.{Waiting}
use Rattle.command_queue.specs.Orders.{Agrees}
use Rattle.command_queue.proofs.Agreement.{agrees_sent}
use Rattle.command_queue.proofs.window.Window.send.Goals as goal

pub returns-clause-agrees : goal.returns-clause-agrees
returns-clause-agrees c =
    subst (Agrees (Waiting c.in-Some.oldest.now.id)) (sym c.count_try.ensures)
    (agrees_sent c.args.queue.now.ids c.args.queue.now.commands c.in-Some.oldest.now (subst (λ w. Agrees w c.args.queue.now) c.in-Idle.is c.requires)
    c.in-Some.ensures.command)
