use Rattle.std.proofs.Common.{ap, sym, subst, ◌∙◌}
use Rattle.std.specs.Prelude.{IfSome}
use Rattle.command_queue.specs.Orders.{Orders, orders_of, sent_at, after_confirmed, after_sent, IsOldestAfterTry}
use Rattle.command_queue.proofs.Agreement.{sent_first}
use Rattle.command_queue.proofs.window.Window.uplink.Goals as goal

pub returns-clause-oldest : goal.returns-clause-oldest
returns-clause-oldest c =
    let k : Orders = orders_of c.args.queue.now c.args.self.now c.args.down.now in
    let after =
    c.send-send.ensures.after ∙ ap (λ (o : Orders). after_sent o c.args.access) (c.confirm-confirmed.ensures.after c.args.down.now) in
    subst (λ q. IfSome (sent_at k c.args.access c.args.response) (IsOldestAfterTry q)) (sym (ap (λ (o : Orders). o.queue) after))
    (sent_first (after_confirmed k c.args.response) c.args.access)
