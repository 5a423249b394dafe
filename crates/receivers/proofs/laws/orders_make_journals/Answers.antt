use Rattle.std.proofs.Common.{sym, ◌∙◌}
use Rattle.receivers.specs.Session.{heard_by, lines_of_strangers}
use Rattle.receivers.proofs.OrderLaws.{in_order, slot_exists, one_strangers, strangers_exist}
use Rattle.receivers.proofs.laws.orders_make_journals.Goals as goal

pub returns-clause-order : goal.returns-clause-order
returns-clause-order _ own c all slot h = in_order own c all slot h

pub returns-clause-journal : goal.returns-clause-journal
returns-clause-journal _ own c all order h = slot_exists own c all order h

pub returns-clause-strangers : goal.returns-clause-strangers
returns-clause-strangers _ commissions all order h = strangers_exist commissions all order h

pub returns-clause-one : goal.returns-clause-one
returns-clause-one _ commissions all order heard again h k =
    one_strangers (λ w. lines_of_strangers commissions (heard_by w all)) heard again h.lines k.lines (h.in_order ∙ sym k.in_order)
