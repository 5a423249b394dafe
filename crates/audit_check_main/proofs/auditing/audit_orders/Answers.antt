use Rattle.std.proofs.Common.{option_copied}
use Rattle.audit_check_main.proofs.Prints.{found_is}
use Rattle.audit_check_main.proofs.auditing.audit_orders.Goals as goal

pub returns-clause-stepped : goal.returns-clause-stepped
returns-clause-stepped c = λ right.
    found_is c.args.own c.args.meters.items c.args.heard.now c.args.lists.now c.args.report.now (option_copied c.args.next)
    (record { report = c.new-paper.result; next = c.next_paper-left.result })
    (record { report = c.put_session.new.paper; next = c.put_session.new.next }) c.new-paper.ensures c.next_paper-left.ensures.fresh
    c.next_paper-left.ensures.text (c.in_ok-put_session.ensures.put right) c.found_verdict.result c.found_verdict.ensures
