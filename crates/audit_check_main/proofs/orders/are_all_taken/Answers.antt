use Rattle.std.proofs.Common.{◌∙◌, ap, length}
use Rattle.audit_check_main.proofs.OrderChecks.{some_missing, numbers_at_place}
use Rattle.audit_check_main.specs.Hearing.{numbers_in_list}
use Rattle.audit_check_main.proofs.orders.are_all_taken.Goals as goal

pub returns-then-numbers-taken-clause-missing : goal.returns-then-numbers-taken-clause-missing
returns-then-numbers-taken-clause-missing c = λ _ order so right.
    some_missing (numbers_in_list c.args.heard.now c.args.list) order c.args.taken.now so c.loop-receiver.receiver
    (λ e. c.if-numbers-taken.true (ap length (c.numbers.ensures
    ∙ numbers_at_place c.args.heard.now c.args.list c.loop-receiver.receiver c.index-heard-receiver.result c.loop-receiver-test.true
    c.index-heard-receiver.is) ∙ e)) right
