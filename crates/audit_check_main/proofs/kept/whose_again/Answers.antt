use Rattle.std.proofs.Common.{◌∙◌, ap}
use Rattle.message_check.specs.Target.{target_of}
use Rattle.audit_check_main.proofs.KeptLines.{whose_heard}
use Rattle.audit_check_main.proofs.kept.whose_again.Goals as goal

pub returns-in-HearA : goal.returns-in-HearA
returns-in-HearA c =
    whose_heard c.args.kind c.args.number c.args.bytes.now c.target.result
    (c.target.ensures.exact ∙ ap target_of c.telegram_of.ensures) c.in-HearA.is
