use Rattle.audit_laws.proofs.Faithful.{never_no, yes_or_memory}
use Rattle.audit_laws.proofs.reports_are_answered_yes.Goals as goal

pub returns : goal.returns
returns _ = record { never_no = never_no; yes = yes_or_memory }
