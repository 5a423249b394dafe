use Rattle.audit_laws.proofs.OneSession.{goes_on}
use Rattle.audit_laws.proofs.audited_sessions_go_on.Goals as goal

pub returns : goal.returns
returns _ = goes_on
