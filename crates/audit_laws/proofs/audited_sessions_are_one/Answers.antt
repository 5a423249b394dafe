use Rattle.audit_laws.proofs.OneSession.{one_session}
use Rattle.audit_laws.proofs.audited_sessions_are_one.Goals as goal

pub returns : goal.returns
returns _ = one_session
