-- Sessions are legal where their journals are, end to end.
use Rattle.meter_slots.proofs.Cuts.{legal_through}
use Rattle.meter_slots.proofs.laws.many_sessions_are_one.Goals as goal

pub returns-clause-legal : goal.returns-clause-legal
returns-clause-legal _ = legal_through
