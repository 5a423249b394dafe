-- Counters rise over a session that was lost.
use Rattle.meter_slots.proofs.DownlinkLaws.{lost_rise}
use Rattle.meter_slots.proofs.laws.sent_counters_rise_over_reserves.Goals as goal

pub returns-clause-lost : goal.returns-clause-lost
returns-clause-lost _ = lost_rise
