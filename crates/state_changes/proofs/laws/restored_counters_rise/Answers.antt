use Rattle.meter_slots.proofs.DownlinkLaws.{lost_rise}
use Rattle.state_changes.proofs.laws.restored_counters_rise.Goals as goal

pub returns : goal.returns
returns _ = λ n c own lost later. lost_rise c own lost later n
