use Rattle.std.proofs.Common.{subst}
use Rattle.meter_slots.specs.Journal.{Legal}
use Rattle.meter_slots.proofs.DownlinkLaws.{downlink_counters_rise}
use Rattle.meter_slots.proofs.JournalLaws.{stored_counters_rise, stored_above_last}
use Rattle.receivers.proofs.laws.counters_rise_over_all_receivers.Goals as goal

pub returns-clause-stored : goal.returns-clause-stored
returns-clause-stored _ own c all slot h m = stored_counters_rise c own slot.journal m h.legal

pub returns-clause-exactly : goal.returns-clause-exactly
returns-clause-exactly _ own c all slot before x after n h m is =
    stored_above_last c own before x after n m (subst (Legal c own) is h.legal)

pub returns-clause-sent : goal.returns-clause-sent
returns-clause-sent _ own c all slot h = downlink_counters_rise c own slot.journal h.legal
