-- A message is stored exactly where it is genuine and above all.
use Rattle.meter_slots.proofs.JournalLaws.{stored_where_genuine}
use Rattle.meter_slots.proofs.laws.stored_exactly.Goals as goal

pub returns : goal.returns
returns _ = λ c own before x after n. stored_where_genuine c own before x after n
