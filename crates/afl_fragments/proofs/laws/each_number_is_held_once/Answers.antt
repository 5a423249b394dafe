use Rattle.afl_fragments.proofs.HistoryLaws.{each_number_is_held_once}
use Rattle.afl_fragments.proofs.laws.each_number_is_held_once.Goals as goal

pub returns : goal.returns
returns c = each_number_is_held_once
