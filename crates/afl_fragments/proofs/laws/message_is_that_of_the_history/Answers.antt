use Rattle.afl_fragments.proofs.HistoryLaws.{messages_are_those_of_histories}
use Rattle.afl_fragments.proofs.laws.message_is_that_of_the_history.Goals as goal

pub returns : goal.returns
returns c = messages_are_those_of_histories
