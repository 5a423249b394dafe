-- The awaited command is there to be taken, and an idle window agrees with what is left.
use Rattle.command_queue.proofs.Agreement.{closed, awaited_taken}
use Rattle.command_queue.proofs.window.Window.tick.Goals as goal

pub prove-unreachable-requires : goal.prove-unreachable-requires
prove-unreachable-requires c = cc (awaited_taken _ _ _ _ c.in-Waiting.is c.requires c.take.ensures.answer)

pub returns-clause-agrees : goal.returns-clause-agrees
returns-clause-agrees c = closed _ _ _ _ c.in-Waiting.is c.take.ensures.was_sound c.requires c.take.ensures.after
