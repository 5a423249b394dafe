use Rattle.std.proofs.Common.{ap, ◌∙◌}
use Rattle.command_queue.specs.Pending.{newest_id}
use Rattle.command_queue.proofs.Moves.{newest_last}
use Rattle.command_queue.proofs.queue.Queue.newest_id.Goals as goal

pub returns-in-Some : goal.returns-in-Some
returns-in-Some c =
    newest_last 0 c.waiting.result.now c.in-Some.newest.now c.in-Some.ensures.value ∙ ap (newest_id 0) c.waiting.ensures.commands
