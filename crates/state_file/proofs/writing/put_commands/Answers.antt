use Rattle.std.proofs.Common.{arith}
use Rattle.state_file.proofs.StatePieces.{command_step, commands_end}
use Rattle.state_file.proofs.writing.put_commands.Goals as goal

pub loop-place-preserved : goal.loop-place-preserved
loop-place-preserved g c =
    command_step c.args.window c.args.queue.now.commands c.loop-place.place _ _ c.word_at.ensures c.at.ensures.command c.loop-place.invariant
    c.put_command_if.ensures

pub returns : goal.returns
returns g c =
    commands_end c.args.window c.args.queue.now.commands c.loop-place.place
    (let done = c.loop-place-test.false in let count = c.pending-place-end.ensures.count in omega arith) c.loop-place.invariant
