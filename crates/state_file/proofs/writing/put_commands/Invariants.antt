use Rattle.std.proofs.Common.{take}
use Rattle.std.specs.List.{flat_map}
use Rattle.paper.specs.Puts.{Puts}
use Rattle.state_file.specs.Text.{commands_lines}
use Rattle.state_file.specs.Written.{ended_text}
use Rattle.state_file.proofs.writing.put_commands.Given as goal

abbrev pub invariant-loop-place : goal.invariant-loop-place
invariant-loop-place g l =
    Puts g.P.Paper.takes l.initial.paper (flat_map ended_text (take l.place (commands_lines l.window l.queue.commands))) l.paper
