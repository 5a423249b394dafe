use Rattle.std.proofs.Common.{take}
use Rattle.std.specs.List.{flat_map}
use Rattle.paper.specs.Puts.{Puts}
use Rattle.state_file.specs.Written.{block_text}
use Rattle.state_file.proofs.writing.put_blocks.Given as goal

abbrev pub invariant-loop-start : goal.invariant-loop-start
invariant-loop-start g l = Puts g.P.Paper.takes l.initial.paper (flat_map block_text (take l.start-index l.starts)) l.paper
