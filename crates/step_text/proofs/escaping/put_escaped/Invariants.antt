use Rattle.std.proofs.Common.{take}
use Rattle.json.specs.Print.{escape}
use Rattle.paper.specs.Puts.{Puts}
use Rattle.step_text.proofs.escaping.put_escaped.Given as goal

abbrev pub invariant-loop-byte : goal.invariant-loop-byte
invariant-loop-byte g l = Puts g.P.Paper.takes l.initial.paper (escape (take l.byte-index l.bytes)) l.paper
