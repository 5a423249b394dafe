use Rattle.std.proofs.Common.{length}
use Rattle.made_input.proofs.HeardRuns.{IsMadeTo}
use Rattle.made_input.proofs.runs.four_texts.Given as goal

abbrev pub invariant-loop-run : goal.invariant-loop-run
invariant-loop-run g l = IsMadeTo l.meters l.fn.telegrams (length l.yielded) l.texts
