use Rattle.std.proofs.Common.{sym}
use Rattle.made_input.proofs.Counting.{strangers_are}
use Rattle.made_input.proofs.summary.of_stranger.Goals as goal

pub returns-clause-count : goal.returns-clause-count
returns-clause-count c = sym (strangers_are c.args.meters c.args.telegrams)
