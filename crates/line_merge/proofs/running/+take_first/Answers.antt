-- The first input has a fault, and those behind it are as they were.
use Rattle.std.proofs.Common.{rules}
use Rattle.line_merge.proofs.Rows.{first_goes_on}
use Rattle.line_merge.proofs.running.+take_first.Goals as goal

pub returns-in-Err-clause-goes_on : goal.returns-in-Err-clause-goes_on
returns-in-Err-clause-goes_on g t c =
    first_goes_on g.S.Source c.args.inputs.now c.in-Some.later.now c.in-Some.input.now c.next_head.new.input (search rules)
    c.next_head.ensures.later c.next_head.ensures.bytes
