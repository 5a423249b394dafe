use Rattle.paper.proofs.Calls.{once}
use Rattle.paper.proofs.Items.{is_put}
use Rattle.step_text.proofs.Escaped.{short_escape}
use Rattle.step_text.proofs.escaping.put_escaped_byte.Goals as goal

pub returns-then-letter-gt0 : goal.returns-then-letter-gt0
returns-then-letter-gt0 g c =
    let letter = c.escape_letter-letter in
    is_put _ _ (short_escape c.args.byte letter.result letter.ensures c.if-letter-gt0.true) (once c.put.ensures)
