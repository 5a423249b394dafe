-- A line that is too long is bad.
use Rattle.std.proofs.Common.{refl}
use Rattle.paper.proofs.Calls.{none}
use Rattle.line_teller.proofs.Keeping.{told_by}
use Rattle.line_accept.proofs.Lines.{passes_over, long_delivers}
use Rattle.line_accept.proofs.accepting.AcceptingTeller.tell_long.Goals as goal

pub returns : goal.returns
returns c = λ line long.
    told_by _ _ _ _ _ _ _ _ c.put_text.ensures none
    (passes_over c.args.self.now _ c.args._number line (long_delivers line long) refl)
