-- A line is answered by what it delivers.
use Rattle.std.proofs.Common.{refl}
use Rattle.paper.proofs.Calls.{none}
use Rattle.line_teller.proofs.Keeping.{told_by}
use Rattle.line_accept.proofs.Lines.{accepts, passes_over}
use Rattle.line_accept.proofs.accepting.AcceptingTeller.tell.Goals as goal

pub returns-in-Some : goal.returns-in-Some
returns-in-Some c =
    told_by _ _ _ _ _ _ _ _ c.put_answer.ensures none
    (accepts c.self.inside.senders c.args.self.now c.accept-answer.new.self c.args._number c.args.line.now
    (record { name = c.in-Some.delivery.name.now; message = c.in-Some.delivery.message }) c.accept-answer.result c.self.view_is
    c.in-Some.ensures c.accept-answer.ensures.answer c.accept-answer.ensures.after)

pub returns-in-None : goal.returns-in-None
returns-in-None c =
    told_by _ _ _ _ _ _ _ _ c.put_text.ensures none
    (passes_over c.args.self.now _ c.args._number c.args.line.now c.in-None.ensures refl)
