-- A line is fed, or noted.
use Rattle.std.proofs.Common.{Err, refl, subst}
use Rattle.paper.proofs.Calls.{none}
use Rattle.line_teller.proofs.Keeping.{told_by}
use Rattle.line_feed.specs.Heard.{Means}
use Rattle.line_feed.specs.Lines.{heard_of}
use Rattle.line_feed.proofs.FedLines.{feeds_taken, feeds_left_out}
use Rattle.line_feed.proofs.feed.FeedStreamTeller.tell.Goals as goal

pub returns-in-Ok : goal.returns-in-Ok
returns-in-Ok g c =
    let line = c.take.ensures.text in
    told_by _ _ _ _ _ _ _ _ line.put c.take.ensures.note
    (feeds_taken c.args.self.now _ c.args.number c.args.line.now _ _ c.in-Ok.ensures
    (record { at = line.at; below = line.below; moment = line.moment; text_is = refl }) c.take.ensures.fed)

pub returns-in-Err-Refused : goal.returns-in-Err-Refused
returns-in-Err-Refused g c =
    told_by _ _ _ _ _ _ _ _ none c.leave_out.ensures.note
    (feeds_left_out c.args.self.now _ c.args.number c.args.line.now _
    (subst (λ unheard. Means (Err unheard) (heard_of c.args.self.now.printing c.args.line.now)) c.in-Err-Refused.field-0-is
    c.in-Err-Refused.ensures)
    c.leave_out.ensures.fed)
