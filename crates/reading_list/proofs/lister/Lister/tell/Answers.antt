-- A line is listed and noted by what it says.
use Rattle.std.proofs.Common.{Err, refl, subst}
use Rattle.paper.proofs.Calls.{none}
use Rattle.line_teller.proofs.Keeping.{told_by}
use Rattle.reading_list.specs.Said.{Means, said_of, said_read}
use Rattle.reading_list.proofs.Lines.{lists_said}
use Rattle.reading_list.proofs.lister.Lister.tell.Goals as goal

pub returns-in-Ok : goal.returns-in-Ok
returns-in-Ok c =
    told_by _ _ _ _ _ _ _ _ c.put_said-found.ensures.text c.put_note_if.ensures
    (lists_said c.args.self.now c.behind_said.result c.args.number c.args.line.now _ c.put_said-found.result c.in-Ok.ensures
    c.put_said-found.ensures.note c.behind_said.ensures)

pub returns-in-Err-Faulty : goal.returns-in-Err-Faulty
returns-in-Err-Faulty c =
    told_by _ _ _ _ _ _ _ _ none c.put_note.ensures
    (lists_said c.args.self.now c.behind_fault.result c.args.number c.args.line.now (Err c.in-Err-Faulty.fault) _
    (subst (λ unread. Means said_read (Err unread) (said_of c.args.line.now)) c.in-Err-Faulty.field-0-is c.in-Err-Faulty.ensures)
    refl c.behind_fault.ensures)
