use Rattle.std.proofs.Common.{length}
use Rattle.report_text.specs.Orders.{lines_in}
use Rattle.audit_check_main.proofs.ReadLists.{HaveRead}
use Rattle.audit_check_main.proofs.line_lists.read_lists.Given as goal

abbrev pub invariant-lines : goal.invariant-lines
invariant-lines l = HaveRead l.meters (lines_in l.report) l.lines l.number l.lists

abbrev pub decreases-lines : goal.decreases-lines
decreases-lines l = length l.lines
