use Rattle.std.proofs.Common.{◌∙◌, sym}
use Rattle.audit_check_main.proofs.ReadLists.{lists_fit, orders_read}
use Rattle.audit_check_main.proofs.line_lists.read_lists.Goals as goal

pub into_all-requires : goal.into_all-requires
into_all-requires c = lists_fit _ _ _ _ _ c.lines.invariant

pub returns-in-Ok-into_all-clause-lists : goal.returns-in-Ok-into_all-clause-lists
returns-in-Ok-into_all-clause-lists c =
    c.in-Ok-into_all.ensures
    ∙ sym (orders_read c.args.meters c.args.report.now c.lines.lines c.lines.number c.lines.lists c.lines.invariant
    c.in_default.ensures.steps.0)
