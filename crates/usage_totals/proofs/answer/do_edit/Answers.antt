use Rattle.std.proofs.Common.{sym, subst, ap, ◌∙◌}
use Rattle.usage_totals.specs.Edits.{addition, replacement}
use Rattle.usage_totals.specs.Requests.{edit_read}
use Rattle.usage_totals.specs.Answering.{DoesEdit}
use Rattle.usage_totals.proofs.SettledEdits.{edit_settled}
use Rattle.usage_totals.proofs.answer.do_edit.Goals as goal

pub returns-in-Add : goal.returns-in-Add
returns-in-Add c =
    subst (λ edit. DoesEdit edit c.args.totals.now c.settled.result c.add.new.self)
    (ap (addition c.in-Add.address) c.as_slice.ensures.value ∙ sym (ap edit_read c.in-Add.is))
    (edit_settled _ _ _ c.add.result c.settled.result c.add.ensures c.settled.ensures)

pub returns-in-Replace : goal.returns-in-Replace
returns-in-Replace c =
    subst (λ edit. DoesEdit edit c.args.totals.now c.settled-in-Replace.result c.replace.new.self)
    (ap (replacement c.in-Replace.address c.in-Replace.place) c.as_slice-in-Replace.ensures.value ∙ sym (ap edit_read c.in-Replace.is))
    (edit_settled _ _ _ c.replace.result c.settled-in-Replace.result c.replace.ensures c.settled-in-Replace.ensures)

pub returns-in-Remove : goal.returns-in-Remove
returns-in-Remove c =
    subst (λ edit. DoesEdit edit c.args.totals.now c.settled-in-Remove.result c.remove.new.self)
    (sym (ap edit_read c.in-Remove.is))
    (edit_settled _ _ _ c.remove.result c.settled-in-Remove.result c.remove.ensures.answered c.settled-in-Remove.ensures)
