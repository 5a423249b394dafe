use Rattle.std.proofs.Common.{◌+◌, ◌++◌, ◌∷◌, [], sym, ap, ◌∙◌, subst}
use Rattle.usage_totals.specs.declared.rows.NumberedRow.{NumberedRow}
use Rattle.usage_totals.specs.Indexed.{IsIndexed}
use Rattle.usage_totals.proofs.Numbering.{next_stands, push_indexed}
use Rattle.usage_totals.proofs.meter.Meter.push.Goals as goal

pub add-requires : goal.add-requires
add-requires c = next_stands c.self.invariant

pub invariant_of-self-2 : goal.invariant_of-self-2
invariant_of-self-2 c =
    let new : NumberedRow = record { number = c.self.inside.next; amounts = c.args.row } in
    subst (λ rows. IsIndexed rows (c.self.inside.next + 1) c.add.new.self)
    (sym (c.push_reserved.ensures.items ∙ ap (λ rows. rows ++ new ∷ []) c.reserve.ensures.items))
    (push_indexed c.self.invariant c.args.row c.add.new.self c.in_ok-add.ensures.ok)
