use Rattle.std.proofs.Common.{ap, ◌∙◌, slice_set}
use Rattle.std.proofs.lemmas.List.{map-set}
use Rattle.usage_totals.specs.declared.rows.NumberedRow.{NumberedRow}
use Rattle.usage_totals.proofs.Numbering.{place_stands, set_indexed}
use Rattle.usage_totals.proofs.meter.Meter.replace.Goals as goal

pub change-requires : goal.change-requires
change-requires c = place_stands c.self.invariant c.self.view_is c.args.place c.requires c.index-old.ensures

pub invariant_of-self-2 : goal.invariant_of-self-2
invariant_of-self-2 c =
    set_indexed c.self.invariant c.self.view_is c.args.place c.requires c.index-old.ensures c.args.row c.change.new.self
    c.in_ok-change.ensures.ok

pub returns-clause-ok : goal.returns-clause-ok
returns-clause-ok c =
    map-set (λ (row : NumberedRow). row.amounts) c.self.inside.rows.items c.args.place _
    ∙ ap (λ rows. slice_set rows c.args.place c.args.row) c.self.view_is
