use Rattle.std.proofs.Common.{map, remove, sym, ap, ◌∙◌, subst}
use Rattle.indexmap.proofs.SetLemmas.{map-remove}
use Rattle.usage_totals.specs.declared.rows.NumberedRow.{NumberedRow}
use Rattle.usage_totals.specs.Indexed.{IsIndexed}
use Rattle.usage_totals.proofs.Numbering.{place_stands, removed_indexed}
use Rattle.usage_totals.proofs.meter.Meter.remove.Goals as goal

pub remove-requires : goal.remove-requires
remove-requires c = place_stands c.self.invariant c.self.view_is c.args.place c.requires c.remove-gone.ensures.value

pub invariant_of-self : goal.invariant_of-self
invariant_of-self c =
    subst (λ rows. IsIndexed rows c.self.inside.next c.remove.new.self) (sym c.remove-gone.ensures.items)
    (removed_indexed c.self.invariant c.self.view_is c.args.place c.requires c.remove-gone.ensures.value c.remove.new.self c.remove.ensures)

pub returns : goal.returns
returns c =
    ap (map (λ (row : NumberedRow). row.amounts)) c.remove-gone.ensures.items
    ∙ map-remove (λ (row : NumberedRow). row.amounts) c.self.inside.rows.items c.args.place
    ∙ ap (λ rows. remove rows c.args.place) c.self.view_is
