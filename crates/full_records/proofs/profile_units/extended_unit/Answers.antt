use Rattle.std.proofs.Common.{sym, ap, ◌∙◌, [], ◌∷◌}
use Rattle.record_values.specs.Units.{unit}
use Rattle.full_records.proofs.UnitPlaces.{extended_is, extended_span}
use Rattle.full_records.proofs.profile_units.extended_unit.Goals as goal

pub unit_of-requires : goal.unit_of-requires
unit_of-requires c = extended_span c.args.vif c.args.code c.bare_span.result c.requires.announced c.requires.last c.bare_span.ensures

pub returns : goal.returns
returns c =
    c.unit_of.ensures ∙ (ap (λ s. unit (0 ∷ c.args.vif ∷ c.args.code ∷ []) s) c.bare_span.ensures
    ∙ extended_is c.args.vif c.args.code c.requires.announced c.requires.last)
