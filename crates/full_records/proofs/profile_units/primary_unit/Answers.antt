use Rattle.std.proofs.Common.{ap, ◌∙◌, [], ◌∷◌}
use Rattle.record_values.specs.Units.{unit}
use Rattle.full_records.proofs.UnitPlaces.{primary_is, primary_span}
use Rattle.full_records.proofs.profile_units.primary_unit.Goals as goal

pub unit_of-requires : goal.unit_of-requires
unit_of-requires c = primary_span c.args.code c.bare_span.result c.requires.last c.requires.other c.bare_span.ensures

pub returns : goal.returns
returns c =
    c.unit_of.ensures ∙ (ap (λ s. unit (0 ∷ c.args.code ∷ []) s) c.bare_span.ensures ∙ primary_is c.args.code c.requires.last)
