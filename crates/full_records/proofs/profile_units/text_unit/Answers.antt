use Rattle.std.proofs.Common.{ap, ◌∙◌, [], ◌∷◌}
use Rattle.record_values.specs.Units.{unit}
use Rattle.full_records.proofs.UnitPlaces.{text_span}
use Rattle.full_records.proofs.profile_units.text_unit.Goals as goal

pub unit_of-requires : goal.unit_of-requires
unit_of-requires c = text_span c.bare_span.result c.bare_span.ensures

pub returns : goal.returns
returns c = c.unit_of.ensures ∙ ap (λ s. unit (0 ∷ 0x7c ∷ 0 ∷ []) s) c.bare_span.ensures
