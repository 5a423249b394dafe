use Rattle.std.proofs.Common.{sym, ◌∙◌}
use Rattle.full_records.proofs.UnitPlaces.{not_long_span}
use Rattle.full_records.proofs.profile_units.full_unit_of.Goals as goal

pub unit_of-requires : goal.unit_of-requires
unit_of-requires c =
    not_long_span c.args.bytes.now c.args.span.now c.requires (sym c.is_long.ensures ∙ c.if-is_long.false)
