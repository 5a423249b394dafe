use Rattle.std.proofs.Common.{◌≡◌, true, drop}
use Rattle.std.specs.List.{list_all}
use Rattle.record_values.specs.Units.{is_scaled, unit_in}
use Rattle.record_values.proofs.unit_tables.unit_in.Given as goal

abbrev pub invariant-loop-row : goal.invariant-loop-row
invariant-loop-row l =
    (list_all is_scaled (drop l.row-index l.rows) ≡ true)
    × (unit_in (drop l.row-index l.rows) l.code l.modifiers_at l.modifiers ≡ unit_in l.rows l.code l.modifiers_at l.modifiers)
