use Rattle.std.proofs.Common.{◌≡◌, true, drop}
use Rattle.std.specs.List.{list_all}
use Rattle.full_records.specs.Measures.{is_scaled, measure_in}
use Rattle.full_records.proofs.further_tables.measure_in.Given as goal

abbrev pub invariant-loop-row : goal.invariant-loop-row
invariant-loop-row l =
    (list_all is_scaled (drop l.row-index l.rows) ≡ true) × (measure_in (drop l.row-index l.rows) l.code ≡ measure_in l.rows l.code)
