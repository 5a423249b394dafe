use Rattle.std.proofs.Common.{◌≡◌, drop}
use Rattle.full_records.specs.Qualifiers.{qualifier_in}
use Rattle.full_records.proofs.qualifiers.qualifier_in.Given as goal

abbrev pub invariant-loop-row : goal.invariant-loop-row
invariant-loop-row l = qualifier_in (drop l.row-index l.rows) l.code ≡ qualifier_in l.rows l.code
