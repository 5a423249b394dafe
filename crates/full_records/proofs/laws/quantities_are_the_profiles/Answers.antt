use Rattle.record_values.specs.Units.{unit}
use Rattle.full_records.specs.Measures.{code_behind, rows_behind}
use Rattle.full_records.proofs.Agreeing.{measured_is}
use Rattle.full_records.proofs.laws.quantities_are_the_profiles.Goals as goal

pub returns : goal.returns
returns c = λ bytes span named. measured_is (unit bytes span) (rows_behind span.vif) (code_behind bytes span) named
