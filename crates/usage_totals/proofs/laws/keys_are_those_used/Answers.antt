use Rattle.usage_totals.specs.Edits.{rows_after}
use Rattle.usage_totals.proofs.KeysIn.{keys_in_order, among_keys_in}
use Rattle.usage_totals.proofs.laws.keys_are_those_used.Goals as goal

pub returns-clause-ordered : goal.returns-clause-ordered
returns-clause-ordered c = λ edits. keys_in_order (rows_after edits)

pub returns-clause-used : goal.returns-clause-used
returns-clause-used c = λ edits key. among_keys_in key (rows_after edits)
