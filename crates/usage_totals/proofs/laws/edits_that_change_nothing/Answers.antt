use Rattle.usage_totals.proofs.Unchanged.{replaced_itself, added_and_removed}
use Rattle.usage_totals.proofs.laws.edits_that_change_nothing.Goals as goal

pub returns-clause-itself : goal.returns-clause-itself
returns-clause-itself c = replaced_itself

pub returns-clause-again : goal.returns-clause-again
returns-clause-again c = added_and_removed
