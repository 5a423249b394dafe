-- What is put of the amounts that are kept is what the rows say.
use Rattle.std.proofs.Common.{◌∙◌}
use Rattle.usage_totals.proofs.Told.{totals_answered}
use Rattle.usage_totals.proofs.answer.answer_totals.Goals as goal

pub returns : goal.returns
returns c = λ addressed.
    totals_answered addressed c.args.rows.now c.as_slice.result.now (λ edits s. c.as_slice.ensures.value ∙ c.in_ok-keys.ensures edits s)
    _ _ c.put_totals_answer.ensures
