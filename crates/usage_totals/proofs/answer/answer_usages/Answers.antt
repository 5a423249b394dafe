-- What is put of the amounts that are kept is what the rows say.
use Rattle.std.proofs.Common.{◌∙◌}
use Rattle.usage_totals.proofs.Told.{usages_answered}
use Rattle.usage_totals.proofs.answer.answer_usages.Goals as goal

pub returns : goal.returns
returns c =
    usages_answered c.args.addressed c.args.totals.now c.as_slice.result.now
    (λ edits s. c.as_slice.ensures.value ∙ c.in_ok-keys.ensures edits s) _ _ c.args.address c.named_if.result c.named_if.ensures c.put_usages_answer.ensures
