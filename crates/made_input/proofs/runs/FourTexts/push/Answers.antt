use Rattle.std.proofs.Common.{ap₂, ◌∙◌}
use Rattle.std.proofs.lemmas.Result.{on_ok_weaker}
use Rattle.made_input.specs.Runs.{joined}
use Rattle.made_input.proofs.HeardRuns.{same_texts}
use Rattle.made_input.proofs.runs.FourTexts.push.Goals as goal

pub returns : goal.returns
unfolding joined
returns c =
    on_ok_weaker c.push-4.result
    (λ put. same_texts _ _ _ _ _ _ _ _ c.in_ok-push.ensures c.in_ok-push-2.ensures c.in_ok-push-3.ensures put
    ∙ ap₂ joined c.self.view_is c.run.view_is)
    c.push-4.ensures
