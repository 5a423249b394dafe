use Rattle.std.proofs.Common.{map, ap, ◌∙◌}
use Rattle.std.proofs.lemmas.Result.{on_ok_weaker}
use Rattle.made_input.specs.Runs.{joined, texts_rotated}
use Rattle.made_input.proofs.HeardRuns.{same_texts}
use Rattle.made_input.proofs.runs.Run.append.Goals as goal

pub returns : goal.returns
unfolding joined texts_rotated
returns c =
    on_ok_weaker c.append_rotated-4.result
    (λ put. same_texts _ _ _ _ _ _ _ _ c.in_ok-append_rotated.ensures c.in_ok-append_rotated-2.ensures c.in_ok-append_rotated-3.ensures put
    ∙ ap (λ t. joined t (texts_rotated (map (λ l. l.items) c.args.group.now))) c.self.view_is)
    c.append_rotated-4.ensures
