use Rattle.std.proofs.Common.{◌++◌, ap, ◌∙◌}
use Rattle.std.specs.List.{concat}
use Rattle.std.proofs.lemmas.Result.{on_ok_weaker}
use Rattle.made_input.proofs.Hearing.{rotated_put, rotated-map}
use Rattle.made_input.proofs.lines.append_rotated.Goals as goal

pub returns : goal.returns
returns c =
    on_ok_weaker c.append-2.result
    (λ put. rotated_put (λ line. line.items) c.args.by c.args.group.now _ _ c.args.text.now.items _ _ c.split_at.ensures.front
    c.split_at.ensures.back
    c.in_ok-append.ensures put
    ∙ ap (λ lines. c.args.text.now.items ++ concat lines) (rotated-map (λ line. line.items) c.args.by c.args.group.now))
    c.append-2.ensures
