-- Nothing waited before the line, and nothing waits behind it.
use Rattle.std.proofs.Common.{refl}
use Rattle.line_teller.proofs.Steps.{ok_both, one_told_alone}
use Rattle.line_teller.proofs.telling.tell_one.Goals as goal

pub returns-clause-told : goal.returns-clause-told
returns-clause-told g c =
    ok_both c.tell_next.result _ _ _ c.tell_next.ensures.told c.tell_next.ensures.all (λ told all tells.
    one_told_alone g.T.Teller.tells c.requires.no_text (all refl) (told tells))
