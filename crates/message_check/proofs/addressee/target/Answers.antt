use Rattle.std.proofs.Common.{◌≡◌, ap, ◌∙◌}
use Rattle.std.specs.Prelude.{unwrap_or}
use Rattle.message_check.specs.Target.{long_address}
use Rattle.message_check.proofs.addressee.target.Goals as goal

pub returns-in-Ok-clause-long : goal.returns-in-Ok-clause-long
returns-in-Ok-clause-long c = λ l a reading long.
    let same : c.in-Ok.layers ≡ l = cc (c.in-Ok.ensures.only l reading) in
    c.unwrap_or.ensures ∙ ap (λ o. unwrap_or o c.link_address-link.result) (c.long_address.ensures ∙ ap long_address same ∙ long)

pub returns-in-Err-clause-long : goal.returns-in-Err-clause-long
returns-in-Err-clause-long c = λ l a reading long. absurd (cc (c.in-Err.ensures.only l reading))
