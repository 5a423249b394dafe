use Rattle.std.proofs.Common.{◌-◌, sym, ap, ◌∙◌}
use Rattle.made_input.proofs.Counting.{own_are, highest_is}
use Rattle.made_input.proofs.summary.of_meters.Goals as goal

pub returns-clause-count : goal.returns-clause-count
returns-clause-count c = ap (λ n. c.args.telegrams - n) c.of_stranger.ensures.count ∙ sym (own_are c.args.meters c.args.telegrams)

pub returns-clause-highest : goal.returns-clause-highest
returns-clause-highest c = ap (λ n. c.args.telegrams - n) c.of_stranger.ensures.count ∙ sym (highest_is c.args.meters c.args.telegrams)
