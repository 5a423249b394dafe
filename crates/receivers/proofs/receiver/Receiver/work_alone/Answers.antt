-- Closes what a run in a world comes to, by what its lines did.
use Rattle.receivers.specs.Run.{hearing}
use Rattle.receivers.proofs.Lone.{has_heard_alone, leaves_alone}
use Rattle.receivers.proofs.receiver.Receiver.work_alone.Goals as goal

pub returns-clause-heard : goal.returns-clause-heard
returns-clause-heard g c = has_heard_alone (λ a. a.world) c.args.alone.now.source
    (hearing g.S.Source c.args.self.now.source c.hear_all.new.self.source c.hear_all.new.self.counts c.hear_all.result)
    (c.args.alone.now, c.args.self.now.tx) (c.hear_all.new.slots, c.hear_all.new.self.tx) c.hear_all.ensures.heard

pub returns-clause-never : goal.returns-clause-never
returns-clause-never g c = (leaves_alone (λ a. a.world) c.args.alone.now.source c.hear_all.result c.hear_all.ensures.heard.heard
    (c.args.alone.now, c.args.self.now.tx) (c.hear_all.new.slots, c.hear_all.new.self.tx) c.hear_all.ensures.heard.hears).never

pub returns-clause-tx : goal.returns-clause-tx
returns-clause-tx g c = (leaves_alone (λ a. a.world) c.args.alone.now.source c.hear_all.result c.hear_all.ensures.heard.heard
    (c.args.alone.now, c.args.self.now.tx) (c.hear_all.new.slots, c.hear_all.new.self.tx) c.hear_all.ensures.heard.hears).tx_is
