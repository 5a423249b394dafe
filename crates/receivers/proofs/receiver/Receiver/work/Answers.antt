-- Closes what a receiver did on cells, by what its lines did.
use Rattle.std.proofs.Common.{◌≡◌, List, rules, subst}
use Rattle.meter_address.specs.declared.address.Address.{Address}
use Rattle.meter_slots.specs.declared.entry.Event.{Event}
use Rattle.meter_slots.specs.declared.entry.Outcome.{Outcome}
use Rattle.outer_io.specs.Shown.{source_change, sink_shown}
use Rattle.book_cells.specs.Acts.{Shown}
use Rattle.receivers.specs.Passes.{Crew, crew}
use Rattle.receivers.specs.Run.{ReceiverRun}
use Rattle.receivers.specs.Works.{HasWorked}
use Rattle.receivers.proofs.Working.{has_worked}
use Rattle.receivers.proofs.receiver.Receiver.work.Goals as goal

-- what is lent comes back as it was left
lent : {O P : Type 0} (directory : List Address) (run : ReceiverRun) (before : Crew O P) (passes passes' : List (Shown O Event Outcome))
    (stranger_pass stranger_pass' : Shown P Address Unit) → passes ≡ passes' → stranger_pass ≡ stranger_pass'
    → HasWorked directory run before (crew passes stranger_pass) → HasWorked directory run before (crew passes' stranger_pass')
lent directory run before passes passes' stranger_pass stranger_pass' same same' h =
    subst (λ (x : List (Shown _ Event Outcome) × Shown _ Address Unit). HasWorked directory run before (crew x.0 x.1))
    (λ i. (same i, same' i)) h

pub returns-clause-worked : goal.returns-clause-worked
returns-clause-worked g c =
    lent _ _ _ _ _ _ _ (search rules) (search rules)
    (has_worked c.args.directory.now g.K.Sink.tells (λ s. crew s.passes.now s.stranger_pass.now) (sink_shown g.K.Sink) g.S.Source.tells
    (source_change g.S.Source c.args.self.now.source c.hear_all.new.self.source) c.hear_all.new.self.counts c.hear_all.new.self.ended
    c.hear_all.result _ _ c.hear_all.ensures.ended c.hear_all.ensures.heard)
