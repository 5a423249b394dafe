-- What is heard is judged after the last counter, by the meter that the value shows.
use Rattle.meter_side_main.proofs.Hearing.{executed_exactly_so}
use Rattle.meter_side_main.proofs.Refusing.{refused_exactly}
use Rattle.meter_side_main.proofs.listener.Listener.hear.Goals as goal

pub returns-clause-refused : goal.returns-clause-refused
returns-clause-refused c = λ bytes reason.
    let b = c.self.inside in
    rw (← c.self.view_is, c.judge-did.ensures)
    (refused_exactly b.own b.commission b.last c.args.delivery.now reason c.self.invariant bytes)

pub returns-clause-executed : goal.returns-clause-executed
returns-clause-executed c = λ bytes e.
    let b = c.self.inside in
    rw (← c.self.view_is, c.judge-did.ensures) (executed_exactly_so b.own b.commission b.last c.args.delivery.now e c.self.invariant bytes)
