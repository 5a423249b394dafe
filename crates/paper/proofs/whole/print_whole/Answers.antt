use Rattle.std.proofs.Common.{◌≡◌}
use Rattle.std.proofs.lemmas.Result.{on_ok_weaker, on_err_weaker}
use Rattle.paper.specs.Filing.{filed}
use Rattle.paper.proofs.Filings.{Finished, print_finished}
use Rattle.paper.proofs.whole.print_whole.Goals as goal

done : (g : _) (c : goal.After-finish g) → (c.finish.new.self.sink.ghost_name ≡ c.args.paper.now.sink.ghost_name)
    × Finished g.K.Sink.tells (filed g.K.Sink.written g.K.Sink.faults c.args.paper.now) (g.T.Printed.text c.args.thing.now)
    (filed g.K.Sink.written g.K.Sink.faults c.finish.new.self)
done g c =
    print_finished g.K.Sink.tells _ (λ p. p.sink.ghost_name) (filed g.K.Sink.written g.K.Sink.faults) (λ p text q took. took)
    c.args.paper.now c.print.new.paper c.finish.new.self _
    c.print.ensures c.finish.ensures.same c.finish.ensures.files c.requires.fresh c.requires.empty c.finish.ensures.empty

pub returns-clause-same : goal.returns-clause-same
returns-clause-same g c = (done g c).0

pub returns-clause-ok : goal.returns-clause-ok
returns-clause-ok g c = on_ok_weaker _ (done g c).1.ok c.finish.ensures.ok

pub returns-clause-err : goal.returns-clause-err
returns-clause-err g c = on_err_weaker _ (done g c).1.err c.finish.ensures.err

pub returns-clause-later : goal.returns-clause-later
returns-clause-later g c = (done g c).1.later

pub returns-clause-cause : goal.returns-clause-cause
returns-clause-cause g c = on_err_weaker _ (done g c).1.cause c.finish.ensures.err
