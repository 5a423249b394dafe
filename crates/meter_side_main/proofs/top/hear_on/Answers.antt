-- The answers are put on a fresh paper, and the paper is finished.
use Rattle.std.proofs.Common.{◌≡◌, sym, ◌∙◌, subst}
use Rattle.outer_io.specs.Shown.{Change, SourceShown, SinkShown, source_change, sink_change}
use Rattle.line_reader.specs.Reader.{given}
use Rattle.paper.specs.Filing.{filed}
use Rattle.paper.proofs.Filings.{Finished, print_finished}
use Rattle.meter_side_main.specs.declared.status.SideStatus.{SideStatus}
use Rattle.meter_side_main.specs.Answers.{side_text}
use Rattle.meter_side_main.specs.Run.{Hears}
use Rattle.meter_side_main.specs.Refused.{IsHeardFor}
use Rattle.meter_side_main.proofs.Runs.{hears_by, heard_for, failed_is}
use Rattle.meter_side_main.proofs.top.hear_on.Goals as goal

done : (g : _) (c : goal.After-status_at g) → (c.finish.new.self.sink.ghost_name ≡ c.args.paper.now.sink.ghost_name)
    × Finished g.K.Sink.tells (filed g.K.Sink.written g.K.Sink.faults c.args.paper.now)
    (side_text c.args.meter.now.commission c.hear_source-ended.ensures.told.answers)
    (filed g.K.Sink.written g.K.Sink.faults c.finish.new.self)
done g c = print_finished g.K.Sink.tells _ (λ p. p.sink.ghost_name) (filed g.K.Sink.written g.K.Sink.faults) (λ p text q took. took)
    c.args.paper.now c.hear_source-ended.new.paper c.finish.new.self _
    c.hear_source-ended.ensures.told.puts c.finish.ensures.same c.finish.ensures.files c.requires.steady c.requires.blank
    c.finish.ensures.empty

failed : (g : _) (c : goal.After-status_at g) → c.finish.new.self.failed ≡ c.is_err-unwritten.result
failed g c = failed_is c.finish.result _ _ c.finish.ensures.ok c.finish.ensures.err c.is_err-unwritten.ensures.value

pub returns-clause-same : goal.returns-clause-same
returns-clause-same g c = (done g c).0

pub returns-clause-heard : goal.returns-clause-heard
returns-clause-heard g c = λ tells.
    let m = c.args.meter.now in
    let heard = c.hear_source-ended.ensures in
    let tx : Change SourceShown = source_change g.S.Source c.args.tx.now.reader.source c.hear_source-ended.new.tx.reader.source in
    let out : Change SinkShown = sink_change g.K.Sink c.args.paper.now.sink.now c.finish.new.self.sink.now in
    subst (λ (s : SideStatus). Hears m.own m.commission tx g.K.Sink.tells out s) (sym c.status_at.ensures)
    (hears_by m.own m.commission tx _ _ _ c.hear_source-ended.result _ _ heard.key (heard.ends tells) (heard.told.answered tells)
    c.requires.empty (done g c).1 c.is_err-unwritten.result (failed g c))

pub returns-clause-cause : goal.returns-clause-cause
returns-clause-cause g c =
    let heard = c.hear_source-ended.ensures in
    let tx : Change SourceShown = source_change g.S.Source c.args.tx.now.reader.source c.hear_source-ended.new.tx.reader.source in
    let out : Change SinkShown = sink_change g.K.Sink c.args.paper.now.sink.now c.finish.new.self.sink.now in
    subst (λ (s : SideStatus). IsHeardFor g.S.Source.tells tx out s) (sym c.status_at.ensures)
    (heard_for _ tx out (given g.S.Source.taken c.hear_source-ended.new.tx.reader) c.requires.untaken heard.no_loss
    c.hear_source-ended.result c.is_err-unwritten.result heard.ends heard.failed (λ yes. (done g c).1.cause (failed g c ∙ yes)))
