-- What was heard, or why nothing was.
use Rattle.std.proofs.Common.{◌≡◌, false, sym, ◌∙◌, refl, map}
use Rattle.std.specs.String.{string_bytes}
use Rattle.outer_io.specs.Shown.{source_change, sink_change}
use Rattle.meter_side_main.specs.Statuses.{was_heard}
use Rattle.meter_side_main.specs.Run.{Run}
use Rattle.meter_side_main.proofs.Runs.{run_is, headline_is, refusal_cause}
use Rattle.meter_side_main.proofs.top.meter_run.Goals as goal
use Rattle.meter_side_main.proofs.top.meter_run.Goals.{After-hear}

heard : (g : _) (c : After-hear g) → was_heard c.hear.result ≡ false → ⊥
heard g c unheard = let heard = c.hear.ensures.cause.heard in absurd cc

pub returns-in-Ok-clause-run : goal.returns-in-Ok-clause-run
returns-in-Ok-clause-run g c =
    let run : Run = record {
      words = map string_bytes c.args.words.now;
      sources_tell = g.S.Source.tells;
      sinks_tell = g.K.Sink.tells;
      beginning = source_change g.S.Source c.args.beginning.now c.find_meter.new.beginning;
      tx = source_change g.S.Source c.args.tx.now.reader.source c.hear.new.tx.reader.source;
      out = sink_change g.K.Sink c.args.out.now c.hear.new.out;
      status = c.hear.result;
    } in
    run_is run (λ h tells. headline_is run c.in-Ok.meter (c.in-Ok.ensures.found tells) (c.hear.ensures.heard tells))
    (c.hear.ensures.cause.cause run.words run.sinks_tell run.beginning)
    (λ none. absurd (let refused = (c.find_meter.ensures.words none).0 in let found = c.in-Ok.is in cc))
    (λ tells. (c.requires.untaken tells).1) c.find_meter.ensures.no_loss c.hear.ensures.no_loss
    (λ unheard. absurd (heard g c unheard)) (λ unheard. absurd (heard g c unheard))

pub returns-in-Ok-clause-tx : goal.returns-in-Ok-clause-tx
returns-in-Ok-clause-tx g c = λ unheard. absurd (heard g c unheard)

pub returns-in-Ok-clause-out : goal.returns-in-Ok-clause-out
returns-in-Ok-clause-out g c = λ unheard. absurd (heard g c unheard)

pub returns-in-Err-clause-run : goal.returns-in-Err-clause-run
returns-in-Err-clause-run g c =
    let run : Run = record {
      words = map string_bytes c.args.words.now;
      sources_tell = g.S.Source.tells;
      sinks_tell = g.K.Sink.tells;
      beginning = source_change g.S.Source c.args.beginning.now c.find_meter.new.beginning;
      tx = source_change g.S.Source c.args.tx.now.reader.source c.args.tx.now.reader.source;
      out = sink_change g.K.Sink c.args.out.now c.args.out.now;
      status = c.in-Err.status;
    } in
    let cause = refusal_cause run c.in-Err.status c.in-Err.ensures.refused in
    run_is run (λ h tells. absurd (let unheard = sym cause.0 ∙ h in cc)) cause.1
    (λ none. let refused = (c.find_meter.ensures.words none).0 in let given = c.in-Err.is in cc) (λ tells. (c.requires.untaken tells).1)
    c.find_meter.ensures.no_loss (λ tells. refl)
    (λ unheard. refl) (λ unheard. refl)
