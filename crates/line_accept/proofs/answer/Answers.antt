use Rattle.std.specs.Process.{exit_status}
use Rattle.outer_io.specs.Shown.{source_change, sink_change}
use Rattle.line_accept.specs.Run.{Run}
use Rattle.line_accept.proofs.Exits.{exit_of}
use Rattle.line_accept.proofs.answer.Goals as goal

pub returns-clause-exit : goal.returns-clause-exit
returns-clause-exit g c =
    let run : Run = record {
      sources_tell = g.S.Source.tells;
      sinks_tell = g.K.Sink.tells;
      senders = source_change g.S.Source c.args.senders.now c.accept_run-status.new.senders;
      deliveries = source_change g.S.Source c.args.deliveries.now.reader.source c.accept_run-status.new.deliveries.reader.source;
      out = sink_change g.K.Sink c.args.out.now c.accept_run-status.new.out;
      status = c.accept_run-status.result;
    } in
    exit_of run (exit_status c.end.result) c.end.ensures c.accept_run-status.ensures
