use Rattle.std.proofs.Common.{map}
use Rattle.std.specs.String.{string_bytes}
use Rattle.std.specs.Process.{exit_status}
use Rattle.outer_io.specs.Shown.{source_change, sink_change}
use Rattle.meter_side_main.specs.Run.{Run}
use Rattle.meter_side.proofs.Exits.{exit_of}
use Rattle.meter_side.proofs.hear.Goals as goal

pub returns-clause-exit : goal.returns-clause-exit
returns-clause-exit g c = λ named.
    let run : Run = record {
      words = map string_bytes c.args.words.now;
      sources_tell = g.S.Source.tells;
      sinks_tell = g.K.Sink.tells;
      beginning = source_change g.S.Source c.args.beginning.now c.meter_run-status.new.beginning;
      tx = source_change g.S.Source c.args.tx.now.reader.source c.meter_run-status.new.tx.reader.source;
      out = sink_change g.K.Sink c.args.out.now c.meter_run-status.new.out;
      status = c.meter_run-status.result;
    } in
    exit_of run (exit_status c.end.result) c.end.ensures c.meter_run-status.ensures.run named
