-- The feed begins behind the whole lines of the file.
use Rattle.outer_io.specs.Shown.{sink_shown}
use Rattle.line_feed.proofs.running.feed_file.Goals as goal

pub returns-in-Ok-clause-run : goal.returns-in-Ok-clause-run
returns-in-Ok-clause-run g c = record {
  begun = sink_shown g.F.Sink c.cut_half_line.new.file;
  whole = c.in-Ok.ensures.whole;
  run = c.feed_lines.ensures;
}
