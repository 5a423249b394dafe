use Rattle.line_feed.proofs.Limits.{streams_are_lines}
use Rattle.line_feed.proofs.stream_laws.streams_are_lines.Goals as goal

pub returns : goal.returns
returns c = streams_are_lines
