-- What callers see of a source and of a sink over std.
use Rattle.std.specs.Prelude.{ℕ}
use Rattle.outer_io.specs.declared.standard.Input.{Input}
use Rattle.outer_io.specs.declared.standard.Input.TheVariants as input
use Rattle.outer_io.specs.declared.standard.Output.{Output}
use Rattle.outer_io.specs.declared.standard.Output.TheVariants as output

-- what a source or a sink stands over
pub data Stream : Type 0 where
  OverFile : Stream
  OverStandard : Stream
  OverNothing : Stream

-- a source or a sink over std: its stream, and the faults so far
pub record StreamState : Type 0 where
  pub stream : Stream
  pub faults : ℕ

-- the stream of a source
abbrev pub input_stream : Input → Stream
input_stream (input.File _) = OverFile
input_stream (input.Standard _) = OverStandard
input_stream input.Nothing = OverNothing

-- the stream of a sink
abbrev pub output_stream : Output → Stream
output_stream (output.File _) = OverFile
output_stream (output.Standard _) = OverStandard
output_stream output.Nothing = OverNothing
