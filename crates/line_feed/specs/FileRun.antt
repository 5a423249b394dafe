-- A feed into a file that is appended to.
use Rattle.std.specs.Prelude.{Bool, IsTrue}
use Rattle.outer_io.specs.Shown.{Change, SourceShown, SinkShown}
use Rattle.line_feed.specs.Files.{IsWholePart}
use Rattle.line_feed.specs.declared.printings.Printing.{Printing}
use Rattle.line_feed.specs.declared.status.FeedStatus.{FeedStatus}
use Rattle.line_feed.specs.Run.{IsRun}

-- What the file held are whole lines once a line without its newline is cut off from its end, and behind them stands what a feed prints.
pub record IsFileRun (printing : Printing) (status : FeedStatus) (input_tells : Bool) (input : Change SourceShown) (file_tells : Bool)
    (file : Change SinkShown) (notes_tell : Bool) (notes : Change SinkShown) : Type 0 where
  pub begun : SinkShown
  pub whole : IsTrue file_tells → IsWholePart file.before.written begun.written
  pub run : IsRun (record {
    printing = printing;
    input_tells = input_tells;
    out_tells = file_tells;
    notes_tell = notes_tell;
    input = input;
    out = record { before = begun; now = file.now };
    notes = notes;
    status = status;
  })
