-- What holds of streams.
use Rattle.std.specs.Prelude.{ℕ, ◌≡◌, false, List}
use Rattle.line_reader.specs.Lines.{is_over}
use Rattle.line_teller.specs.declared.ending.LinesEnd.{LinesEnd}
use Rattle.line_teller.specs.Ending.{EndsLines}
use Rattle.line_feed.specs.Streams.{EndsStream}

-- within the limits of a receiver's file a stream's lines are those of such a file
abbrev pub StreamsAreLines : Type 0
StreamsAreLines = (end : LinesEnd) (taken left : List ℕ) (told : List (List ℕ)) → is_over taken ≡ false → EndsStream end taken left told
    → EndsLines end taken left told
