-- A line of a receiver, by its format.
use Rattle.std.specs.Prelude.{ℕ, nat_lt, List, length, Result, Err, if◌then◌else◌}
use Rattle.line_feed.specs.declared.heard.Reception.{Reception}
use Rattle.line_feed.specs.declared.printings.Printing.{Printing}
use Rattle.line_feed.specs.declared.printings.Printing.TheVariants as printings
use Rattle.line_feed.specs.declared.reasons.NotTaken.{NotTaken}
use Rattle.line_feed.specs.declared.reasons.NotTaken.TheVariants as reasons
use Rattle.line_feed.specs.Cul.{cul_heard}
use Rattle.line_feed.specs.RtlWmbus.{rtl_wmbus_heard}
use Rattle.line_feed.specs.Rtl433.{rtl_433_heard}
use Rattle.line_feed.specs.Hex.{hex_heard}

abbrev pub heard_in : Printing → List ℕ → Result Reception NotTaken
heard_in printings.Cul line = cul_heard line
heard_in printings.RtlWmbus line = rtl_wmbus_heard line
heard_in printings.Rtl433 line = rtl_433_heard line
heard_in printings.Hex line = hex_heard line

-- what a line gives, or why it isn't taken
abbrev pub heard_of : Printing → List ℕ → Result Reception NotTaken
heard_of printing line = if nat_lt 4096 (length line) then Err reasons.TooLong else heard_in printing line
