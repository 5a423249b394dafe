-- What a line of a receiver says, with its cause where it says nothing.
use Rattle.std.specs.Prelude.{ℕ, List, Result, Ok, Err}
use Rattle.frame_formats.specs.declared.fault.FrameFault.{FrameFault}
use Rattle.line_reader.specs.declared.line.BadLine.{BadLine}
use Rattle.line_reader.specs.declared.line.Line.{Line}
use Rattle.line_reader.specs.Grammar.{line_of}
use Rattle.meter_address.specs.declared.address.Address.{Address}
use Rattle.meter_slots.specs.declared.entry.Event.{Event}
use Rattle.meter_slots.specs.Telling.{event_of_line}
use Rattle.step_text.specs.declared.said.Said.{Said}
use Rattle.step_text.specs.declared.said.Said.TheVariants as said

-- an event for a meter, or why its bytes are no frame
abbrev pub said_by_event : Result (Address × Event) FrameFault → Said
said_by_event (Ok (address, event)) = said.Event address event
said_by_event (Err fault) = said.Unframed fault

abbrev pub said_by_line : Line → Said
said_by_line line = said_by_event (event_of_line line)

abbrev pub said_by_reading : Result Line BadLine → Said
said_by_reading (Ok line) = said_by_line line
said_by_reading (Err bad) = said.Bad bad

-- what a line's text says
unfoldable pub said_of : List ℕ → Said
said_of text = said_by_reading (line_of text)
