-- What a line says is what it tells.
use Rattle.std.proofs.Common.{◌≡◌, Result, Ok, Err, refl}
use Rattle.frame_formats.specs.declared.fault.FrameFault.{FrameFault}
use Rattle.line_reader.specs.declared.line.BadLine.{BadLine}
use Rattle.line_reader.specs.declared.line.Line.{Line}
use Rattle.line_reader.specs.Grammar.{line_of}
use Rattle.meter_address.specs.declared.address.Address.{Address}
use Rattle.meter_slots.specs.declared.entry.Event.{Event}
use Rattle.meter_slots.specs.Telling.{event_of_line}
use Rattle.receivers.specs.Told.{told_by_event, told_by_reading, told_of}
use Rattle.step_text.specs.Said.{said_by_event, said_by_reading, said_of}
use Rattle.steps_main.specs.Told.{told_in, SaidIsTold}

by_event : (event : Result (Address × Event) FrameFault) → told_in (said_by_event event) ≡ told_by_event event
by_event (Ok (address, event)) = refl
by_event (Err fault) = refl

by_reading : (line : Result Line BadLine) → told_in (said_by_reading line) ≡ told_by_reading line
by_reading (Ok line) = by_event (event_of_line line)
by_reading (Err bad) = refl

pub said_is_told : SaidIsTold
unfolding said_of told_of
said_is_told text = by_reading (line_of text)
