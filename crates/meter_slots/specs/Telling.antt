-- What a line tells of a meter.
use Rattle.std.specs.Prelude.{ℕ, List, Result, Ok, Err}
use Rattle.meter_address.specs.declared.address.Address.{Address}
use Rattle.frame_formats.specs.Decoding.{decoded}
use Rattle.frame_formats.specs.declared.fault.FrameFault.{FrameFault}
use Rattle.line_reader.specs.declared.line.Line.{Line}
use Rattle.line_reader.specs.declared.line.Line.TheVariants as line
use Rattle.message_check.specs.Target.{target_of}
use Rattle.meter_slots.specs.declared.entry.Event.{Event}
use Rattle.meter_slots.specs.declared.entry.Event.TheVariants.{Hear, Tick, Put, Cancel, Rekey}
use Rattle.frame_formats.specs.declared.format.Format.{Format}

-- a telegram that was heard is for its target; bytes that are no frame are for no meter
abbrev pub heard_in : Format → ℕ → Result (List ℕ) FrameFault → Result (Address × Event) FrameFault
heard_in format at (Ok t) = Ok (target_of t, Hear format at t)
heard_in format at (Err fault) = Err fault

-- the meter that a line is for, and what comes to it, or why the line's bytes are no frame
abbrev pub event_of_line : Line → Result (Address × Event) FrameFault
event_of_line (line.Frame format at bytes) = heard_in format at (decoded format bytes)
event_of_line (line.Tick address) = Ok (address, Tick)
event_of_line (line.Put address payload) = Ok (address, Put payload)
event_of_line (line.Cancel address id) = Ok (address, Cancel id)
event_of_line (line.Key address key) = Ok (address, Rekey key)
