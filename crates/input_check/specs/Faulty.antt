-- The faulty ones of a receiver's lines.
use Rattle.std.specs.Prelude.{ℕ, ◌+◌, List, [], ◌∷◌, ◌++◌, Option, Some, None, Result, Ok, Err}
use Rattle.frame_formats.specs.declared.fault.FrameFault.{FrameFault}
use Rattle.frame_formats.specs.Decoding.{decoded}
use Rattle.meter_address.specs.declared.address.Address.{Address}
use Rattle.message_check.specs.Target.{target_of}
use Rattle.line_reader.specs.declared.line.Line.{Line}
use Rattle.line_reader.specs.declared.line.Line.TheVariants.{Frame}
use Rattle.line_reader.specs.declared.line.BadLine.{BadLine}
use Rattle.line_reader.specs.Grammar.{line_of}
use Rattle.input_check.specs.declared.faulty.LineFault.{LineFault}
use Rattle.input_check.specs.declared.faulty.LineFault.TheVariants.{Bad, Unframed}
use Rattle.input_check.specs.declared.faulty.FaultyLine.{FaultyLine}

-- the meter that a frame is for, or why its bytes are none
abbrev pub looked_at_frame : Result (List ℕ) FrameFault → Result (Option Address) LineFault
looked_at_frame (Ok telegram) = Ok (Some (target_of telegram))
looked_at_frame (Err fault) = Err (Unframed fault)

-- the meter that a line's frame is for, if it has a frame, or what is wrong with it: it says nothing, or its frame is none
abbrev pub looked_at : Result Line BadLine → Result (Option Address) LineFault
looked_at (Ok (Frame format at bytes)) = looked_at_frame (decoded format bytes)
looked_at (Ok line) = Ok None
looked_at (Err bad) = Err (Bad bad)

abbrev pub numbered : ℕ → Result (Option Address) LineFault → List FaultyLine
numbered n (Ok address) = []
numbered n (Err fault) = record { line = n; fault = fault } ∷ []

-- the faulty ones of these lines, each once and in order; the first line has the number n
abbrev pub faulty_from : ℕ → List (List ℕ) → List FaultyLine
faulty_from n [] = []
faulty_from n (text ∷ texts) = numbered n (looked_at (line_of text)) ++ faulty_from (n + 1) texts

-- the faulty ones of a receiver's lines
abbrev pub faulty_lines : List (List ℕ) → List FaultyLine
faulty_lines texts = faulty_from 1 texts

abbrev pub heard_of : Result (Option Address) LineFault → List Address
heard_of (Ok (Some address)) = address ∷ []
heard_of _ = []

-- the meters that the frames of these lines are for, one for each frame
abbrev pub heard_in : List (List ℕ) → List Address
heard_in [] = []
heard_in (text ∷ texts) = heard_of (looked_at (line_of text)) ++ heard_in texts
