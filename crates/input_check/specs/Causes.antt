-- What is wrong, in words, and what to do.
use Rattle.std.specs.Prelude.{ℕ, List, codes, ◌++◌}
use Rattle.roster_file.specs.declared.roster.LineCause.{LineCause}
use Rattle.roster_file.specs.declared.roster.LineCause.TheVariants as causes
use Rattle.state_file.specs.declared.cause.StateCause.{StateCause}
use Rattle.state_file.specs.declared.cause.StateCause.TheVariants as meters
use Rattle.state_file.specs.declared.fault.FileCause.{FileCause}
use Rattle.state_file.specs.declared.fault.FileCause.TheVariants as files
use Rattle.frame_formats.specs.declared.fault.FrameFault.{FrameFault}
use Rattle.frame_formats.specs.declared.fault.FrameFault.TheVariants as frames
use Rattle.line_reader.specs.declared.line.BadLine.{BadLine}
use Rattle.line_reader.specs.declared.line.BadLine.TheVariants as bads
use Rattle.input_check.specs.declared.faulty.LineFault.{LineFault}
use Rattle.input_check.specs.declared.faulty.LineFault.TheVariants.{Bad, Unframed}
use Rattle.input_check.specs.Texts.{between, between_two}

-- what is wrong with a line of a roster
abbrev pub roster_words : LineCause → List ℕ
roster_words causes.TooLong = codes "the roster has more than 1,048,576 bytes: split it"
roster_words causes.Head = codes "the first line is neither `wmbus-roster 2` nor `wmbus-roster 1`: write the former in its place, or in a state `wmbus-state 1`"
roster_words causes.Own = codes "this isn't `own` and an address: write the line `own ADDRESS` behind the first one"
roster_words causes.Kind = codes "the line doesn't begin with `meter`: a comment begins with #"
roster_words causes.Fields =
    codes "the line hasn't the fields of the head's version, eight in version 2, with just one space between two of them"
roster_words causes.Address = codes "the address isn't sixteen hexadecimal digits: meter_name makes it of what the label says"
roster_words causes.Mode = codes "the security mode is neither 5 nor 7"
roster_words causes.Key = codes "the key isn't 32 hexadecimal digits"
roster_words causes.Other = codes "the second key is neither - nor 32 hexadecimal digits, or the mode is 5, which has none"
roster_words causes.Last = codes "the last counter is neither - nor a plain number, below 256 in mode 5 and below 4294967296 in mode 7"
roster_words causes.Down = codes "the last downlink counter isn't a plain number below 4294967296"
roster_words causes.Ids = codes "the last command id isn't a plain number below 4294967296"
roster_words causes.Same = codes "an earlier line has this address: keep one of the two"
roster_words causes.TooMany = codes "there are 4,096 meters before it: split the roster"
roster_words causes.Missing = codes "the head or the line `own ADDRESS` is missing"

-- what is wrong with a line below a meter's line of a state
abbrev pub meter_words : StateCause → List ℕ
meter_words meters.Kind = codes "the line begins with none of `meter`, `reading`, `part`, `tick`, `waits` and `command`, and isn't `end` alone: a comment begins with #"
meter_words meters.Fields = codes "the line hasn't the fields that its first one asks for, with just one space between two of them"
meter_words meters.Twice = codes "the meter has a reading above it: keep the later one"
meter_words meters.At = codes "the moment isn't a plain number below 18446744073709551616"
meter_words meters.Counter = codes "the counter isn't a plain number below 4294967296"
meter_words meters.Payload = codes "the payload isn't hexadecimal digits of at most 4,096 bytes in a reading, or of 1 to 94 bytes in a command"
meter_words meters.Part = codes "the bytes are no fragment of a message: take the line away, since the meter sends its message again"
meter_words meters.Id = codes "the id isn't a plain number below 4294967296"
meter_words meters.Tries = codes "how often the command was sent isn't 0, 1, 2 or 3"
meter_words meters.Command = codes "the command can't stand here: eight wait at most, their ids rise up to that of the meter's line, and the oldest alone was sent"

-- what is wrong with a line of a state
abbrev pub state_words : FileCause → List ℕ
state_words (files.Roster causes.Fields) = codes "the line hasn't eight fields with just one space between two of them"
state_words (files.Roster causes.Same) = codes "an earlier meter has this address: keep one of the two, with the lines below it"
state_words (files.Roster causes.TooMany) = codes "there are 4,096 meters before it: split the state"
state_words (files.Roster causes.Missing) = codes "the line `own ADDRESS` or the line `end` is missing: the state was cut short, so take the last one that is whole"
state_words (files.Roster cause) = roster_words cause
state_words (files.Meter cause) = meter_words cause
state_words files.Place = codes "no `meter` line that is right stands above it: mend that one, or put this one below its meter's"
state_words files.Behind = codes "it stands behind the `end`: put it in front of it, or take it away"

-- why a receiver's line says nothing
abbrev pub bad_words : BadLine → List ℕ
bad_words bads.TooLong = codes "the line has more than 1,024 bytes"
bad_words bads.Word =
    codes "the line begins with none of A, B, T, Q, X and K and a space: a tab is no space, "
    ++ codes "a byte order mark in front of the first line is none either, "
    ++ codes "and a receiver's own output has to be turned into such lines first"
bad_words bads.Fields = codes "the line hasn't as many fields as its first one asks for, with just one space between two of them"
bad_words bads.Number = codes "the moment or the id is no plain decimal number of its range"
bad_words bads.Address = codes "the address isn't sixteen hexadecimal digits: meter_name makes it of what the label says"
bad_words bads.Hex = codes "the bytes aren't an even number of hexadecimal digits: the line is cut short, or has other letters in it"
bad_words (bads.Payload n) = between (codes "the command has a payload of ") n (codes " bytes, where it has 1 to 94")
bad_words bads.Key = codes "the key isn't 32 hexadecimal digits"

-- why bytes are no frame
abbrev pub frame_words : FrameFault → List ℕ
frame_words frames.Empty = codes "the frame has no bytes"
frame_words (frames.Short l) =
    between (codes "the first byte of the frame, L, is ") l
    (codes ", below the least of its format: the bytes are no frame, or their beginning is missing")
frame_words (frames.Gap l) =
    between (codes "the first byte of the frame, L, is ") l
    (codes ", which format B leaves out: the bytes are no frame, or one of format A")
frame_words (frames.Length want have) =
    between_two (codes "the frame has to have ") want (codes " bytes by its L, and has ") have
    (codes ": it is cut short, of the other format, or without its CRCs")
frame_words (frames.Crc block) =
    between (codes "the CRC of block ") block (codes " differs: the frame was heard wrongly, or has no CRCs any more")

-- what is wrong with a receiver's line
abbrev pub line_words : LineFault → List ℕ
line_words (Bad bad) = bad_words bad
line_words (Unframed fault) = frame_words fault
