-- What is noted of lines that can't be listed, in words.
use Rattle.std.specs.Prelude.{ℕ, ◌==◌, Bool, List, [], ◌++◌, codes, if◌then◌else◌}
use Rattle.std.specs.Fmt.{decimal}
use Rattle.record_text.specs.Lines.{fault_text}
use Rattle.reading_list.specs.declared.said.LineFault.{LineFault}
use Rattle.reading_list.specs.declared.said.LineFault.TheVariants as faults
use Rattle.reading_list.specs.declared.notes.LineNote.{LineNote}
use Rattle.reading_list.specs.declared.notes.LineNote.TheVariants as notes

-- why a line can't be read
abbrev pub fault_words : LineFault → List ℕ
fault_words faults.TooLong = codes "it has more than 8,192 bytes, which no line of a report has"
fault_words faults.Word = codes "it begins with none of the words of a report's lines: give the report that `wmbus` prints, as it is"
fault_words faults.Version = codes "the report isn't of version 1"
fault_words faults.Address = codes "the meter's address isn't sixteen hexadecimal digits: the steps below it have no meter"
fault_words faults.Fields = codes "a step hasn't all its fields: the line is cut off"
fault_words faults.Number = codes "a number of the step isn't a plain decimal one of its range"
fault_words faults.Payload =
    codes "the payload isn't an even number of hexadecimal digits, at most 7,744: the line is cut off or was changed"

-- what is wrong with a line
unfoldable pub note_words : LineNote → List ℕ
note_words (notes.Unread fault) = fault_words fault
note_words notes.NoMeter = codes "no line `meter` that can be read stands above this step, so it isn't known whose it is"
note_words (notes.Records fault) = codes "the records in front are listed, and the payload goes on with what is none: " ++ fault_text fault

-- the note of the line with this number
unfoldable pub note_text : ℕ → LineNote → List ℕ
note_text number note = codes "reading_list: line " ++ decimal number ++ codes ": " ++ note_words note ++ codes "\n"

-- ---- at the end

-- that the report is cut off
abbrev pub cut_words : Bool → List ℕ
cut_words whole = if whole then [] else codes "reading_list: the report doesn't end with its line `end`: it is cut off\n"

unfoldable pub count_line : ℕ → List ℕ
count_line count = codes "reading_list: lines that couldn't be listed whole: " ++ decimal count ++ codes "\n"

-- how many lines were noted
abbrev pub count_words : ℕ → List ℕ
count_words count = if count == 0 then [] else count_line count

-- what is noted behind all lines
unfoldable pub ending_text : Bool → ℕ → List ℕ
ending_text whole count = cut_words whole ++ count_words count
