-- What is printed for faulty lines.
use Rattle.std.specs.Prelude.{ℕ, nat_lt, List, [], ◌∷◌, ◌++◌, length, take, codes, if◌then◌else◌}
use Rattle.std.specs.List.{flat_map}
use Rattle.paper.specs.Pieces.{labelled}
use Rattle.state_file.specs.declared.fault.StateFault.{StateFault}
use Rattle.state_file.specs.declared.fault.StateFault.TheVariants.{Roster, Line, Memory}
use Rattle.input_check.specs.StateFaults.{is_state, state_faults_of}
use Rattle.input_check.specs.declared.faulty.FaultyLine.{FaultyLine}
use Rattle.input_check.specs.Bytes.{unmarked, mark_words, bytes_words}
use Rattle.input_check.specs.Causes.{roster_words, state_words, line_words}
use Rattle.input_check.specs.Texts.{between_two}

-- a faulty line of a file, with its number and what is wrong with it
unfoldable pub faulty_line : List ℕ → ℕ → List ℕ → List ℕ
faulty_line file n words = labelled file n ++ codes ": " ++ words ++ codes "\n"

-- a faulty line of a state or of a roster; want of memory is none
abbrev pub fault_line : StateFault → List ℕ
fault_line (Roster n cause) = faulty_line (codes "roster line ") n (roster_words cause)
fault_line (Line n cause) = faulty_line (codes "state line ") n (state_words cause)
fault_line Memory = []

-- all of them
abbrev pub fault_lines : List StateFault → List ℕ
fault_lines faults = flat_map fault_line faults

-- behind faulty lines, what may be behind them
abbrev pub bytes_words_if : List StateFault → List ℕ → List ℕ → List ℕ
bytes_words_if [] word bytes = []
bytes_words_if (fault ∷ faults) word bytes = bytes_words word bytes

-- these faulty lines, a mark in front, and what may be behind faulty lines, of a file with these bytes; the word says what the file is
unfoldable pub findings_text : List StateFault → List ℕ → List ℕ → List ℕ
findings_text faults word bytes = fault_lines faults ++ mark_words word bytes ++ bytes_words_if faults word bytes

-- what a text is: with the head of a state it is to be one, and any other is to be a roster
abbrev pub file_word : List ℕ → List ℕ
file_word bytes = if is_state bytes then codes "state" else codes "roster"

-- all that is said of a text that is to be a state or a roster: what it is, and which of its lines are faulty, is that of the text behind
-- a mark
abbrev pub state_text : List ℕ → List ℕ
state_text bytes = findings_text (state_faults_of (unmarked bytes)) (file_word (unmarked bytes)) bytes

-- a faulty line of this receiver
unfoldable pub receiver_line : ℕ → FaultyLine → List ℕ
receiver_line receiver f =
    labelled (codes "receiver ") receiver ++ labelled (codes " line ") f.line ++ codes ": " ++ line_words f.fault ++ codes "\n"

-- where there are more than 100, how many there are
abbrev pub count_line : ℕ → ℕ → List ℕ
count_line receiver count =
    if nat_lt 100 count
    then between_two (codes "receiver ") receiver (codes ": ") count (codes " lines are faulty, of which the first 100 are shown\n")
    else []

-- the first 100 of these faulty lines of a receiver, of which there are so many
unfoldable pub shown_lines : ℕ → List FaultyLine → ℕ → List ℕ
shown_lines receiver first count = flat_map (receiver_line receiver) first ++ count_line receiver count

-- all faulty lines of a receiver, cut to the first 100
abbrev pub receiver_lines : ℕ → List FaultyLine → List ℕ
receiver_lines receiver faults = shown_lines receiver (take 100 faults) (length faults)
