-- Every faulty line of a state.
use Rattle.std.specs.Prelude.{ℕ, ◌≡◌, ◌+◌, nat_lt, Bool, false, List, [], ◌∷◌, length, map, codes, Option, Some, None, Result, Ok, Err, if◌then◌else◌}
use Rattle.std.specs.Str.Lines.{lines}
use Rattle.plain_text.specs.Parts.{is_word}
use Rattle.roster_file.specs.declared.roster.LineCause.TheVariants as roster
use Rattle.roster_file.specs.Roster.{entries_from, own_of}
use Rattle.input_check.specs.RosterFaults as rosters
use Rattle.state_file.specs.declared.fault.FileCause.TheVariants as causes
use Rattle.state_file.specs.declared.fault.StateFault.{StateFault}
use Rattle.state_file.specs.declared.fault.StateFault.TheVariants.{Roster, Line}
use Rattle.state_file.specs.Whole.{Progress, at_line, by_fault, by_roster, left_by, no_meters, read_more, state_of}

-- what a step refuses, if it does
abbrev pub refused : {A : Type 0} → Result A StateFault → Option StateFault
refused (Ok x) = None
refused (Err fault) = Some fault

-- a fault before others, if there is one
abbrev pub before : Option StateFault → List StateFault → List StateFault
before None others = others
before (Some fault) others = fault ∷ others

-- the meters that a line leaves go on to the others; behind a faulty line others go on
abbrev pub going_on : Result Progress StateFault → Progress → (Progress → List StateFault) → List StateFault
going_on (Ok more) left others = others more
going_on (Err fault) left others = fault ∷ others left

-- each line behind the end is faulty
abbrev pub behind_end : ℕ × List ℕ → StateFault
behind_end e = Line e.0 causes.Behind

-- the faulty ones of the lines behind the own line, after the meters so far; `end` is the number after that of the last line
unfoldable pub faults_in : Progress → List (ℕ × List ℕ) → ℕ → List StateFault
faults_in p [] end = Line end (causes.Roster roster.Missing) ∷ []
faults_in p (e ∷ entries) end =
    if is_word e.1 (codes "end") then map behind_end entries
    else going_on (at_line e.0 (read_more p e.1)) (left_by p e.1) (λ next. faults_in next entries end)

-- the faulty ones of the own line and those behind it
unfoldable pub faults_owned : List (ℕ × List ℕ) → ℕ → List StateFault
faults_owned [] end = Line end (causes.Roster roster.Missing) ∷ []
faults_owned (e ∷ entries) end = before (refused (at_line e.0 (by_roster (own_of e.1)))) (faults_in no_meters entries end)

-- the faulty ones of the lines behind the head; what hasn't the head of a state has those of a roster
unfoldable pub faults_headed : List (ℕ × List ℕ) → ℕ → List StateFault → List StateFault
faults_headed [] end otherwise = otherwise
faults_headed (e ∷ entries) end otherwise = if is_word e.1 (codes "wmbus-state 1") then faults_owned entries end else otherwise

-- every faulty line of a state, in order, each with what is wrong with it
unfoldable pub state_faults_of : List ℕ → List StateFault
state_faults_of bytes =
    if nat_lt 134217728 (length bytes) then Roster 0 roster.TooLong ∷ []
    else faults_headed (entries_from 1 (lines bytes)) (length (lines bytes) + 1) (map by_fault (rosters.faults_of bytes))

-- ---- which texts are states

abbrev pub has_head : List (ℕ × List ℕ) → Bool
has_head [] = false
has_head (e ∷ entries) = is_word e.1 (codes "wmbus-state 1")

-- the first line that counts is the head of a state; any other text is a roster, or none of both
unfoldable pub is_state : List ℕ → Bool
is_state bytes = has_head (entries_from 1 (lines bytes))

-- the most bytes of a text: of a state, or of a roster
abbrev pub most_bytes : List ℕ → ℕ
most_bytes bytes = if is_state bytes then 134217728 else 1048576

-- ---- laws

abbrev pub first_of : List StateFault → Option StateFault
first_of [] = None
first_of (fault ∷ faults) = Some fault

-- the first one is the one that reading the state is refused for, so that there is none exactly where it is read
abbrev pub FirstFaultRefuses : Type 0
FirstFaultRefuses = (bytes : List ℕ) → first_of (state_faults_of bytes) ≡ refused (state_of bytes)

-- a text without the head of a state has the faults that it has as a roster
abbrev pub OthersAreRosters : Type 0
OthersAreRosters = (bytes : List ℕ) → is_state bytes ≡ false → state_faults_of bytes ≡ map by_fault (rosters.faults_of bytes)
