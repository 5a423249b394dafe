-- Every faulty line of a roster.
use Rattle.std.specs.Prelude.{ℕ, ◌≡◌, ◌+◌, nat_lt, List, [], ◌∷◌, length, Option, Some, None, Result, Ok, Err, if◌then◌else◌}
use Rattle.std.specs.Option.{ok_or, unwrap_or}
use Rattle.std.specs.Str.Lines.{lines}
use Rattle.meter_address.specs.Commission.{Commissioned}
use Rattle.roster_file.specs.declared.fields.Version.{Version}
use Rattle.roster_file.specs.declared.fields.Version.TheVariants.{Two}
use Rattle.roster_file.specs.declared.roster.LineCause.TheVariants as causes
use Rattle.roster_file.specs.declared.roster.RosterFault.{RosterFault}
use Rattle.roster_file.specs.declared.roster.RosterFault.TheVariants.{Line}
use Rattle.roster_file.specs.Roster.{at_line, enlisted_from, own_of, head_of, entries_from, roster_of}

-- what a step refuses, if it does
abbrev pub refused : {A : Type 0} → Result A RosterFault → Option RosterFault
refused (Ok x) = None
refused (Err fault) = Some fault

-- a fault before others, if there is one
abbrev pub before : Option RosterFault → List RosterFault → List RosterFault
before None others = others
before (Some fault) others = fault ∷ others

-- the meters that a line leaves go on to the others, and a faulty line leaves those before it
abbrev pub going_on : Result (List Commissioned) RosterFault → List Commissioned → (List Commissioned → List RosterFault) → List RosterFault
going_on (Ok more) meters others = others more
going_on (Err fault) meters others = fault ∷ others meters

-- the faulty ones of the meters' lines, after the meters that stand already
unfoldable pub faults_in : Version → List Commissioned → List (ℕ × List ℕ) → List RosterFault
faults_in version meters [] = []
faults_in version meters (e ∷ entries) = going_on (enlisted_from version meters e) meters (λ next. faults_in version next entries)

-- the faulty ones of the own line and those behind it, where `end` is the number after that of the last line
unfoldable pub faults_owned : Version → List (ℕ × List ℕ) → ℕ → List RosterFault
faults_owned version [] end = Line end causes.Missing ∷ []
faults_owned version (e ∷ entries) end = before (refused (at_line e.0 (own_of e.1))) (faults_in version [] entries)

-- the faulty ones of the head and those behind it, which are read in version 2 where the head says none
unfoldable pub faults_headed : List (ℕ × List ℕ) → ℕ → List RosterFault
faults_headed [] end = Line end causes.Missing ∷ []
faults_headed (e ∷ entries) end =
    before (refused (at_line e.0 (ok_or (head_of e.1) causes.Head))) (faults_owned (unwrap_or (head_of e.1) Two) entries end)

-- every faulty line of a roster, in order, each with what is wrong with it
unfoldable pub faults_of : List ℕ → List RosterFault
faults_of bytes =
    if nat_lt 1048576 (length bytes) then Line 0 causes.TooLong ∷ []
    else faults_headed (entries_from 1 (lines bytes)) (length (lines bytes) + 1)

abbrev pub first_of : List RosterFault → Option RosterFault
first_of [] = None
first_of (fault ∷ faults) = Some fault

-- the first one is the one that reading the roster is refused for, so that there is none exactly where it is read
abbrev pub FirstFaultRefuses : Type 0
FirstFaultRefuses = (bytes : List ℕ) → first_of (faults_of bytes) ≡ refused (roster_of bytes)
