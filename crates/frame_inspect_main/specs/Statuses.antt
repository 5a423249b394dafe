-- The statuses of a run.
use Rattle.std.specs.Prelude.{ℕ, Bool, true, false, List}
use Rattle.line_reader.specs.Reader.{IsAtEnd, IsPastLimit, IsBrokenOff}
use Rattle.frame_inspect_main.specs.declared.status.InspectStatus.{InspectStatus}
use Rattle.frame_inspect_main.specs.declared.status.InspectStatus.TheVariants as statuses

-- the program's exit status
abbrev pub code_of : InspectStatus → ℕ
code_of statuses.Done = 0
code_of statuses.Words = 2
code_of statuses.Read = 5
code_of statuses.Write = 7
code_of statuses.Cut = 8
code_of statuses.Memory = 10

-- whether the lines taken are shown, so after statuses 0, 5, 7 and 8
abbrev pub shows_lines : InspectStatus → Bool
shows_lines statuses.Words = false
shows_lines statuses.Memory = false
shows_lines _ = true

-- the lines of a file ended as a status says: at the end of its bytes, at a read that failed, or at a limit
abbrev pub EndsBy : InspectStatus → (taken left : List ℕ) → List (List ℕ) → Type 0
EndsBy statuses.Done taken left lines = IsAtEnd taken left lines
EndsBy statuses.Write taken left lines = IsAtEnd taken left lines
EndsBy statuses.Read taken left lines = IsBrokenOff taken lines
EndsBy statuses.Cut taken left lines = IsPastLimit taken left lines
EndsBy _ taken left lines = Unit {0}

-- ---- words of private contracts

-- a status by which lines end
abbrev pub IsEnd : InspectStatus → Type 0
IsEnd statuses.Done = Unit {0}
IsEnd statuses.Read = Unit {0}
IsEnd statuses.Cut = Unit {0}
IsEnd _ = ⊥

-- the status where a write failed: an end of the lines other than the file's own comes first
abbrev pub unwritten : InspectStatus → InspectStatus
unwritten statuses.Done = statuses.Write
unwritten status = status
