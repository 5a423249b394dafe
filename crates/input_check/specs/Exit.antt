-- How the program ends.
use Rattle.std.specs.Prelude.{ℕ, Bool, true, false, List, [], ◌∷◌, Result, Ok, Err}
use Rattle.std.specs.List.{Contains}
use Rattle.input_check.specs.declared.states.Stop.{Stop}
use Rattle.input_check.specs.declared.states.Stop.TheVariants as stops
use Rattle.input_check.specs.declared.status.CheckStatus.{CheckStatus}
use Rattle.input_check.specs.declared.status.CheckStatus.TheVariants as statuses

-- the exit status
abbrev pub code_of : CheckStatus → ℕ
code_of statuses.Done = 0
code_of statuses.Found = 1
code_of statuses.Words = 2
code_of (statuses.Stopped stops.Read) = 5
code_of (statuses.Stopped stops.Write) = 7
code_of (statuses.Stopped stops.Cut) = 8
code_of (statuses.Stopped stops.Memory) = 10

-- how a check ends that found something faulty, or nothing, or that stopped
abbrev pub status_of : Result Bool Stop → CheckStatus
status_of (Ok false) = statuses.Done
status_of (Ok true) = statuses.Found
status_of (Err stop) = statuses.Stopped stop

-- there is a word, which names the state
abbrev pub names_state : {A : Type 0} → List A → Bool
names_state [] = false
names_state (state ∷ receivers) = true

-- how a check ends: nothing is faulty, something is, a file that can't be read, an output that can't be written, a file past its limit, no
-- memory, a file that can't be opened
abbrev pub run_exits : List ℕ
run_exits = 0 ∷ 1 ∷ 5 ∷ 7 ∷ 8 ∷ 10 ∷ 11 ∷ []

abbrev pub IsRunExit : ℕ → Type 0
IsRunExit status = Contains run_exits status

-- how one ends that can't begin: no memory, a file that can't be opened
abbrev pub IsUnopened : ℕ → Type 0
IsUnopened status = Contains (10 ∷ 11 ∷ []) status
