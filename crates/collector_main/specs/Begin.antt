-- What a session begins from.
use Rattle.std.specs.Prelude.{ℕ, ◌≡◌, Bool, List, Result, Err, IsTrue}
use Rattle.outer_io.specs.Shown.{Change, SourceShown, ReadFailed}
use Rattle.roster_file.specs.Roster.{roster_of}
use Rattle.state_file.specs.Whole.{Known, of_roster, state_of}
use Rattle.state_file.specs.declared.fault.StateFault.{StateFault}
use Rattle.state_file.specs.declared.fault.StateFault.TheVariants as faults
use Rattle.collector_main.specs.declared.form.Form.{Form}
use Rattle.collector_main.specs.declared.form.Form.TheVariants as forms
use Rattle.collector_main.specs.declared.status.Status.{Status}
use Rattle.collector_main.specs.declared.status.Status.TheVariants as statuses

-- what a text of a form tells of the meters, or its first fault: each meter of a roster is just commissioned
abbrev pub known_of : Form → List ℕ → Result Known StateFault
known_of forms.Roster bytes = of_roster (roster_of bytes)
known_of forms.State bytes = state_of bytes

-- the status of a text that tells nothing
abbrev pub status_of : StateFault → Status
status_of (faults.Roster line cause) = statuses.Roster line cause
status_of (faults.Line line cause) = statuses.State line cause
status_of faults.Memory = statuses.Memory

-- ---- words of private contracts

-- why a source tells nothing: a fault of reading, the first fault of all its bytes, or want of memory
abbrev pub IsRefusal : Form → Bool → Change SourceShown → Status → Type 0
IsRefusal form tells source statuses.ReadRoster = ReadFailed source
IsRefusal form tells source (statuses.Roster line cause) = IsTrue tells → known_of form source.before.left ≡ Err (faults.Roster line cause)
IsRefusal form tells source (statuses.State line cause) = IsTrue tells → known_of form source.before.left ≡ Err (faults.Line line cause)
IsRefusal form tells source statuses.Memory = Unit {0}
IsRefusal form tells source _ = ⊥
