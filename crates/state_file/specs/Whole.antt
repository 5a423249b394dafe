-- The grammar of a whole state, with its first fault.
use Rattle.std.specs.Prelude.{ℕ, ◌+◌, ◌==◌, nat_le, nat_lt, Bool, false, List, [], ◌∷◌, ◌++◌, length, map, codes, Option, Some, None, Result, Ok, Err, if◌then◌else◌}
use Rattle.std.specs.List.{list_any}
use Rattle.std.specs.Str.Lines.{lines}
use Rattle.lists.specs.Steps.{◌>>=◌}
use Rattle.plain_text.specs.Parts.{fields_of, is_word}
use Rattle.meter_address.specs.declared.address.Address.{Address}
use Rattle.meter_address.specs.Commission.{Commissioned}
use Rattle.roster_file.specs.declared.fields.Version.TheVariants.{Two}
use Rattle.roster_file.specs.declared.roster.LineCause.{LineCause}
use Rattle.roster_file.specs.declared.roster.LineCause.TheVariants as roster
use Rattle.roster_file.specs.declared.roster.RosterFault.{RosterFault}
use Rattle.roster_file.specs.declared.roster.RosterFault.TheVariants as faulty
use Rattle.roster_file.specs.Roster.{Enrolled, entries_from, meter_of, own_of, roster_of}
use Rattle.meter_slots.specs.Journal.{Start, fresh_start}
use Rattle.state_file.specs.declared.cause.StateCause.{StateCause}
use Rattle.state_file.specs.declared.fault.FileCause.{FileCause}
use Rattle.state_file.specs.declared.fault.FileCause.TheVariants as causes
use Rattle.state_file.specs.declared.fault.StateFault.{StateFault}
use Rattle.state_file.specs.declared.fault.StateFault.TheVariants.{Roster, Line, Memory}
use Rattle.state_file.specs.State.{with_line}

-- the collector's own address, and what is known of each meter
pub record Known : Type 0 where
  pub own : Address
  pub starts : List Start

-- ---- causes and numbers of lines

abbrev pub at_line : {A : Type 0} → ℕ → Result A FileCause → Result A StateFault
at_line n (Ok x) = Ok x
at_line n (Err cause) = Err (Line n cause)

abbrev pub by_roster : {A : Type 0} → Result A LineCause → Result A FileCause
by_roster (Ok x) = Ok x
by_roster (Err cause) = Err (causes.Roster cause)

abbrev pub by_meter : {A : Type 0} → Result A StateCause → Result A FileCause
by_meter (Ok x) = Ok x
by_meter (Err cause) = Err (causes.Meter cause)

-- ---- the meters

-- the meters whose lines were all read, and the one whose lines are being read
pub record Progress : Type 0 where
  pub before : List Start
  pub last : Option Start

abbrev pub one_of : Option Start → List Start
one_of None = []
one_of (Some c) = c ∷ []

-- all meters so far
abbrev pub all_of : Progress → List Start
all_of p = p.before ++ one_of p.last

-- behind these meters one more begins: its address is new, and there is room
abbrev pub enlisted : List Start → Commissioned → Result Progress LineCause
enlisted starts c =
    if list_any (λ m. m.address.0 == c.address.0) starts then Err roster.Same
    else if nat_le 4096 (length starts) then Err roster.TooMany
    else Ok (record { before = starts; last = Some (fresh_start c) })

-- whether the first field is `meter`
abbrev pub opens_meter : List (List ℕ) → Bool
opens_meter [] = false
opens_meter (kind ∷ fields) = is_word kind (codes "meter")

-- no more lines of the last meter follow
abbrev pub closed : Progress → Progress
closed p = record { before = all_of p; last = None }

-- what a faulty line leaves: it adds nothing, and where it is to begin a meter the lines below it are of none
abbrev pub left_by : Progress → List ℕ → Progress
left_by p line = if opens_meter (fields_of line) then closed p else p

-- a line below a meter's line says more of this meter
abbrev pub with_last : List Start → Option Start → List ℕ → Result Progress FileCause
with_last before None line = Err causes.Place
with_last before (Some c) line = by_meter (with_line c line) >>= λ d. Ok (record { before = before; last = Some d })

-- the meters with what one more line says
unfoldable pub read_more : Progress → List ℕ → Result Progress FileCause
read_more p line =
    if opens_meter (fields_of line) then by_roster (meter_of Two line >>= enlisted (all_of p)) else with_last p.before p.last line

-- nothing stands behind the end
abbrev pub ended : List Start → List (ℕ × List ℕ) → Result (List Start) StateFault
ended starts [] = Ok starts
ended starts (e ∷ entries) = Err (Line e.0 causes.Behind)

-- the meters of lines up to the end, behind those so far; `end` is the number after that of the last line
unfoldable pub starts_of : Progress → List (ℕ × List ℕ) → ℕ → Result (List Start) StateFault
starts_of p [] end = Err (Line end (causes.Roster roster.Missing))
starts_of p (e ∷ entries) end =
    if is_word e.1 (codes "end") then ended (all_of p) entries else at_line e.0 (read_more p e.1) >>= λ q. starts_of q entries end

-- ---- the whole

abbrev pub no_meters : Progress
no_meters = record { before = []; last = None }

abbrev pub with_own : Address → Result (List Start) StateFault → Result Known StateFault
with_own own (Ok starts) = Ok (record { own = own; starts = starts })
with_own own (Err fault) = Err fault

-- the own line and the meters
unfoldable pub owned : List (ℕ × List ℕ) → ℕ → Result Known StateFault
owned [] end = Err (Line end (causes.Roster roster.Missing))
owned (e ∷ entries) end = at_line e.0 (by_roster (own_of e.1)) >>= λ own. with_own own (starts_of no_meters entries end)

abbrev pub by_fault : RosterFault → StateFault
by_fault (faulty.Line line cause) = Roster line cause
by_fault faulty.Memory = Memory

-- a roster is a state: its meters are just commissioned
abbrev pub fresh_known : Enrolled → Known
fresh_known r = record { own = r.own; starts = map fresh_start r.meters }

abbrev pub of_roster : Result Enrolled RosterFault → Result Known StateFault
of_roster (Ok r) = Ok (fresh_known r)
of_roster (Err fault) = Err (by_fault fault)

-- the head, and what follows it; what hasn't the head of a state is read as a roster
unfoldable pub headed : List (ℕ × List ℕ) → ℕ → Result Known StateFault → Result Known StateFault
headed [] end otherwise = otherwise
headed (e ∷ entries) end otherwise = if is_word e.1 (codes "wmbus-state 1") then owned entries end else otherwise

-- the state of a text, or its first fault
unfoldable pub state_of : List ℕ → Result Known StateFault
state_of bytes =
    if nat_lt 134217728 (length bytes) then Err (Roster 0 roster.TooLong)
    else headed (entries_from 1 (lines bytes)) (length (lines bytes) + 1) (of_roster (roster_of bytes))
