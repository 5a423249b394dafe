-- The text of a whole state, and what holds of each state that is written.
use Rattle.std.specs.Prelude.{ℕ, ◌≡◌, ◌<◌, ◌≤◌, ◌^◌, List, ◌++◌, length, map, codes, Ok}
use Rattle.std.specs.List.{flat_map}
use Rattle.lists.specs.Each.{Each}
use Rattle.meter_address.specs.Address.{AreApart}
use Rattle.meter_address.specs.Commission.{IsCommission}
use Rattle.roster_file.specs.Roster.{Enrolled, roster_of}
use Rattle.roster_file.specs.Text.{own_text, meter_text}
use Rattle.meter_slots.specs.Journal.{Start, commission_of}
use Rattle.state_file.specs.Text.{start_lines, IsTold}
use Rattle.state_file.specs.Whole.{Known, fresh_known, state_of}

-- a line and its newline
abbrev pub ended_text : List ℕ → List ℕ
ended_text line = line ++ codes "\n"

-- a meter's line, and those below it
unfoldable pub block_text : Start → List ℕ
block_text c = meter_text (commission_of c) ++ flat_map ended_text (start_lines c)

-- the head, the own line, the lines of each meter, and the end
unfoldable pub state_text : Known → List ℕ
state_text s = codes "wmbus-state 1\n" ++ own_text s.own ++ flat_map block_text s.starts ++ codes "end\n"

-- what holds of each meter of a state
pub record IsStart (c : Start) : Type 0 where
  pub commission : IsCommission (commission_of c)
  pub told : IsTold c
  pub few : length c.told ≤ 17

-- at most 4,096 meters, whose addresses differ, each of them as it can be told
pub record IsState (s : Known) : Type 0 where
  pub own : s.own.0 < 2 ^ 64
  pub few : length s.starts ≤ 4096
  pub apart : AreApart (map (λ c. c.address) s.starts)
  pub each : Each IsStart s.starts

-- a roster is a state
abbrev pub RostersAreStates : Type 0
RostersAreStates = (bytes : List ℕ) (r : Enrolled) → roster_of bytes ≡ Ok r → state_of bytes ≡ Ok (fresh_known r)

-- a state of which this holds is read back from its text
abbrev pub WrittenAreRead : Type 0
WrittenAreRead = (s : Known) → IsState s → state_of (state_text s) ≡ Ok s

-- a text gives no other states
abbrev pub ReadAreStates : Type 0
ReadAreStates = (bytes : List ℕ) (s : Known) → state_of bytes ≡ Ok s → IsState s

-- each state that can be read is read again from its text
abbrev pub ReadAreReadAgain : Type 0
ReadAreReadAgain = (bytes : List ℕ) (s : Known) → state_of bytes ≡ Ok s → state_of (state_text s) ≡ Ok s
