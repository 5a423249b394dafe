-- Laws of what an operator changes between two sessions.
use Rattle.std.specs.Prelude.{ℕ, ◌≡◌, ◌≤◌, List, ◌++◌, length, Option, Some, None}
use Rattle.meter_address.specs.declared.address.Address.{Address}
use Rattle.meter_address.specs.declared.commission.Mode.TheVariants.{Seven}
use Rattle.meter_address.specs.Commission.{Commissioned}
use Rattle.roster_file.specs.Roster.{Enrolled}
use Rattle.roster_file.specs.Enrolled.{IsEnrolled}
use Rattle.meter_slots.specs.declared.entry.Entry.{Entry}
use Rattle.meter_slots.specs.Journal.{Start, Legal}
use Rattle.meter_slots.specs.Laws.{IsRising, sent_counters}
use Rattle.meter_slots.specs.Resuming.{reserved}
use Rattle.state_file.specs.Whole.{Known}
use Rattle.state_file.specs.Written.{IsState}
use Rattle.state_changes.specs.Merging.{known_among, merged, merged_meter}
use Rattle.state_changes.specs.Raising.{first_spent, raised}

-- a merged state can be written and read, and so can a raised one
abbrev pub MergedAreStates : Type 0
MergedAreStates = (s : Known) (r : Enrolled) → IsState s → IsEnrolled r → IsState (merged s r)

abbrev pub RaisedAreStates : Type 0
RaisedAreStates = (n : ℕ) (s : Known) → IsState s → first_spent n s.starts ≡ None → IsState (raised n s)

-- a last number isn't below another one
abbrev pub IsNotBelow : Option ℕ → Option ℕ → Type 0
IsNotBelow None now = Unit {0}
IsNotBelow (Some n) None = ⊥
IsNotBelow (Some n) (Some k) = n ≤ k

-- what holds of a known meter that is merged with a roster's line: its mode and keys are the line's; its commands with their window, its
-- fragments and its last reading are as they were; and no counter of it is below that of the state or that of the line
pub record IsMerged (m : Start) (c : Commissioned) (now : Start) : Type 0 where
  pub address : now.address ≡ c.address
  pub mode : now.mode ≡ c.mode
  pub key : now.key ≡ c.key
  pub other : now.other ≡ c.other
  pub told : now.told ≡ m.told
  pub commands : now.orders.queue.commands ≡ m.orders.queue.commands
  pub window : now.orders.window ≡ m.orders.window
  pub reading : now.reading ≡ m.reading
  pub down_known : m.orders.down ≤ now.orders.down
  pub down_enrolled : c.down ≤ now.orders.down
  pub ids_known : m.orders.queue.ids ≤ now.orders.queue.ids
  pub ids_enrolled : c.ids ≤ now.orders.queue.ids
  pub last_known : m.mode ≡ Seven → c.mode ≡ Seven → IsNotBelow m.last now.last
  pub last_enrolled : m.mode ≡ Seven → c.mode ≡ Seven → IsNotBelow c.last now.last

abbrev pub KnownStay : Type 0
KnownStay = (starts : List Start) (c : Commissioned) (m : Start) → known_among c.address starts ≡ Some m
    → IsMerged m c (merged_meter starts c)

-- Sessions that were lost, of which nothing is known but that they sent a meter at most n downlinks, and the sessions behind them, which
-- begin from the restored state with its counters raised by n: the counters of all downlinks strictly rise, and none is used twice.
abbrev pub RestoredCountersRise : Type 0
RestoredCountersRise = (n : ℕ) (c : Start) (own : Address) (lost later : List Entry) → Legal c own lost
    → length (sent_counters lost) ≤ n → Legal (reserved n c) own later
    → IsRising (Some c.orders.down) (sent_counters (lost ++ later))
