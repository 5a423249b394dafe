-- One receiver that is heard alone: its steps are made in a world.
use Rattle.std.specs.Prelude.{ℕ, ◌≡◌, List, [], ◌∷◌, map, Option, Some, None, Result, Ok}
use Rattle.std.specs.List.{filter_map, enumerate_from}
use Rattle.outer_io.specs.declared.failures.Failed.{Failed}
use Rattle.meter_address.specs.declared.address.Address.{Address}
use Rattle.meter_slots.specs.declared.entry.Event.{Event}
use Rattle.meter_slots.specs.declared.step.Step.{Step}
use Rattle.meter_slots.specs.World.{WorldView, after_step, address_of_slot}
use Rattle.receivers.specs.declared.told.Told.{Told}
use Rattle.receivers.specs.declared.told.Told.TheVariants as told
use Rattle.receivers.specs.Run.{Hearing, HasHeard}

-- ---- steps

abbrev pub step_by : ℕ → ℕ → Told → Option Step
step_by source line (told.Event address event) = Some (record { source = source; line = line; address = address; event = event })
step_by source line told.Unframed = None
step_by source line told.Bad = None

-- the steps among numbered lines of a receiver
unfoldable pub steps_among : ℕ → List (ℕ × Told) → List Step
steps_among source lines = filter_map (λ l. step_by source l.0 l.1) lines

-- the steps of all its lines, which are numbered from 1
abbrev pub steps_of : ℕ → List Told → List Step
steps_of source heard = steps_among source (enumerate_from 1 heard)

-- a world after some steps, one after the other
abbrev pub after_steps : WorldView → List Step → WorldView
after_steps world [] = world
after_steps world (s ∷ steps) = after_steps (after_step world s) steps

-- the addresses of a world's meters
abbrev pub addresses_in : WorldView → List Address
addresses_in world = map address_of_slot world.slots

-- ---- a run

-- what a receiver heard alone, and the world after the steps of just these lines
pub record HasHeardAlone (source : ℕ) (h : Hearing) (world world' : WorldView) : Type 0 where
  pub heard : List Told
  pub has_heard : HasHeard (addresses_in world) h heard
  pub world_is : world' ≡ after_steps world (steps_of source heard)

-- ---- words of private contracts

-- what one step does: the world makes it, and nothing is written
pub record MakesAlone {K : Type 0} (source line : ℕ) (address : Address) (event : Event) (sent : Result Unit Failed)
    (world world' : WorldView) (tx tx' : K) : Type 0 where
  pub none_sent : sent ≡ Ok tt
  pub world_is : world' ≡ after_step world (record { source = source; line = line; address = address; event = event })
  pub tx_is : tx' ≡ tx
