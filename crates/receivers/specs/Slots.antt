-- What lines do one after another, whatever slots they are for.
use Rattle.std.specs.Prelude.{ℕ, ◌≡◌, ◌+◌, List, [], ◌∷◌, ◌++◌, length, Result, Ok, Err}
use Rattle.std.specs.List.{enumerate_from}
use Rattle.outer_io.specs.declared.failures.Failed.{Failed}
use Rattle.meter_address.specs.declared.address.Address.{Address}
use Rattle.meter_slots.specs.declared.counts.Ended.{Ended}
use Rattle.meter_slots.specs.declared.counts.Ended.TheVariants as ends
use Rattle.meter_slots.specs.declared.entry.Event.{Event}
use Rattle.receivers.specs.declared.told.Told.{Told}
use Rattle.receivers.specs.declared.told.Told.TheVariants as told
use Rattle.receivers.specs.Run.{Hearing, HasHeard}

-- what a step does, by its line's number, its address, its event, and what became of its downlink
module _ {X : Type 0} (makes : ℕ → Address → Event → Result Unit Failed → X → X → Type 0) where
  -- what a line does: its step, where it is for an address, and else nothing
  abbrev pub Hears : ℕ → Told → Result Unit Failed → X → X → Type 0
  Hears line (told.Event address event) sent x y = makes line address event sent x y
  Hears line told.Unframed sent x y = (sent ≡ Ok tt) × (y ≡ x)
  Hears line told.Bad sent x y = (sent ≡ Ok tt) × (y ≡ x)

  -- what numbered lines do one after another, each of whose downlinks was written
  abbrev pub HearsAll : List (ℕ × Told) → X → X → Type 0
  HearsAll [] x z = z ≡ x
  HearsAll (l ∷ lines) x z = (y : X) × Hears l.0 l.1 (Ok tt) x y × HearsAll lines y z

  -- what all lines that were heard do, where the downlink of the last one couldn't be written
  pub record HearsUnsent (heard : List Told) (x z : X) : Type 0 where
    pub sent : List Told
    pub last : Told
    pub heard_is : heard ≡ sent ++ last ∷ []
    pub between : X
    pub all_sent : HearsAll (enumerate_from 1 sent) x between
    pub fault : Failed
    pub unsent : Hears (1 + length sent) last (Err fault) between z

  module _ (waits : X → X → Type 0) where
    -- what all lines that were heard do, up to an end; at the end for want of memory a further one was not made
    abbrev pub HearsTo : Ended → List Told → X → X → Type 0
    HearsTo ends.TxFault heard x z = HearsUnsent heard x z
    HearsTo ends.Memory heard x z = (y : X) × HearsAll (enumerate_from 1 heard) x y × waits y z
    HearsTo _ heard x z = HearsAll (enumerate_from 1 heard) x z

    -- what a receiver heard for the meters of a directory, and that just these lines did what they do
    pub record HasHeardFor (directory : List Address) (h : Hearing) (x z : X) : Type 0 where
      pub heard : List Told
      pub has_heard : HasHeard directory h heard
      pub hears : HearsTo h.ended heard x z
