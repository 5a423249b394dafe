-- When no tick is due.
use Rattle.std.specs.Prelude.{ℕ, ◌≡◌, [], ◌∷◌, None}
use Rattle.meter_slots.specs.declared.entry.Entry.{Entry}
use Rattle.meter_slots.specs.declared.entry.Event.TheVariants.{Tick}
use Rattle.meter_slots.specs.declared.entry.Outcome.{Outcome}
use Rattle.meter_slots.specs.Journal.{Start}
use Rattle.meter_slots.specs.Resuming.{resumed}
use Rattle.step_text.specs.Lines.{holds, waits}

-- a tick, in this line of this receiver
abbrev pub tick_at : (source line : ℕ) → Outcome → Entry
tick_at source line outcome = record { source = source; line = line; event = Tick; outcome = outcome }

-- where no fragment is held and the window waits for no command, what is known of a meter is the same behind a tick as without it
abbrev pub NoTickIsDue : Type 0
NoTickIsDue = (known : Start) (source line : ℕ) (outcome : Outcome) → holds known ≡ 0 → waits known ≡ None
    → resumed known (tick_at source line outcome ∷ []) ≡ resumed known []
