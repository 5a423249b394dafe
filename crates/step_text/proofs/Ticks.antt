-- A tick changes nothing where none is due.
use Rattle.std.proofs.Common.{◌≡◌, ℕ, List, [], ◌∷◌, length, None, refl, sym, ap, ap₂, ◌∙◌, arith}
use Rattle.command_queue.specs.Pending.{Pending}
use Rattle.command_queue.specs.declared.window.Window.{Window}
use Rattle.command_queue.specs.declared.window.Window.TheVariants.{Idle, Waiting}
use Rattle.command_queue.specs.Orders.{Orders, orders_of, awaited_id, expired, after_tick}
use Rattle.afl_fragments.specs.declared.places.HeldPart.{HeldPart}
use Rattle.afl_fragments.specs.Held.{Told, Tick, held}
use Rattle.afl_fragments.specs.Places.{aged}
use Rattle.afl_fragments.specs.Short.{told_of, cut_down}
use Rattle.afl_fragments.proofs.Holding.{held-tick}
use Rattle.meter_slots.specs.Journal.{Start, told, last_counter, readings}
use Rattle.meter_slots.specs.Resuming.{resumed}
use Rattle.step_text.specs.Ticks.{NoTickIsDue}

nothing : (hs : List HeldPart) → length hs ≡ 0 → hs ≡ []
nothing [] h = refl
nothing (h ∷ hs) few = absurd (omega (arith, few))

same_held : (told : List Told) → held told ≡ [] → cut_down (Tick ∷ told) ≡ cut_down told
same_held told none = ap told_of (held-tick told ∙ ap aged none ∙ sym none)

same_orders : (queue : Pending) (window : Window) (down : ℕ) → awaited_id window ≡ None
    → after_tick (orders_of queue window down) ≡ orders_of queue window down
unfolding after_tick expired
same_orders queue Idle down h = refl
same_orders queue (Waiting id) down h = absurd cc

abbrev with_both : Start → List Told → Orders → Start
with_both c told orders = record (resumed c []) { told = told; orders = orders }

pub no_tick_is_due : NoTickIsDue
unfolding told last_counter readings
no_tick_is_due c source line outcome none idle =
    ap₂ (with_both c) (same_held c.told (nothing (held c.told) none)) (same_orders c.orders.queue c.orders.window c.orders.down idle)
