-- The window agrees with the queue after a command that waited before.
use Rattle.std.proofs.Common.{◌≡◌, true, false, List, [], ◌∷◌, ◌++◌, refl, ap, sym, ◌∙◌, subst}
use Rattle.std.specs.Prelude.{if◌then◌else◌}
use Rattle.std.proofs.lemmas.Bool.{leb-true, ltb-true}
use Rattle.command_queue.specs.declared.command.Command.{Command}
use Rattle.command_queue.specs.Pending.{Pending, IsSound, OnlyOldestTried, may_follow, with_follower}
use Rattle.command_queue.proofs.Moves.{sound_follower}
use Rattle.command_queue.specs.declared.window.Window.{Window}
use Rattle.command_queue.specs.declared.window.Window.TheVariants.{Idle, Waiting}
use Rattle.command_queue.specs.Orders.{AgreesWith, Agrees}
use Rattle.meter_slots.specs.Restoring.{window_fits}

waits_agrees : (cs : List Command) (c : Command) → window_fits cs c true ≡ true → OnlyOldestTried (cs ++ c ∷ [])
    → AgreesWith (Waiting c.id) (cs ++ c ∷ [])
waits_agrees [] c fits tries = (refl, leb-true 1 c.tries fits, tries.0)
waits_agrees (d ∷ cs) c fits tries = absurd cc

idle_agrees : (w : Window) (cs : List Command) (c : Command) → AgreesWith w cs → window_fits cs c false ≡ true → AgreesWith w (cs ++ c ∷ [])
idle_agrees Idle [] c h fits = ltb-true c.tries 3 fits
idle_agrees (Waiting id) [] c h fits = absurd h
idle_agrees Idle (d ∷ cs) c h fits = h
idle_agrees (Waiting id) (d ∷ cs) c h fits = h

followed : (q new : Pending) (c : Command) → new ≡ with_follower q c → may_follow q c ≡ true → new ≡ record q { commands = q.commands ++ c ∷ [] }
unfolding with_follower
followed q new c after may = after ∙ ap (λ b. if b then record q { commands = q.commands ++ c ∷ [] } else q) may

module _ (q new : Pending) (c : Command) (sound : IsSound q) (after : new ≡ with_follower q c) (may : may_follow q c ≡ true) where
  pub agrees_waiting : window_fits q.commands c true ≡ true → Agrees (Waiting c.id) new
  agrees_waiting fits =
      subst (Agrees (Waiting c.id)) (sym (followed q new c after may))
      (waits_agrees q.commands c fits (sound_follower q c sound may).tries)

  pub agrees_still : (w : Window) → Agrees w q → window_fits q.commands c false ≡ true → Agrees w new
  agrees_still w agrees fits =
      subst (Agrees w) (sym (followed q new c after may)) (idle_agrees w q.commands c agrees fits)
