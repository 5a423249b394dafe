-- A new command finds a place, and leaves a sound queue.
use Rattle.std.proofs.Common.{◌+◌, ◌<◌, length, ap, arith, refl, rules}
use Rattle.std.proofs.lemmas.List.{length-set, take_more_set}
use Rattle.command_queue.specs.declared.command.Command.{Command}
use Rattle.command_queue.specs.Pending.{Pending}
use Rattle.command_queue.proofs.Moves.{waiting, free_place, sound_put}
use Rattle.command_queue.proofs.queue.Queue.put.Goals as goal

pub invariant_of-self : goal.invariant_of-self
invariant_of-self c =
    let inside = c.self.inside in
    let q = waiting inside.ids inside.count inside.commands in
    let new : Command = record { id = inside.ids + 1; tries = 0; payload = c.args.payload } in
    let count = ap (λ (p : Pending). length p.commands) c.self.view_is in
    let room : length q.commands < 8 =
    omega (arith, c.self.invariant.1.few, count, c.pending.ensures.count, c.if-pending-eq-QUEUE_MAX.false) in
    let free = free_place inside.commands inside.count (search rules) c.self.invariant.0 room in (
      omega (arith, free, length-set inside.commands inside.count new),
      sound_put q _ new c.self.invariant.1 room refl refl (take_more_set inside.commands inside.count new (search rules)) refl,
    )
