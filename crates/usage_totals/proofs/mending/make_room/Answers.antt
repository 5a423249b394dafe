use Rattle.std.proofs.Common.{◌∙◌}
use Rattle.usage_totals.proofs.KeyByKey.{room_starts, room_step}
use Rattle.usage_totals.proofs.mending.make_room.Goals as goal

pub loop-key-init : goal.loop-key-init
loop-key-init c = (
  tt,
  tt,
  room_starts c.args.row.now c.args.sums.now.entries _
      (c.into_iter-key-iterator.ensures.into_iter_gives ∙ c.keys-key-items.ensures.rest),
)

pub loop-key-preserved : goal.loop-key-preserved
loop-key-preserved c = (
  tt,
  tt,
  room_step c.in-Some.key.now c.room_at.new.sums.entries c.loop-key.invariant.2 c.in-Some.ensures.steps c.room_at.ensures.same
      c.room_at.ensures.stays c.in_ok-room_at.ensures.here,
)
