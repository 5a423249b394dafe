-- What `take_at` leaves in front of the unused place.
use Rattle.std.proofs.Common.{◌-◌, length, arith}
use Rattle.std.proofs.lemmas.Slice.{put_mid-rotated}
use Rattle.command_queue.proofs.Moves.{others_left}
use Rattle.command_queue.proofs.queue.take_at.Goals as goal

pub returns-clause-others : goal.returns-clause-others
returns-clause-others c =
    let xs = c.args.commands.now in
    others_left xs _ c.args.place _ c.replace.new.dest c.requires
    (put_mid-rotated c.args.place (length xs - c.args.place) xs c.rotate_left.new.self c.replace.new.dest c.requires (omega arith)
    c.rotate_left.ensures.after)
