use Rattle.std.proofs.Common.{refl}
use Rattle.steps_main.proofs.Events.{said_so}
use Rattle.steps_main.proofs.telling.tell_said.Goals as goal

pub returns-in_ok-class-in-Event : goal.returns-in_ok-class-in-Event
returns-in_ok-class-in-Event c =
    let puts = c.in_ok-class-in-Event.ensures in said_so _ _ _ _ _ _ _ _ _ c.in-Event.is puts.told puts.puts

pub returns-in-Unframed : goal.returns-in-Unframed
returns-in-Unframed c =
    said_so _ _ _ _ _ _ _ _ _ c.in-Unframed.is (record { text_is = refl; class_is = refl; same = refl }) c.put_unframed_line.ensures.puts

pub returns-in-Bad : goal.returns-in-Bad
returns-in-Bad c =
    said_so _ _ _ _ _ _ _ _ _ c.in-Bad.is (record { text_is = refl; class_is = refl; same = refl }) c.put_bad_line.ensures.puts
