-- A command that waited before.
use Rattle.std.specs.Prelude.{Bool, true, false, not, ◌&&◌, nat_le, nat_lt, if◌then◌else◌, List, [], ◌∷◌, ◌++◌}
use Rattle.command_queue.specs.declared.command.Command.{Command}
use Rattle.command_queue.specs.Pending.{may_follow}
use Rattle.command_queue.specs.declared.window.Window.{Window}
use Rattle.command_queue.specs.declared.window.Window.TheVariants.{Waiting}
use Rattle.command_queue.specs.Orders.{Orders}

-- whether the window may wait for a command behind these, or not: it waits for the oldest one alone, after one try at least, and where it
-- doesn't the oldest one has a try left
abbrev pub window_fits : List Command → Command → Bool → Bool
window_fits [] c true = nat_le 1 c.tries
window_fits [] c false = nat_lt c.tries 3
window_fits (oldest ∷ others) c waits = not waits

-- whether a command may stand behind those that wait, with the window open for it or not
unfoldable pub may_restore : Orders → Command → Bool → Bool
may_restore k c waits = window_fits k.queue.commands c waits && may_follow k.queue c

-- the window, where it is opened for a command
abbrev pub window_for : Command → Bool → Window → Window
window_for c waits window = if waits then Waiting c.id else window

abbrev pub with_restored : Orders → Command → Bool → Orders
with_restored k c waits = record k { queue = record k.queue { commands = k.queue.commands ++ c ∷ [] }; window = window_for c waits k.window }

-- the commands with it, where it may stand there
unfoldable pub restored : Orders → Command → Bool → Orders
restored k c waits = if may_restore k c waits then with_restored k c waits else k
