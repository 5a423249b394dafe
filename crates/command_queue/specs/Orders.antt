-- The commands of a meter, and how they move.
use Rattle.std.specs.Prelude.{ℕ, ◌≡◌, ◌+◌, ◌-◌, ◌^◌, ◌<◌, ◌≤◌, Bool, true, false, ◌&&◌, ◌==◌, nat_lt, nat_le, if◌then◌else◌, List, [], ◌∷◌}
use Rattle.std.specs.Prelude.{slice_get, find, Option, Some, None}
use Rattle.command_queue.specs.declared.command.Command.{Command}
use Rattle.command_queue.specs.Pending.{Pending, has_id, is_pending, with_command, without_command, with_try}
use Rattle.ell_layer.specs.declared.access.Access.{Access}
use Rattle.ell_layer.specs.declared.access.Access.TheVariants as access
use Rattle.command_queue.specs.declared.window.Window.{Window}
use Rattle.command_queue.specs.declared.window.Window.TheVariants.{Idle, Waiting}

-- the commands that wait, the command for which the window is open, and the last counter of a downlink
pub record Orders : Type 0 where
  pub queue : Pending
  pub window : Window
  pub down : ℕ

-- these three together
abbrev pub orders_of : Pending → Window → ℕ → Orders
orders_of queue window down = record { queue = queue; window = window; down = down }

-- while the window waits, the oldest command is the one that it waits for, and was sent one to three times; while it is idle,
-- the oldest command, if there is one, was sent fewer than three times
abbrev pub AgreesWith : Window → List Command → Type 0
AgreesWith Idle [] = Unit {0}
AgreesWith Idle (oldest ∷ others) = oldest.tries < 3
AgreesWith (Waiting id) [] = ⊥
AgreesWith (Waiting id) (oldest ∷ others) = (oldest.id ≡ id) × (1 ≤ oldest.tries) × (oldest.tries ≤ 3)

-- the same of the whole queue
abbrev pub Agrees : Window → Pending → Type 0
Agrees window queue = AgreesWith window queue.commands

-- ---- a new command, and a cancelled one

-- a new command changes the queue alone
abbrev pub after_put : Orders → List ℕ → Orders
after_put k payload = record k { queue = with_command k.queue payload }

-- the window after the command with this id was cancelled
abbrev pub window_without : ℕ → Window → Window
window_without id Idle = Idle
window_without id (Waiting other) = if other == id then Idle else Waiting other

-- where no command has the id, nothing changes
unfoldable pub after_cancel : Orders → ℕ → Orders
after_cancel k id =
    if is_pending id k.queue then record k { queue = without_command id k.queue; window = window_without id k.window } else k

-- ---- a tick

-- the command for which the window waits
abbrev pub awaited_in : Window → List Command → Option Command
awaited_in Idle commands = None
awaited_in (Waiting id) commands = find (has_id id) commands

-- the id of a command that was sent three times
abbrev pub spent_id : Option Command → Option ℕ
spent_id None = None
spent_id (Some c) = if nat_le 3 c.tries then Some c.id else None

-- the command that expires at a tick: the one for which the window waits, where it was sent three times
unfoldable pub expired : Orders → Option ℕ
expired k = spent_id (awaited_in k.window k.queue.commands)

-- the queue without a command that is named
abbrev pub queue_less : Option ℕ → Pending → Pending
queue_less None queue = queue
queue_less (Some id) queue = without_command id queue

-- a tick closes the window and removes what expires
unfoldable pub after_tick : Orders → Orders
after_tick k = record k { queue = queue_less (expired k) k.queue; window = Idle }

-- ---- a stored message

-- the id for which the window waits
abbrev pub awaited_id : Window → Option ℕ
awaited_id Idle = None
awaited_id (Waiting id) = Some id

-- the command that a stored message confirms: a response confirms the one for which the window waits
unfoldable pub confirmed : Orders → Bool → Option ℕ
confirmed k response = if response then awaited_id k.window else None

-- the orders after this command was confirmed
abbrev pub confirmed_orders : Orders → Option ℕ → Orders
confirmed_orders k None = k
confirmed_orders k (Some id) = record k { queue = without_command id k.queue; window = Idle }

-- a confirmed command is removed, and the window is closed
unfoldable pub after_confirmed : Orders → Bool → Orders
after_confirmed k response = confirmed_orders k (confirmed k response)

-- whether a meter with this access listens now
abbrev pub is_open : Access → Bool
is_open access.None = false
is_open access.Soon = false
is_open access.Limited = true
is_open access.Unlimited = true

-- the oldest command, where the window is idle
abbrev pub oldest_where_idle : Window → List Command → Option Command
oldest_where_idle (Waiting id) commands = None
oldest_where_idle Idle [] = None
oldest_where_idle Idle (oldest ∷ others) = Some oldest

-- the command that is sent: the oldest one, where the window is idle, the meter listens and a counter of four bytes is left
unfoldable pub sent : Orders → Access → Option Command
sent k access = if is_open access && nat_lt k.down (2 ^ 32 - 1) then oldest_where_idle k.window k.queue.commands else None

-- the orders after this command was sent: its tries and the counter rise by one, and the window waits for it
abbrev pub sent_orders : Orders → Option Command → Orders
sent_orders k None = k
sent_orders k (Some c) = record { queue = with_try k.queue; window = Waiting c.id; down = k.down + 1 }

-- the orders after what is sent at this access
unfoldable pub after_sent : Orders → Access → Orders
after_sent k access = sent_orders k (sent k access)

-- the command is the oldest one in the queue, now with one try more
abbrev pub IsOldestAfterTry : Pending → Command → Type 0
IsOldestAfterTry queue c = slice_get queue.commands 0 ≡ Some (record c { tries = c.tries + 1 })

-- the command that is sent at a stored message, after what it confirms was removed
abbrev pub sent_at : Orders → Access → Bool → Option Command
sent_at k access response = sent (after_confirmed k response) access

-- the orders after a stored message
abbrev pub after_stored : Orders → Access → Bool → Orders
after_stored k access response = after_sent (after_confirmed k response) access
