-- What is sent over time.
use Rattle.std.specs.Prelude.{ℕ, List, [], ◌∷◌, Option, Some, None, Bool}
use Rattle.command_queue.specs.declared.command.Command.{Command}
use Rattle.ell_layer.specs.declared.access.Access.{Access}
use Rattle.command_queue.specs.declared.window.Window.TheVariants.{Idle}
use Rattle.command_queue.specs.Orders.{Orders, orders_of, after_put, after_cancel, after_tick, sent_at, after_stored}

-- a command is put, one is cancelled, a tick, or a message of the meter is stored
pub data Move : Type 0 where
  Put : (payload : List ℕ) → Move
  Cancel : (id : ℕ) → Move
  Tick : Move
  Store : (access : Access) (response : Bool) → Move

-- no command waits and none was sent; these are the last id and the last counter that were used before
abbrev pub fresh_orders : (ids down : ℕ) → Orders
fresh_orders ids down = orders_of (record { ids = ids; commands = [] }) Idle down

-- the orders after this
abbrev pub after : Orders → Move → Orders
after k (Put payload) = after_put k payload
after k (Cancel id) = after_cancel k id
after k Tick = after_tick k
after k (Store access response) = after_stored k access response

-- the command that is sent at this
abbrev pub sent_by : Orders → Move → Option Command
sent_by k (Put payload) = None
sent_by k (Cancel id) = None
sent_by k Tick = None
sent_by k (Store access response) = sent_at k access response

-- a downlink: the id of its command, and its counter
pub record SentCommand : Type 0 where
  pub id : ℕ
  pub down : ℕ

-- a downlink, where one is sent, before those that come later
abbrev pub with_sent : Option Command → ℕ → List SentCommand → List SentCommand
with_sent None down later = later
with_sent (Some c) down later = record { id = c.id; down = down } ∷ later

-- all downlinks, in order
abbrev pub all_sent : Orders → List Move → List SentCommand
all_sent k [] = []
all_sent k (m ∷ moves) = with_sent (sent_by k m) (after k m).down (all_sent (after k m) moves)
