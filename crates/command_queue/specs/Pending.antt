-- The commands that wait to be sent to a meter.
use Rattle.std.specs.Prelude.{ℕ, ◌≡◌, ◌+◌, ◌-◌, ◌^◌, ◌<◌, ◌≤◌, Bool, not, ◌==◌, nat_le, nat_lt, ◌&&◌, if◌then◌else◌, List, [], ◌∷◌, ◌++◌, length, filter}
use Rattle.std.specs.Prelude.{find, is_some, Result, Ok, Err, ok_or}
use Rattle.command_queue.specs.declared.command.Command.{Command}
use Rattle.command_queue.specs.declared.command.QueueFault.{QueueFault}
use Rattle.command_queue.specs.declared.command.QueueFault.TheVariants.{Full, IdsSpent}
use Rattle.command_queue.specs.declared.command.NoSuch.{NoSuch}

-- the last id that was given, and the commands that wait, the oldest one first
pub record Pending : Type 0 where
  pub ids : ℕ
  pub commands : List Command

-- ---- what holds of every queue

-- the ids rise above a number from the oldest command to the newest, and none is above the last id that was given
abbrev pub IdsRise : ℕ → List Command → ℕ → Type 0
IdsRise above [] last = above ≤ last
IdsRise above (c ∷ cs) last = (above < c.id) × IdsRise c.id cs last

-- no command was sent yet
abbrev pub AreUntried : List Command → Type 0
AreUntried [] = Unit {0}
AreUntried (c ∷ cs) = (c.tries ≡ 0) × AreUntried cs

-- the oldest command was sent at most three times, and no other was sent yet
abbrev pub OnlyOldestTried : List Command → Type 0
OnlyOldestTried [] = Unit {0}
OnlyOldestTried (c ∷ cs) = (c.tries ≤ 3) × AreUntried cs

-- what holds of every queue
pub record IsSound (q : Pending) : Type 0 where
  pub few : length q.commands ≤ 8
  pub rising : IdsRise 0 q.commands q.ids
  pub tries : OnlyOldestTried q.commands

-- ---- putting, taking and trying

-- a command with this id
abbrev pub has_id : ℕ → Command → Bool
has_id id c = c.id == id

-- whether a command with this id waits
unfoldable pub is_pending : ℕ → Pending → Bool
is_pending id q = is_some (find (has_id id) q.commands)

-- the id of the next command, or why there is none: a full queue comes first, then the last id
unfoldable pub put_answer : Pending → Result ℕ QueueFault
put_answer q = if nat_le 8 (length q.commands) then Err Full else if q.ids == 2 ^ 32 - 1 then Err IdsSpent else Ok (q.ids + 1)

-- a refused command changes nothing, and an accepted one stands last, under its id and with no try
abbrev pub with_command_by : Pending → List ℕ → Result ℕ QueueFault → Pending
with_command_by q payload (Err fault) = q
with_command_by q payload (Ok id) = record { ids = id; commands = q.commands ++ record { id = id; tries = 0; payload = payload } ∷ [] }

-- the queue after a command with this payload was put: it is the newest, unless it was refused
unfoldable pub with_command : Pending → List ℕ → Pending
with_command q payload = with_command_by q payload (put_answer q)

-- no command with this id waits
abbrev pub no_such : ℕ → NoSuch
no_such id = record { 0 = id }

-- the command with this id, or that there is none
unfoldable pub take_answer : ℕ → Pending → Result Command NoSuch
take_answer id q = ok_or (find (has_id id) q.commands) (no_such id)

-- the queue without the command with this id
unfoldable pub without_command : ℕ → Pending → Pending
without_command id q = record q { commands = filter (λ c. not (has_id id c)) q.commands }

-- a command waits, and the oldest one was sent fewer than three times
abbrev pub HasTryLeft : List Command → Type 0
HasTryLeft [] = ⊥
HasTryLeft (c ∷ cs) = c.tries < 3

-- the commands after the oldest one was sent once more
abbrev pub one_try_more : List Command → List Command
one_try_more [] = []
one_try_more (c ∷ cs) = record c { tries = c.tries + 1 } ∷ cs

-- the queue after its oldest command was sent once more
unfoldable pub with_try : Pending → Pending
with_try q = record q { commands = one_try_more q.commands }

-- ---- a command that waited before

-- the id of the newest of some commands, or this number where there are none
abbrev pub newest_id : ℕ → List Command → ℕ
newest_id n [] = n
newest_id n (c ∷ cs) = newest_id c.id cs

-- how often the next command was sent at most: only the oldest one was sent
abbrev pub most_tries : List Command → ℕ
most_tries [] = 3
most_tries (c ∷ cs) = 0

-- whether a command may stand behind those that wait: there is room, its id is above theirs and not above the last that was given, and
-- it was sent three times at most, or never where it isn't the oldest
unfoldable pub may_follow : Pending → Command → Bool
may_follow q c =
    nat_lt (length q.commands) 8 && nat_lt (newest_id 0 q.commands) c.id && nat_le c.id q.ids && nat_le c.tries (most_tries q.commands)

-- the queue with it, where it may
unfoldable pub with_follower : Pending → Command → Pending
with_follower q c = if may_follow q c then record q { commands = q.commands ++ c ∷ [] } else q
