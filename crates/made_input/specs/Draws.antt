-- The draws of which a made session's keys are made: the upper halves of the states of a linear congruential generator.
use Rattle.std.specs.Prelude.{ℕ, zero, suc, ◌+◌, ◌*◌, ◌/◌, ◌%◌, ◌^◌, List, ◌++◌}
use Rattle.std.specs.Int.{w32, to_le_bytes}

abbrev pub next_state : ℕ → ℕ
next_state x = (x * 6364136223846793005 + 1442695040888963407) % 2 ^ 64

-- the state after so many draws; it begins as the session's number
unfoldable pub state_after : ℕ → ℕ → ℕ
state_after zero number = number
state_after (suc n) number = next_state (state_after n number)

-- the draw that leaves a state: its upper 32 bits, in four bytes, the low one first
abbrev pub draw_of : ℕ → List ℕ
draw_of state = to_le_bytes w32 (state / 2 ^ 32)

-- the n-th draw, counted from 1
abbrev pub drawn : ℕ → ℕ → List ℕ
drawn number n = draw_of (state_after n number)

-- the key of the four draws behind the first so many
unfoldable pub key_behind : ℕ → ℕ → List ℕ
key_behind number n = drawn number (n + 1) ++ drawn number (n + 2) ++ drawn number (n + 3) ++ drawn number (n + 4)
