-- How a count of faults moves in a call. A count keeps the 64 bits of its type, and stands still at its last value.
use Rattle.std.specs.Prelude.{ℕ, ◌≡◌, ◌+◌, ◌<◌, ◌-◌, ◌^◌, ◌⊎◌, min}

-- the count is greater after the call than before it, or stands at its last value
abbrev pub Rose : ℕ → ℕ → Type 0
Rose before now = (before < now) ⊎ (now ≡ 2 ^ 64 - 1)

-- the count after one more
abbrev pub next_count : ℕ → ℕ
next_count n = min (n + 1) (2 ^ 64 - 1)
