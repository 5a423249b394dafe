-- Counts with one more line, where there is room.
use Rattle.std.proofs.Common.{◌≡◌, ◌≤◌, ◌<◌, ◌+◌, ◌-◌, ◌^◌, ℕ, ◌∙◌, arith}
use Rattle.meter_slots.specs.declared.counts.Counts.{Counts}
use Rattle.receivers.specs.declared.class.Class.{Class}
use Rattle.receivers.specs.Counting.{with_class, AreFew}

below : (n lines : ℕ) → n ≤ lines → lines < 2 ^ 32 - 1 → n < 2 ^ 32 - 1
below n lines le room = omega arith

abbrev IsMore : ℕ → ℕ → Type 0
IsMore n more = n < 2 ^ 32 - 1 → more ≡ n + 1

-- the count of all lines and the one of a class, put where they stand
pub one_more : (n : Counts) (class : Class) (put : ℕ → ℕ → Counts) (its lines more : ℕ) → put (n.lines + 1) (its + 1) ≡ with_class n class
    → IsMore n.lines lines → IsMore its more → (AreFew n → its ≤ n.lines) → AreFew n → put lines more ≡ with_class n class
one_more n class put its lines more is all one fewer few =
    (λ i. put (all few.room i) (one (below its n.lines (fewer few) few.room) i)) ∙ is
