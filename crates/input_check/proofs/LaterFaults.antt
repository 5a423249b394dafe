-- Counts of faults over several calls.
use Rattle.std.proofs.Common.{ℕ, ◌≤◌, inl, inr, arith}
use Rattle.outer_io.specs.Faults.{Rose}

-- a count of faults that rose in a later call
pub rose_later : (a b c : ℕ) → a ≤ b → Rose b c → Rose a c
rose_later a b c before (inl rose) = inl (omega (arith, before, rose))
rose_later a b c before (inr full) = inr full
