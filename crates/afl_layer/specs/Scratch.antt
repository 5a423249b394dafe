-- A buffer that holds a message.
use Rattle.std.specs.Prelude.{ℕ, List, length}
use Rattle.std.specs.List.{refill}
use Rattle.std.specs.Borrow.{Lends, MutBor, Fml, Array, u8}
use Rattle.afl_layer.specs.contracts.scratch.Scratch.{the_row}

-- s ends with what is last written behind r, as many bytes as there were
abbrev pub LendsBytes : MutBor (List ℕ) → MutBor (List ℕ) → Fml
LendsBytes s r = Lends the_row (Array u8 0) s r (refill (length s.now) s.now)
