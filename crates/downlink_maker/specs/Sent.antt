-- A downlink as it is sent.
use Rattle.std.specs.Prelude.{ℕ, List}

-- its frame of format A, the id of its command, and its counter
pub record Sent : Type 0 where
  pub bytes : List ℕ
  pub id : ℕ
  pub down : ℕ
