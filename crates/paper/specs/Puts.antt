-- What is put on a paper.
use Rattle.std.specs.Prelude.{ℕ, List}
use Rattle.std.specs.Fmt.{WritesInCalls}

-- some calls took the paper from the one to the other, and together put this text on it
pub record Puts {P : Type 0} (takes : P → List ℕ → P → Type 0) (old : P) (text : List ℕ) (new : P) : Type 0 where
  pub calls : WritesInCalls takes old text new
