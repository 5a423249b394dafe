-- Pieces of texts: words with numbers between them.
use Rattle.std.specs.Prelude.{ℕ, List, ◌++◌}
use Rattle.paper.specs.Pieces.{labelled}

unfoldable pub between : List ℕ → ℕ → List ℕ → List ℕ
between before n after = labelled before n ++ after

unfoldable pub between_two : List ℕ → ℕ → List ℕ → ℕ → List ℕ → List ℕ
between_two before n middle m after = labelled before n ++ between middle m after
