-- What a paper in memory keeps.
use Rattle.std.specs.Prelude.{ℕ, ◌≡◌, Bool, false, List, ◌++◌}

-- what a paper in memory has: its text, and whether there was no memory for some of it
pub record Kept : Type 0 where
  pub text : List ℕ
  pub failed : Bool

-- where there was memory for the text, there was for all before it, and it stands behind that
abbrev pub Keeps : Kept → List ℕ → Kept → Type 0
Keeps p text q = q.failed ≡ false → (p.failed ≡ false) × (q.text ≡ p.text ++ text)
