-- Words of private contracts: what a read did, and what stands at the front of bytes.
use Rattle.std.specs.Prelude.{ℕ, ◌≡◌, ◌==◌, ◌+◌, ◌-◌, ◌<◌, ◌≤◌, List, ◌∷◌, ◌++◌, length, take, drop, slice_index, if◌then◌else◌}
use Rattle.std.specs.Str.Lines.{strip_carriage_return}
use Rattle.outer_io.specs.Bytes.{Moves}
use Rattle.line_reader.specs.Newlines.{newlines}

-- the source moved these bytes from what was left to what was taken
abbrev pub Takes : {S : Type 0} (taken left : S → List ℕ) → List ℕ → S → S → Type 0
Takes taken left bytes old new = Moves bytes (taken old) (left old) (taken new) (left new)

-- the first bytes, this many, are a line with its newline
pub record BeginsWithLine (bytes : List ℕ) (count : ℕ) : Type 0 where
  pub front : List ℕ
  pub rest : List ℕ
  pub cut : bytes ≡ front ++ 10 ∷ rest
  pub alone : newlines front ≡ 0
  pub long : count ≡ length front + 1

-- the bytes of a line without its end, if it has one
abbrev pub line_text : List ℕ → List ℕ
line_text bytes = if slice_index bytes (length bytes - 1) == 10 then strip_carriage_return (take (length bytes - 1) bytes) else bytes

-- the first held bytes, so many, are a line behind those that were given up: it is lent with its end, or it is too long and given up
pub record LendsLine (longest given_up count : ℕ) (held held' : List ℕ) (lent : ℕ) : Type 0 where
  pub within : lent ≤ length held'
  pub behind : drop lent held' ≡ drop count held
  pub line : 0 < lent → (given_up ≡ 0) × (lent ≡ count) × (held' ≡ held) × (length (line_text (take count held)) ≤ longest)
  pub too_long : lent ≡ 0 → given_up ≡ 0 → longest < length (line_text (take count held))
