-- Words of private contracts: the bytes of a read, line by line.
use Rattle.std.specs.Prelude.{ℕ, ◌≡◌, ◌≤◌, ◌+◌, List, [], ◌∷◌, ◌++◌, length, take, drop}
use Rattle.line_reader.specs.Newlines.{newlines}
use Rattle.line_feed.specs.Opened.{Open, Keeps}

-- so many bytes stand behind the first ones, and behind them a newline, the first one there
pub record IsPlace (read : List ℕ) (at place : ℕ) : Type 0 where
  pub rest : List ℕ
  pub alone : newlines (take place (drop at read)) ≡ 0
  pub whole : read ≡ take at read ++ (take place (drop at read) ++ 10 ∷ rest)
  pub within : at + (place + 1) ≤ length read
  pub taken : take (at + (place + 1)) read ≡ take at read ++ (take place (drop at read) ++ 10 ∷ [])

-- bytes without a newline were added to the line that isn't finished
pub record Adds (before : Open) (piece : List ℕ) (now : Open) : Type 0 where
  pub alone : newlines piece ≡ 0
  pub same : now.finished ≡ before.finished
  pub kept : (line : List ℕ) → Keeps before line → Keeps now (line ++ piece)
