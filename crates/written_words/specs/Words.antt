-- Words, and lines of them.
use Rattle.std.specs.Prelude.{ℕ, ◌≡◌, nat_lt, true, List}
use Rattle.std.specs.List.{list_all}

-- each byte is above this one
pub record IsAbove (low : ℕ) (text : List ℕ) : Type 0 where
  pub passed : list_all (nat_lt low) text ≡ true

-- no blank is in a word, and no end of a line in words with blanks between them
abbrev pub IsWord : List ℕ → Type 0
IsWord text = IsAbove 32 text

abbrev pub IsPrinted : List ℕ → Type 0
IsPrinted text = IsAbove 31 text
