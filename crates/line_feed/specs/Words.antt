-- The words of the program.
use Rattle.std.specs.Prelude.{ℕ, List, [], ◌∷◌, codes, Bool, false, nat_eq, Option, None}
use Rattle.std.specs.Cmp.Lexicographic.{pointwise}
use Rattle.line_feed.specs.declared.printings.Printing.{Printing}
use Rattle.line_feed.specs.Printings.{printing_of}

-- the format that the words ask for: its name is the only word
abbrev pub printing_asked : List (List ℕ) → Option Printing
printing_asked (word ∷ []) = printing_of word
printing_asked words = None

-- the words ask for a file that is appended to
abbrev pub asks_for_file : List (List ℕ) → Bool
asks_for_file (word ∷ option ∷ name ∷ []) = pointwise nat_eq option (codes "--restart-safe")
asks_for_file words = false
