-- The words of the program.
use Rattle.std.specs.Prelude.{ℕ, List, [], ◌∷◌, nat_eq, Option, Some, None, option_and_then, if◌then◌else◌}
use Rattle.plain_text.specs.Numbers.{number_of}

-- a number that isn't zero
abbrev pub counting : ℕ → Option ℕ
counting n = if nat_eq n 0 then None else Some n

-- how many workers the words ask for: a file, and a plain decimal number from 1 to 16
abbrev pub workers_of : List (List ℕ) → Option ℕ
workers_of (frames ∷ workers ∷ []) = option_and_then counting (number_of 16 workers)
workers_of words = None
