-- The words of the two programs.
use Rattle.std.specs.Prelude.{ℕ, ◌-◌, ◌^◌, ◌&&◌, not, Bool, false, List, [], ◌∷◌, Option, None, if◌then◌else◌}
use Rattle.std.specs.Str.{bytes_eq}
use Rattle.plain_text.specs.Numbers.{number_of}

-- `STATE ROSTER NEXT`, where NEXT is the name of neither of the others
unfoldable pub are_merge_words : List (List ℕ) → Bool
are_merge_words (state ∷ roster ∷ next ∷ []) = not (bytes_eq next state) && not (bytes_eq next roster)
are_merge_words _ = false

-- the N of `STATE N NEXT`, a plain number below 2^32, where NEXT isn't the name of STATE
unfoldable pub raise_in : List (List ℕ) → Option ℕ
raise_in (state ∷ n ∷ next ∷ []) = if bytes_eq next state then None else number_of (2 ^ 32 - 1) n
raise_in _ = None
