-- Lines that are telegrams in hexadecimal.
use Rattle.std.specs.Prelude.{ℕ, ◌==◌, ◌||◌, not, Bool, List, Result, Ok}
use Rattle.std.specs.List.{filter}
use Rattle.lists.specs.Steps.{◌>>=◌}
use Rattle.line_feed.specs.declared.heard.Reception.{Reception}
use Rattle.line_feed.specs.declared.reasons.NotTaken.{NotTaken}
use Rattle.line_feed.specs.Digits.{telegram_in}
use Rattle.line_feed.specs.Heard.{heard_some_time}

-- `|` and `_` set digits apart
abbrev pub is_mark : ℕ → Bool
is_mark byte = byte == 124 || byte == 95

abbrev pub unmarked : List ℕ → List ℕ
unmarked line = filter (λ b. not (is_mark b)) line

abbrev pub digits_heard : List ℕ → Result Reception NotTaken
digits_heard digits = telegram_in digits >>= λ t. Ok (heard_some_time t)

-- what is left of a line without its marks is a telegram in digits
abbrev pub hex_heard : List ℕ → Result Reception NotTaken
hex_heard line = digits_heard (unmarked line)
