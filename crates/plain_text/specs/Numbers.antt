-- Plain decimal numbers.
use Rattle.std.specs.Prelude.{ℕ, ◌==◌, ◌&&◌, ◌||◌, not, nat_lt, nat_le, Bool, List, length, slice_index, Option, Some, None, if◌then◌else◌}
use Rattle.std.specs.Char.{is_ascii_digit}
use Rattle.std.specs.List.{list_all}
use Rattle.std.specs.Str.Parse.{digits_value}

-- digits alone, with no leading zero but that of `0` itself
abbrev pub is_plain : List ℕ → Bool
is_plain text = list_all is_ascii_digit text && (length text == 1 || nat_lt 1 (length text) && not (slice_index text 0 == 48))

-- the number that a text writes, if it is plain and at most `most`
unfoldable pub number_of : ℕ → List ℕ → Option ℕ
number_of most text = if is_plain text && nat_le (digits_value 10 text) most then Some (digits_value 10 text) else None
