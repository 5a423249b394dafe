-- The orders in which steps came, as a report's text tells them.
use Rattle.std.specs.Prelude.{ℕ, ◌==◌, ◌&&◌, ◌||◌, nat_eq, Bool, List, [], ◌∷◌, ◌++◌, codes, if◌then◌else◌}
use Rattle.std.specs.List.{slice_split, starts_with}
use Rattle.std.specs.Str.{all_ascii_digits}
use Rattle.std.specs.Str.Parse.{digits_value}
use Rattle.plain_text.specs.Parts.{fields_of}

-- The steps of each meter and the lines of strangers, each told by its receiver and its line there.
pub record Orders : Type 0 where
  pub meters : List (List (ℕ × ℕ))
  pub strangers : List (ℕ × ℕ)

-- What some lines tell: the steps above the first heading, those of each meter, and the strangers' lines.
pub record Told : Type 0 where
  pub above : List (ℕ × ℕ)
  pub meters : List (List (ℕ × ℕ))
  pub strangers : List (ℕ × ℕ)

abbrev pub lines_in : List ℕ → List (List ℕ)
lines_in text = slice_split (λ b. b == 10) text

abbrev pub begins : List ℕ → List ℕ → Bool
begins word line = starts_with nat_eq line word

-- The two numbers behind the first word. A line with too few fields, or with another byte than digits in one of the two, is passed over.
abbrev pub pair_in : List (List ℕ) → List (ℕ × ℕ)
pair_in (word ∷ first ∷ second ∷ more) =
    if all_ascii_digits first && all_ascii_digits second then (digits_value 10 first, digits_value 10 second) ∷ [] else []
pair_in _ = []

-- a meter's heading opens its list: the steps between it and the next heading are its own
abbrev pub meter_heading : Told → Told
meter_heading below = record { above = []; meters = below.above ∷ below.meters; strangers = below.strangers }

-- and so does the heading of the strangers
abbrev pub strangers_heading : Told → Told
strangers_heading below = record { above = []; meters = below.meters; strangers = below.above ++ below.strangers }

-- steps are added to the list that a heading above them opens
abbrev pub with_steps : List (ℕ × ℕ) → Told → Told
with_steps pairs below = record { above = pairs ++ below.above; meters = below.meters; strangers = below.strangers }

-- A line, with what the lines below it tell. Every other line is passed over.
unfoldable pub with_line : List ℕ → Told → Told
with_line line below =
    if begins (codes "meter ") line then meter_heading below else
    (if begins (codes "strangers ") line then strangers_heading below else
    (if begins (codes "step ") line || begins (codes "stranger ") line then with_steps (pair_in (fields_of line)) below else
    below))

abbrev pub told : List (List ℕ) → Told
told [] = record { above = []; meters = []; strangers = [] }
told (line ∷ below) = with_line line (told below)

-- The orders that a text tells. Steps above the first heading are nobody's, and are passed over.
abbrev pub orders : List ℕ → Orders
orders text = let all = told (lines_in text) in record { meters = all.meters; strangers = all.strangers }
