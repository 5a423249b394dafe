-- The merge of several inputs.
use Rattle.std.specs.Prelude.{ℕ, ◌≡◌, ◌≤◌, ◌==◌, if◌then◌else◌, List, [], ◌∷◌, ◌++◌, map, Option, Some, None, zero, suc}
use Rattle.line_merge.specs.Least.{IsLeast, AreDone, carried}

-- a line: the moment at which it stands, and its bytes
pub record Timed : Type 0 where
  pub at : ℕ
  pub bytes : List ℕ

-- a line of the merge: the place of its input
pub record Merged : Type 0 where
  pub place : ℕ
  pub line : Timed

-- the moment of the next line
abbrev pub head_of : List Timed → Option ℕ
head_of [] = None
head_of (line ∷ lines) = Some line.at

abbrev pub heads_of : List (List Timed) → List (Option ℕ)
heads_of inputs = map head_of inputs

-- the input at this place begins with this line, and without it the inputs are these
abbrev pub Takes : ℕ → Timed → (before after : List (List Timed)) → Type 0
Takes place line [] after = ⊥
Takes place line (input ∷ inputs) [] = ⊥
Takes zero line (input ∷ inputs) (left ∷ later) = (input ≡ line ∷ left) × (later ≡ inputs)
Takes (suc place) line (input ∷ inputs) (left ∷ later) = (left ≡ input) × Takes place line inputs later

-- the merge of some inputs: as long as one has a line, that of the least moment comes next, and of equal ones that of the first input
abbrev pub IsMerge : List (List Timed) → List Merged → Type 0
IsMerge inputs [] = AreDone (heads_of inputs)
IsMerge inputs (m ∷ merged) =
    IsLeast (heads_of inputs) m.place × ((after : List (List Timed)) × Takes m.place m.line inputs after × IsMerge after merged)

-- these lines come first in the merge of some inputs, and then the inputs are these
abbrev pub MergesTo : (inputs : List (List Timed)) → List Merged → (left : List (List Timed)) → Type 0
MergesTo inputs [] left = left ≡ inputs
MergesTo inputs (m ∷ merged) left =
    IsLeast (heads_of inputs) m.place × ((after : List (List Timed)) × Takes m.place m.line inputs after × MergesTo after merged left)

-- ---- what holds of merges

-- the lines of one input in a merge
abbrev pub lines_from : ℕ → List Merged → List Timed
lines_from place [] = []
lines_from place (m ∷ merged) = if m.place == place then m.line ∷ lines_from place merged else lines_from place merged

-- the lines of the input at this place; none where there is no such input
abbrev pub input_at : List (List Timed) → ℕ → List Timed
input_at [] place = []
input_at (input ∷ inputs) zero = input
input_at (input ∷ inputs) (suc place) = input_at inputs place

-- moments never fall, the first one not below this
abbrev pub RiseFrom : ℕ → List Timed → Type 0
RiseFrom at [] = Unit {0}
RiseFrom at (line ∷ lines) = (at ≤ line.at) × RiseFrom line.at lines

abbrev pub AllRiseFrom : ℕ → List (List Timed) → Type 0
AllRiseFrom at [] = Unit {0}
AllRiseFrom at (input ∷ inputs) = RiseFrom at input × AllRiseFrom at inputs

abbrev pub MergesKeepEach : Type 0
MergesKeepEach = (inputs : List (List Timed)) (merged : List Merged) → IsMerge inputs merged
    → (place : ℕ) → lines_from place merged ≡ input_at inputs place

abbrev pub MergesRise : Type 0
MergesRise = (at : ℕ) (inputs : List (List Timed)) (merged : List Merged) → IsMerge inputs merged → AllRiseFrom at inputs
    → RiseFrom at (map (λ m. m.line) merged)

-- inputs have one merge
abbrev pub MergesAreOne : Type 0
MergesAreOne = (inputs : List (List Timed)) (one other : List Merged) → IsMerge inputs one → IsMerge inputs other → one ≡ other

-- lines that come first are the first ones of the merge, and what is left of the inputs has the rest of it
abbrev pub FrontsAreOfTheMerge : Type 0
FrontsAreOfTheMerge = (inputs left : List (List Timed)) (front merged : List Merged) → MergesTo inputs front left
    → IsMerge inputs merged → (rest : List Merged) × (merged ≡ front ++ rest) × IsMerge left rest

-- ---- lines without a moment

-- a line as it was heard: its own moment, where it has one, and its bytes
pub record Heard : Type 0 where
  pub own : Option ℕ
  pub bytes : List ℕ

-- each line at its own moment, or where it has none at that of the line before it
unfoldable pub timed : ℕ → List Heard → List Timed
timed before [] = []
timed before (line ∷ lines) =
    record { at = carried before line.own; bytes = line.bytes } ∷ timed (carried before line.own) lines

-- the moments that there are never fall, the first one not below this
abbrev pub OwnRiseFrom : ℕ → List Heard → Type 0
OwnRiseFrom before [] = Unit {0}
OwnRiseFrom before (line ∷ lines) = (before ≤ carried before line.own) × OwnRiseFrom (carried before line.own) lines

-- so it stands
abbrev pub CarriedRise : Type 0
CarriedRise = (before : ℕ) (lines : List Heard) → OwnRiseFrom before lines → RiseFrom before (timed before lines)
