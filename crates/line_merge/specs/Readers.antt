-- Words of private contracts: inputs that are read, each with the moment at which the line stands that it lends.
use Rattle.std.specs.Prelude.{ℕ, ◌≡◌, ◌+◌, ◌-◌, ◌<◌, ◌≤◌, false, List, [], ◌∷◌, length, drop, zero, suc, slice_set, Option, Some, None, IsTrue, IsSome}
use Rattle.outer_io.specs.declared.sources.Source as sources
use Rattle.lists.specs.Each.{EachWith}
use Rattle.line_reader.specs.Lines.{is_over, all_lines}
use Rattle.line_reader.specs.Reader.{TextReading, given}
use Rattle.line_merge.specs.Merging.{Timed}
use Rattle.line_merge.specs.Inputs.{lines_behind}
use Rattle.line_merge.specs.Run.{bytes_of}

-- the lines that an input hasn't given yet, behind one that stands at a moment
abbrev pub later_lines : {S : Type 0} → sources.Ghosts S → ℕ → TextReading S → List Timed
later_lines s before r = lines_behind before (drop r.reader.line (all_lines (bytes_of s r)))

-- the lines of an input that weren't passed on: the one that it lends, and those behind it; none where it lends none
abbrev pub rest_of : {S : Type 0} → sources.Ghosts S → TextReading S → Option ℕ → List Timed
rest_of s r None = []
rest_of s r (Some at) = record { at = at; bytes = r.text } ∷ later_lines s at r

abbrev pub rests_of : {S : Type 0} → sources.Ghosts S → List (TextReading S) → List (Option ℕ) → List (List Timed)
rests_of s [] heads = []
rests_of s (r ∷ rs) [] = []
rests_of s (r ∷ rs) (head ∷ heads) = rest_of s r head ∷ rests_of s rs heads

-- the lines behind the one that the input at this place lends; none where there is no such input
abbrev pub later_at : {S : Type 0} → sources.Ghosts S → List (TextReading S) → ℕ → ℕ → List Timed
later_at s [] place before = []
later_at s (r ∷ rs) zero before = later_lines s before r
later_at s (r ∷ rs) (suc place) before = later_at s rs place before

-- more than the lines that can still come
abbrev pub to_come : {S : Type 0} → TextReading S → Option ℕ → ℕ
to_come r None = 0
to_come r (Some at) = 131073 - r.reader.line

abbrev pub all_to_come : {S : Type 0} → List (TextReading S) → List (Option ℕ) → ℕ
all_to_come [] heads = 0
all_to_come (r ∷ rs) [] = 0
all_to_come (r ∷ rs) (head ∷ heads) = to_come r head + all_to_come rs heads

-- the reader of an input, of which so many lines were given
pub record IsReading {S : Type 0} (s : sources.Ghosts S) (r : TextReading S) : Type 0 where
  pub longest : r.longest ≡ 15359
  pub goes_on : r.reader.done ≡ false
  pub counted : IsTrue s.tells → length (given s.taken r.reader) ≡ r.reader.line

-- an input lends a line, or is at its end
pub record IsAtHead {S : Type 0} (s : sources.Ghosts S) (r : TextReading S) (head : Option ℕ) : Type 0 where
  pub lends : IsSome head → IsReading s r
  pub within : head ≡ None → IsTrue s.tells → is_over (bytes_of s r) ≡ false

-- the same input later on
pub record GoesOn {S : Type 0} (s : sources.Ghosts S) (old new : TextReading S) : Type 0 where
  pub later : s.faults old.reader.source ≤ s.faults new.reader.source
  pub bytes : IsTrue s.tells → bytes_of s new ≡ bytes_of s old

-- an input gave its next line, behind one that stands at a moment
pub record HasGiven {S : Type 0} (s : sources.Ghosts S) (before : ℕ) (old new : TextReading S) (head : Option ℕ) : Type 0 where
  pub at_head : IsAtHead s new head
  pub rest : IsTrue s.tells → rest_of s new head ≡ later_lines s before old
  pub fewer : to_come new head < 131073 - old.reader.line

-- the input at a place gave its next line, behind one that stands at a moment
pub record IsTaken {S : Type 0} (s : sources.Ghosts S) (place before : ℕ) (olds : List (TextReading S)) (old_heads : List (Option ℕ))
    (news : List (TextReading S)) (new_heads : List (Option ℕ)) : Type 0 where
  pub at_heads : EachWith (IsAtHead s) news new_heads
  pub rests : IsTrue s.tells → rests_of s news new_heads ≡ slice_set (rests_of s olds old_heads) place (later_at s olds place before)
  pub fewer : all_to_come news new_heads < all_to_come olds old_heads
