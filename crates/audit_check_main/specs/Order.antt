-- Whether a printed list is an order of the lines that it has to have.
use Rattle.std.specs.Prelude.{ℕ, ◌≡◌, ◌+◌, ◌<◌, ◌≤◌, List, [], ◌∷◌, ◌++◌, length, map, take, slice_index_or}
use Rattle.paper.specs.Filing.{IsFrontOf}
use Rattle.meter_slots.specs.Journal.{Start}
use Rattle.receivers.specs.declared.told.Told.{Told}
use Rattle.receivers.specs.Orders.{numbers_by}
use Rattle.receivers.specs.Session.{heard_by, lines_for, lines_of_strangers}

-- the numbers of a receiver's lines for each list: each meter's own lines, and behind them those of strangers
abbrev pub numbers_for : List Start → List Told → List (List ℕ)
numbers_for starts heard =
    map (λ c. map (λ l. l.0) (lines_for c.address heard)) starts ++ map (λ l. l.0) (lines_of_strangers starts heard) ∷ []

-- of each receiver the numbers of its lines that the list with this number has to have, in their order
abbrev pub wanted : List Start → List (List Told) → (list : ℕ) → ℕ → List ℕ
wanted starts all list w = slice_index_or (numbers_for starts (heard_by w all)) list []

-- ---- a list

module _ (numbers : ℕ → List ℕ) where
  -- each pair is the next line of its receiver
  abbrev pub AreNext : List (ℕ × ℕ) → Type 0
  AreNext order = (w : ℕ) → IsFrontOf (numbers_by w order) (numbers w)

  -- each pair is the next line of its receiver, and no line is missing at the end
  abbrev pub IsRight : List (ℕ × ℕ) → Type 0
  IsRight order = (w : ℕ) → numbers_by w order ≡ numbers w

  -- a list that isn't right: its first pair that isn't the next line of its receiver stands at this place, or the place is its end,
  -- where lines are missing
  pub record IsWrongAt (order : List (ℕ × ℕ)) (place : ℕ) : Type 0 where
    pub within : place ≤ length order
    pub right_before : AreNext (take place order)
    pub wrong_pair : place < length order → AreNext (take (place + 1) order) → ⊥
    pub missing : place ≡ length order → IsRight order → ⊥

-- ---- all lists

-- the first list that isn't right, counted from 0, and the place where it goes wrong
pub record IsFirstWrong (numbers : ℕ → ℕ → List ℕ) (lists : List (List (ℕ × ℕ))) (list place : ℕ) : Type 0 where
  pub within : list < length lists
  pub right_before : (k : ℕ) → k < list → IsRight (numbers k) (slice_index_or lists k [])
  pub wrong : IsWrongAt (numbers list) (slice_index_or lists list []) place
