-- The passes of each receiver, which are numbered as the receivers are.
use Rattle.std.specs.Prelude.{◌≡◌, ℕ, ◌+◌, ◌<◌, ◌≤◌, true, false, List, [], ◌∷◌, ◌++◌, length, slice_index_or}
use Rattle.meter_address.specs.declared.address.Address.{Address}
use Rattle.meter_slots.specs.declared.entry.Event.{Event}
use Rattle.meter_slots.specs.declared.entry.Outcome.{Outcome}
use Rattle.book_cells.specs.declared.known.Made.{Made}
use Rattle.lists.specs.Each.{Each}
use Rattle.book_cells.specs.Acts.{Shown, CellShown, IsPassOf, IsSamePass, mine}
use Rattle.receivers.specs.Passes.{Crew, ArePassesOf}
use Rattle.receivers.specs.Roots.{AreSplit}
use Rattle.receivers.specs.Workers.{IsCrewOf}

-- a pass that was split off with this number, and made nothing yet
pub record IsFreshPass {O C R : Type 0} (n : ℕ) (p : Shown O C R) : Type 0 where
  pub number : p.number ≡ n
  pub not_first : p.is_first ≡ false
  pub own : p.own ≡ []
  pub joined : p.joined ≡ []

-- a pass that came with its cell, and handed out numbers above the least up to the most
pub record IsRoot {O C R : Type 0} (least most : ℕ) (p : Shown O C R) : Type 0 where
  pub number : p.number ≡ 0
  pub is_first : p.is_first ≡ true
  pub own : p.own ≡ []
  pub joined : p.joined ≡ []
  pub handed : Each (λ n. (least < n) × (n ≤ most)) p.handed

module _ {O P : Type 0} (cells : List (CellShown O)) (strangers : CellShown P) where
  -- the passes of the receiver with this number, fresh
  pub record IsCrew (n : ℕ) (c : Crew O P) : Type 0 where
    pub crew_of : IsCrewOf cells strangers c
    pub fresh : (k : ℕ) (d : Shown O Event Outcome) → k < length c.passes → IsFreshPass n (slice_index_or c.passes k d)
    pub stranger : IsFreshPass n c.stranger_pass

  -- the passes of receivers, of which the first one has the number n
  abbrev pub AreCrews : ℕ → List (Crew O P) → Type 0
  AreCrews n [] = Unit {0}
  AreCrews n (c ∷ cs) = IsCrew n c × AreCrews (n + 1) cs

  -- the passes that came with the cells
  pub record AreRoots (least most : ℕ) (roots : List (Shown O Event Outcome)) (stranger_root : Shown P Address Unit) : Type 0 where
    pub each_cell : ArePassesOf cells roots
    pub strangers_cell : IsPassOf strangers stranger_root
    pub each : (k : ℕ) (d : Shown O Event Outcome) → k < length roots → IsRoot least most (slice_index_or roots k d)
    pub stranger : IsRoot least most stranger_root

-- ---- joining

module _ {O P : Type 0} (cells : List (CellShown O)) (strangers : CellShown P) where
  -- a receiver's passes, which were split off
  pub record CanJoin (c : Crew O P) : Type 0 where
    pub crew_of : IsCrewOf cells strangers c
    pub split : AreSplit c.passes
    pub stranger : c.stranger_pass.is_first ≡ false

-- what was made with one pass of each, the last one's first
abbrev pub joined_by : {X O C R : Type 0} → (X → Shown O C R) → List X → List (Made C R)
joined_by pass_of [] = []
joined_by pass_of (x ∷ xs) = joined_by pass_of xs ++ mine (pass_of x)

-- r is p, with these joined
pub record AllJoined {O C R : Type 0} (more : List (Made C R)) (p r : Shown O C R) : Type 0 where
  pub same : IsSamePass p r
  pub own : r.own ≡ p.own
  pub handed : r.handed ≡ p.handed
  pub joined : r.joined ≡ p.joined ++ more

-- each root has what the crews made at its place
pub record HaveAllJoined {O P : Type 0} (crews : List (Crew O P)) (before after : List (Shown O Event Outcome))
    (s s' : Shown P Address Unit) : Type 0 where
  pub as_many : length after ≡ length before
  pub each : (k : ℕ) (d : Shown O Event Outcome) → k < length before
      → AllJoined (joined_by (λ c. slice_index_or c.passes k d) crews) (slice_index_or before k d) (slice_index_or after k d)
  pub stranger : AllJoined (joined_by (λ c. c.stranger_pass) crews) s s'
