-- Lists of acts, and what a pass shows.
use Rattle.std.specs.Prelude.{◌≡◌, ℕ, Bool, true, false, List, [], ◌∷◌, ◌++◌, filter, length, if◌then◌else◌, ◌==◌, nat_lt, ◌||◌}
use Rattle.atomic_table.specs.Seated.{TableId}
use Rattle.book_cells.specs.declared.act.Act.{Act}
use Rattle.book_cells.specs.declared.known.Made.{Made}

abbrev pub act : {C R : Type 0} → ℕ → ℕ → C → R → Act C R
act source line call answer = record { source = source; line = line; call = call; answer = answer }

abbrev pub made : {C R : Type 0} → ℕ → List (Act C R) → Made C R
made number acts = record { number = number; acts = acts }

-- the acts of one source, in order
abbrev pub acts_by : {C R : Type 0} → ℕ → List (Act C R) → List (Act C R)
acts_by source log = filter (λ e. e.source == source) log

-- log goes on where seen ends
abbrev pub StartsWith : {X : Type 0} → List X → List X → Type 0
StartsWith {X} log seen = (rest : List X) × (log ≡ seen ++ rest)

-- log is seen, then others' acts, then this one
abbrev pub GoesOnTo : {X : Type 0} → List X → List X → X → Type 0
GoesOnTo {X} seen log e = (between : List X) × (log ≡ (seen ++ between) ++ e ∷ [])

abbrev pub longer : {X : Type 0} → List X → List X → List X
longer xs ys = if nat_lt (length xs) (length ys) then ys else xs

-- n is one of the numbers
abbrev pub is_among : ℕ → List ℕ → Bool
is_among n [] = false
is_among n (k ∷ ks) = k == n || is_among n ks

-- the numbers of the sources
abbrev pub sources : {C R : Type 0} → List (Made C R) → List ℕ
sources [] = []
sources (m ∷ ms) = m.number ∷ sources ms

-- what the source with this number made
abbrev pub made_by : {C R : Type 0} → ℕ → List (Made C R) → List (Act C R)
made_by n [] = []
made_by n (m ∷ ms) = if m.number == n then m.acts else made_by n ms

-- P holds of each
abbrev pub Each : {X : Type 0} → (X → Type 0) → List X → Type 0
Each P [] = Unit {0}
Each P (x ∷ xs) = P x × Each P xs

-- what the contracts see of a cell: which one it is, and what its book was made with
pub record CellShown (O : Type 0) : Type 0 where
  pub id : TableId
  pub opening : O

-- what the contracts see of a pass: its cell, what that cell's book was made with, its own number, whether it came with the cell,
-- the acts that it has seen, those that it made, those of each pass that it took in, and the numbers that it handed out
pub record Shown (O C R : Type 0) : Type 0 where
  pub cell : TableId
  pub opening : List O
  pub number : ℕ
  pub is_first : Bool
  pub seen : List (Act C R)
  pub own : List (Act C R)
  pub joined : List (Made C R)
  pub handed : List ℕ

module _ {O C R : Type 0} where
  -- the acts of the pass's own number and of each joined number
  abbrev pub mine : Shown O C R → List (Made C R)
  mine p = made p.number p.own ∷ p.joined

  -- the pass is of this cell
  abbrev pub IsPassOf : CellShown O → Shown O C R → Type 0
  IsPassOf c p = (p.cell ≡ c.id) × (p.opening ≡ c.opening ∷ [])

  -- what no call changes of a pass
  abbrev pub IsSamePass : Shown O C R → Shown O C R → Type 0
  IsSamePass p q = (q.cell ≡ p.cell) × (q.opening ≡ p.opening) × (q.number ≡ p.number) × (q.is_first ≡ p.is_first)

  -- the pass that comes with a cell
  pub record IsFirstPass (source : ℕ) (p : Shown O C R) : Type 0 where
    pub number : p.number ≡ source
    pub is_first : p.is_first ≡ true
    pub seen : p.seen ≡ []
    pub own : p.own ≡ []
    pub joined : p.joined ≡ []
    pub handed : p.handed ≡ []

  -- q is p, with one number more handed out
  pub record HasHanded (source : ℕ) (p q : Shown O C R) : Type 0 where
    pub same : IsSamePass p q
    pub seen : q.seen ≡ p.seen
    pub own : q.own ≡ p.own
    pub joined : q.joined ≡ p.joined
    pub handed : q.handed ≡ p.handed ++ source ∷ []

  -- a pass that was split off p: it has seen as much, and made nothing
  pub record IsSplitOff (source : ℕ) (p q : Shown O C R) : Type 0 where
    pub number : q.number ≡ source
    pub not_first : q.is_first ≡ false
    pub seen : q.seen ≡ p.seen
    pub own : q.own ≡ []
    pub joined : q.joined ≡ []
    pub handed : q.handed ≡ []

  -- r is p, with q taken in: the longer of what both have seen, and what q made and took in
  pub record HasJoined (p q r : Shown O C R) : Type 0 where
    pub same : IsSamePass p r
    pub seen : r.seen ≡ longer p.seen q.seen
    pub own : r.own ≡ p.own
    pub joined : r.joined ≡ p.joined ++ mine q
    pub handed : r.handed ≡ p.handed
