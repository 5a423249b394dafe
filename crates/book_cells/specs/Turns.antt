-- The rule of a cell, and what each step tells.
-- Word 0 counts the tickets that were drawn, and word 1 those that were served, both modulo 2^64. The slot holds the book.
use Rattle.std.specs.Prelude.{◌≡◌, ◌≢◌, ℕ, ◌+◌, ◌%◌, ◌^◌, ◌<◌, ◌≤◌, Bool, true, false, List, [], ◌∷◌, ◌++◌, length, drop, Option, Some, None, Result, Ok, Err}
use mathlib.Core.Option.{Option as Maybe, none, some}
use lib.ListN.{get_elem?}
use Rattle.atomic_table.specs.Table.{State, Me, Step}
use Rattle.book_cells.specs.declared.act.Act.{Act}
use Rattle.book_cells.specs.declared.known.Made.{Made}
use Rattle.book_cells.specs.declared.known.Known.{Known}
use Rattle.book_cells.specs.declared.known.Stage.{Stage}
use Rattle.book_cells.specs.declared.known.Stage.TheVariants.{Spent, Idle, Waiting, Holding}
use Rattle.book_cells.specs.declared.kept.Kept.{Kept}
use Rattle.lists.specs.Each.{Each}
use Rattle.book_cells.specs.Acts.{act, made, acts_by, StartsWith, longer, is_among}

-- a number in a word
abbrev pub wrapped : ℕ → ℕ
wrapped n = n % 2 ^ 64

module _ {O C R : Type 0} where
  abbrev pub own_and_joined : Known O C R → List (Made C R)
  own_and_joined v = made v.number v.own ∷ v.joined

  abbrev pub at_stage : Known O C R → Stage → Known O C R
  at_stage v stage = record v { stage = stage }

  -- the pass has the book, and sees all acts
  abbrev pub with_book : Known O C R → List (Act C R) → ℕ → Known O C R
  with_book v log t = record v { seen = log; stage = Holding t }

  -- the book is back with these acts, of which those that were not seen are the pass's own
  abbrev pub back_with : Known O C R → List (Act C R) → Known O C R
  back_with v log = record v { seen = log; own = v.own ++ drop (length v.seen) log; stage = Idle }

  abbrev pub first_known : O → ℕ → Known O C R
  first_known o number = record {
    opening = o ∷ [];
    number = number;
    is_first = true;
    seen = [];
    own = [];
    joined = [];
    handed = [];
    stage = Idle;
  }

  abbrev pub spent_known : Known O C R
  spent_known = record { opening = []; number = 0; is_first = false; seen = []; own = []; joined = []; handed = []; stage = Spent }

  abbrev pub hands_out : ℕ → Known O C R → Known O C R
  hands_out number v = record v { handed = v.handed ++ number ∷ [] }

  abbrev pub split_off : ℕ → Known O C R → Known O C R
  split_off number v = record v { number = number; is_first = false; own = []; joined = []; handed = []; stage = Idle }

  abbrev pub takes_in : Known O C R → Known O C R → Known O C R
  takes_in v u = record v { seen = longer v.seen u.seen; joined = v.joined ++ own_and_joined u }

-- the acts that a call with this result made
abbrev pub fresh_of : {C R E : Type 0} → ℕ → ℕ → C → Result R E → List (Act C R)
fresh_of source line call (Ok answer) = act source line call answer ∷ []
fresh_of source line call (Err e) = []

-- the pass has no ticket and no book
abbrev pub IsAtRest : {S O C R : Type 0} → Me S (Known O C R) → Type 0
IsAtRest m = (m.0.stage ≡ Idle) × (m.1 ≡ [])

-- What nobody stores: how many tickets were served and drawn, who drew each, which seat has the pass of each number, the numbers in use,
-- all acts, and whether the book is out
pub record Course (C R : Type 0) : Type 0 where
  pub served : ℕ
  pub drawn : ℕ
  pub drawer : ℕ → ℕ
  pub seat_of : ℕ → ℕ
  pub numbers : List ℕ
  pub log : List (Act C R)
  pub is_out : Bool

module _ {C R : Type 0} (seat_of : ℕ → ℕ) (numbers : List ℕ) (log : List (Act C R)) where
  -- what a pass made is what all acts have of that number
  pub record IsOwned (seat : ℕ) (m : Made C R) : Type 0 where
    pub seat_is : seat_of m.number ≡ seat
    pub acts_are : acts_by m.number log ≡ m.acts
    pub in_use : is_among m.number numbers ≡ true
    pub small : m.number < 2 ^ 32

  module _ {O : Type 0} (o : O) where
    pub record IsLive (seat : ℕ) (v : Known O C R) : Type 0 where
      pub opening_is : v.opening ≡ o ∷ []
      pub prefix : StartsWith log v.seen
      pub own : IsOwned seat (made v.number v.own)
      pub joined : Each (IsOwned seat) v.joined
      pub apart : Each (λ (m : Made C R). m.number ≢ v.number) v.joined
      pub is_root : v.is_first ≡ true → (seat ≡ 0) × (numbers ≡ v.number ∷ v.handed)

-- the ticket was drawn by this number, and was not served yet
pub record HasTicket (served drawn : ℕ) (drawer : ℕ → ℕ) (t number : ℕ) : Type 0 where
  pub after : served ≤ t
  pub before : t < drawn
  pub drew : drawer t ≡ number

pub record HasTurn {C R : Type 0} (served : ℕ) (log : List (Act C R)) (is_out : Bool) (t : ℕ) (seen : List (Act C R)) : Type 0 where
  pub now : t ≡ served
  pub sees_all : seen ≡ log
  pub out : is_out ≡ true

module _ {O C R : Type 0} (o : O) (g : Course C R) where
  abbrev pub Knows : ℕ → Known O C R → Stage → Type 0
  Knows seat v Spent = Unit {0}
  Knows seat v Idle = IsLive g.seat_of g.numbers g.log o seat v
  Knows seat v (Waiting t) = IsLive g.seat_of g.numbers g.log o seat v × HasTicket g.served g.drawn g.drawer t v.number
  Knows seat v (Holding t) =
      IsLive g.seat_of g.numbers g.log o seat v × HasTicket g.served g.drawn g.drawer t v.number × HasTurn g.served g.log g.is_out t v.seen

-- the stage of a pass whose ticket is out
abbrev pub IsOut : ℕ → Stage → Type 0
IsOut t Spent = ⊥
IsOut t Idle = ⊥
IsOut t (Waiting n) = n ≡ t
IsOut t (Holding n) = n ≡ t

abbrev pub IsThere : Stage → Type 0
IsThere Spent = ⊥
IsThere Idle = Unit {0}
IsThere (Waiting n) = Unit {0}
IsThere (Holding n) = Unit {0}

-- all acts are what some pass sees, which was not taken in by another
abbrev pub IsLongest : {O C R : Type 0} → List (Act C R) → List (Known O C R) → Type 0
IsLongest {O} {C} {R} log views = (seat : ℕ) × (v : Known O C R) × (get_elem? views seat ≡ some v) × IsThere v.stage × (v.seen ≡ log)

module _ {B O C R : Type 0} where
  -- a ticket was drawn
  abbrev pub drew : Step (Option (Kept B)) → Me (Option (Kept B)) (Known O C R) → ℕ → Me (Option (Kept B)) (Known O C R) → Type 0
  drew st m found m' = (t : ℕ) × (wrapped t ≡ found) × (m' ≡ (at_stage m.0 (Waiting t), m.1))

  abbrev pub LeftAt : (B → List (Act C R)) → Known O C R → List (ℕ × Option (Kept B)) → Me (Option (Kept B)) (Known O C R) → Type 0
  LeftAt acts_of v [] m' = Unit {0}
  LeftAt acts_of v ((i, None) ∷ xs) m' = Unit {0}
  LeftAt acts_of v ((i, Some k) ∷ xs) m' = m' ≡ (back_with v (acts_of k.book.value), xs)

  -- the book went home
  abbrev pub left : (B → List (Act C R)) → Step (Option (Kept B)) → Me (Option (Kept B)) (Known O C R) → ℕ
      → Me (Option (Kept B)) (Known O C R) → Type 0
  left acts_of st m found m' = LeftAt acts_of m.0 m.1 m'

module _ {B O C R : Type 0} (opening_of : B → O) (acts_of : B → List (Act C R)) where
  -- the book stands for these acts, and the turns so far are the acts and those turns that made none
  pub record StandsFor (o : O) (log : List (Act C R)) (turns : ℕ) (k : Kept B) : Type 0 where
    pub opening_is : opening_of k.book.value ≡ o
    pub acts_are : acts_of k.book.value ≡ log
    pub turns_are : wrapped (length log + k.idle) ≡ wrapped turns

  -- the book is at home, or out with the pass whose ticket is served
  abbrev pub IsPlaced : O → List (Act C R) → ℕ → List (Known B C R) → Bool → List (Maybe (Option (Kept B))) → Type 0
  IsPlaced o log served views false homes = (k : Kept B) × (homes ≡ some (Some k) ∷ []) × StandsFor o log served k
  IsPlaced o log served views true homes =
      (homes ≡ none ∷ []) × ((seat : ℕ) × (v : Known B C R) × (get_elem? views seat ≡ some v) × (v.stage ≡ Holding served))

  pub record IsCourse (legal : O → List (Act C R) → Type 0) (b0 : B) (g : Course C R)
      (s : State (Option (Kept B)) (Known B C R)) : Type 0 where
    pub words : s.words ≡ wrapped g.drawn ∷ wrapped g.served ∷ []
    pub ordered : g.served ≤ g.drawn
    -- each ticket between is with one pass
    pub queue : (t : ℕ) → g.served ≤ t → t < g.drawn
        → (seat : ℕ) × (v : Known B C R) × (get_elem? s.views seat ≡ some v) × (v.number ≡ g.drawer t) × IsOut t v.stage
    pub seats : (seat : ℕ) (v : Known B C R) → get_elem? s.views seat ≡ some v → Knows b0 g seat v v.stage
    pub longest : IsLongest g.log s.views
    pub is_legal : legal (opening_of b0) g.log
    pub no_others : (n : ℕ) → is_among n g.numbers ≡ false → acts_by n g.log ≡ []
    pub placed : IsPlaced (opening_of b0) g.log g.served s.views g.is_out s.homes

  -- the rule
  abbrev pub Turning : (O → List (Act C R) → Type 0) → B → State (Option (Kept B)) (Known B C R) → Type 0
  Turning legal b0 s = (g : Course C R) × IsCourse legal b0 g s

  -- the turn t came: all acts are seen, and the book stands for them
  pub record IsTurn (legal : O → List (Act C R) → Type 0) (v w : Known B C R) (t : ℕ) (k : Kept B) : Type 0 where
    pub known : w ≡ with_book v w.seen t
    pub goes_on : StartsWith w.seen v.seen
    pub is_legal : legal (opening_of k.book.value) w.seen
    pub opening_is : (b : B) × (v.opening ≡ b ∷ []) × (opening_of b ≡ opening_of k.book.value)
    pub stands : StandsFor (opening_of k.book.value) w.seen t k

  -- the book came out if the ticket is served, and else nothing is new
  abbrev pub looked : (O → List (Act C R) → Type 0) → Step (Option (Kept B)) → Me (Option (Kept B)) (Known B C R) → ℕ
      → Me (Option (Kept B)) (Known B C R) → Type 0
  looked legal st m found m' = (t : ℕ) → m.0.stage ≡ Waiting t
      → (wrapped t ≡ found → (k : Kept B) × IsTurn legal m.0 m'.0 t k × (m'.1 ≡ (0, Some k) ∷ m.1)) × ((wrapped t ≡ found → ⊥) → m' ≡ m)

  -- the book is given back in the turn t: it stands for all acts that were seen and those of `fresh`, which the pass made
  pub record GoesHome (legal : O → List (Act C R) → Type 0) (v : Known B C R) (t : ℕ) (fresh : List (Act C R)) (k : Kept B) : Type 0 where
    pub holds : v.stage ≡ Holding t
    pub added : acts_of k.book.value ≡ v.seen ++ fresh
    pub mine : Each (λ (e : Act C R). e.source ≡ v.number) fresh
    pub opening_is : (b : B) × (v.opening ≡ b ∷ []) × (opening_of b ≡ opening_of k.book.value)
    pub is_legal : legal (opening_of k.book.value) (acts_of k.book.value)
    pub turns : wrapped (length (acts_of k.book.value) + k.idle) ≡ wrapped (t + 1)

  -- one turn on the book: an act at its end, or one more turn that made none
  pub record IsOneTurn (legal : O → List (Act C R) → Type 0) (fresh : List (Act C R)) (k k' : Kept B) : Type 0 where
    pub opening_is : opening_of k'.book.value ≡ opening_of k.book.value
    pub added : acts_of k'.book.value ≡ acts_of k.book.value ++ fresh
    pub is_legal : legal (opening_of k.book.value) (acts_of k.book.value) → legal (opening_of k.book.value) (acts_of k'.book.value)
    pub turns : wrapped (length (acts_of k'.book.value) + k'.idle) ≡ wrapped ((length (acts_of k.book.value) + k.idle) + 1)
