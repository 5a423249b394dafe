-- Passes, one for each cell, and what is made with them.
use Rattle.std.specs.Prelude.{◌≡◌, ℕ, ◌<◌, List, ◌++◌, map, length, filter, ◌==◌, slice_index_or}
use Rattle.meter_slots.specs.declared.entry.Event.{Event}
use Rattle.meter_slots.specs.declared.entry.Outcome.{Outcome}
use Rattle.meter_address.specs.declared.address.Address.{Address}
use Rattle.book_cells.specs.declared.act.Act.{Act}
use Rattle.book_cells.specs.Acts.{act, Shown, CellShown, IsPassOf, IsSamePass}
use Rattle.receivers.specs.Classes.{OwnLine, StrangeLine}

-- ---- what is made on the cells

-- a meter's own line that was answered
pub record Answered : Type 0 where
  pub own : OwnLine
  pub outcome : Outcome

abbrev pub act_by : ℕ → Answered → Act Event Outcome
act_by source d = act source d.own.line d.own.event d.outcome

-- what was made at a place
abbrev pub acts_at : ℕ → ℕ → List Answered → List (Act Event Outcome)
acts_at source place did = map (act_by source) (filter (λ d. d.own.place == place) did)

abbrev pub note_by : ℕ → StrangeLine → Act Address Unit
note_by source s = act source s.line s.address tt

-- ---- passes

-- the passes of a receiver: one of each slot's cell, and one of the strangers'
pub record Crew (O P : Type 0) : Type 0 where
  pub passes : List (Shown O Event Outcome)
  pub stranger_pass : Shown P Address Unit

abbrev pub crew : {O P : Type 0} → List (Shown O Event Outcome) → Shown P Address Unit → Crew O P
crew passes stranger_pass = record { passes = passes; stranger_pass = stranger_pass }

module _ {O C R : Type 0} where
  -- each cell has its pass, at the same place
  pub record ArePassesOf (cells : List (CellShown O)) (passes : List (Shown O C R)) : Type 0 where
    pub as_many : length passes ≡ length cells
    pub each : (k : ℕ) (c : CellShown O) (p : Shown O C R) → k < length passes
        → IsPassOf (slice_index_or cells k c) (slice_index_or passes k p)

  -- the pass made these acts more
  pub record HasMade (acts : List (Act C R)) (p q : Shown O C R) : Type 0 where
    pub same : IsSamePass p q
    pub own : q.own ≡ p.own ++ acts
    pub joined : q.joined ≡ p.joined
    pub handed : q.handed ≡ p.handed

module _ {O : Type 0} where
  -- each pass made what was answered at its place
  pub record HaveAnswered (did : List Answered) (before after : List (Shown O Event Outcome)) : Type 0 where
    pub as_many : length after ≡ length before
    pub each : (k : ℕ) (d : Shown O Event Outcome) → k < length before
        → HasMade (acts_at (slice_index_or before k d).number k did) (slice_index_or before k d) (slice_index_or after k d)

  -- the pass noted these strangers' lines
  abbrev pub HasNoted : List StrangeLine → Shown O Address Unit → Shown O Address Unit → Type 0
  HasNoted lines p q = HasMade (map (note_by p.number) lines) p q
