-- The order of a journal, which the report prints: of each entry the receiver, and the number of its line there.
use Rattle.std.specs.Prelude.{ℕ, ◌≡◌, ◌==◌, List, map, filter}
use Rattle.meter_address.specs.declared.address.Address.{Address}
use Rattle.meter_slots.specs.declared.entry.Entry.{Entry}
use Rattle.meter_slots.specs.Journal.{Start, SlotView}
use Rattle.stranger_ring.specs.declared.strangers.Heard.{Heard}
use Rattle.receivers.specs.declared.told.Told.{Told}
use Rattle.receivers.specs.Session.{heard_by, lines_for, lines_of_strangers, notes_by, IsMetersSlot}

abbrev pub order_of : List Entry → List (ℕ × ℕ)
order_of journal = map (λ x. (x.source, x.line)) journal

-- the numbers of one receiver's lines in an order
abbrev pub numbers_by : ℕ → List (ℕ × ℕ) → List ℕ
numbers_by w order = map (λ p. p.1) (filter (λ p. p.0 == w) order)

-- an order of a meter's own lines: of each receiver it has just these lines' numbers, each once and in that receiver's order
abbrev pub IsOrderOf : Address → List (List Told) → List (ℕ × ℕ) → Type 0
IsOrderOf a all order = (w : ℕ) → numbers_by w order ≡ map (λ l. l.0) (lines_for a (heard_by w all))

-- a meter's slot after a session whose journal has this order
pub record IsOrderedSlot (own : Address) (all : List (List Told)) (c : Start) (order : List (ℕ × ℕ)) (slot : SlotView) : Type 0 where
  pub meters : IsMetersSlot own all c slot
  pub in_order : order_of slot.journal ≡ order

-- ---- strangers

abbrev pub order_of_strangers : List Heard → List (ℕ × ℕ)
order_of_strangers heard = map (λ h. (h.source, h.line)) heard

-- an order of the strangers' lines
abbrev pub IsOrderOfStrangers : List Start → List (List Told) → List (ℕ × ℕ) → Type 0
IsOrderOfStrangers commissions all order = (w : ℕ) → numbers_by w order ≡ map (λ l. l.0) (lines_of_strangers commissions (heard_by w all))

-- a strangers' list that has this order
pub record AreOrderedStrangers
    (commissions : List Start) (all : List (List Told)) (order : List (ℕ × ℕ)) (heard : List Heard) : Type 0 where
  pub lines : (w : ℕ) → notes_by w heard ≡ lines_of_strangers commissions (heard_by w all)
  pub in_order : order_of_strangers heard ≡ order
