-- The law that the orders of a report can be read again from its text.
use Rattle.std.specs.Prelude.{ℕ, ◌≡◌, ◌<◌, ◌^◌, List, map}
use Rattle.std.specs.List.{All}
use Rattle.stranger_ring.specs.declared.strangers.Heard.{Heard}
use Rattle.meter_slots.specs.declared.entry.Entry.{Entry}
use Rattle.meter_slots.specs.Journal.{SlotView}
use Rattle.report_text.specs.declared.lent.ReceiverEnd.{ReceiverEnd}
use Rattle.report_text.specs.Orders.{Orders, orders}
use Rattle.report_text.specs.Report.{report_text}

-- the numbers of a receiver and of its line fit 32 bits, in which the collector counts them
abbrev pub IsCounted : ℕ × ℕ → Type 0
IsCounted pair = (pair.0 < 2 ^ 32) × (pair.1 < 2 ^ 32)

abbrev pub place_of_step : Entry → ℕ × ℕ
place_of_step e = (e.source, e.line)

abbrev pub place_of_stranger : Heard → ℕ × ℕ
place_of_stranger h = (h.source, h.line)

abbrev pub order_of : SlotView → List (ℕ × ℕ)
order_of b = map place_of_step b.journal

-- the orders of which a report is made: the steps of each slot's journal, and the strangers' lines
abbrev pub orders_of : List SlotView → List Heard → Orders
orders_of slots heard = record { meters = map order_of slots; strangers = map place_of_stranger heard }

abbrev pub OrdersAreTold : Type 0
OrdersAreTold = (ends : List ReceiverEnd) (slots : List SlotView) (heard : List Heard)
    → All (λ order. All IsCounted order) (orders_of slots heard).meters → All IsCounted (orders_of slots heard).strangers
    → orders (report_text ends slots heard) ≡ orders_of slots heard
