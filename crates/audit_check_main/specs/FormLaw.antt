-- The law that a report's lines stand in their lists.
use Rattle.std.specs.Prelude.{ℕ, ◌≤◌, List, length, reverse}
use Rattle.std.specs.List.{All}
use Rattle.stranger_ring.specs.declared.strangers.Heard.{Heard}
use Rattle.meter_slots.specs.Journal.{SlotView}
use Rattle.report_text.specs.declared.lent.ReceiverEnd.{ReceiverEnd}
use Rattle.report_text.specs.Orders.{lines_in}
use Rattle.report_text.specs.OrdersLaw.{IsCounted, orders_of}
use Rattle.report_text.specs.Report.{report_text}
use Rattle.audit_check_main.specs.Lists.{AreInForm}

-- in the report of as many slots as there are meters, or of fewer, no line is out of form
abbrev pub ReportsAreInForm : Type 0
ReportsAreInForm = (meters : ℕ) (ends : List ReceiverEnd) (slots : List SlotView) (heard : List Heard) → length slots ≤ meters
    → All (λ order. All IsCounted order) (orders_of slots heard).meters → All IsCounted (orders_of slots heard).strangers
    → AreInForm meters (reverse (lines_in (report_text ends slots heard)))
