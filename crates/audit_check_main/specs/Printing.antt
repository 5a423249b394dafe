-- Words of private contracts: the report of a session that is compared with a text, a slot at a time.
use Rattle.std.specs.Prelude.{ℕ, List, [], map, length, slice_index_or}
use Rattle.std.specs.List.{flat_map}
use Rattle.meter_address.specs.declared.address.Address.{Address}
use Rattle.paper.specs.Puts.{Puts}
use Rattle.meter_slots.specs.Journal.{Start, SlotView}
use Rattle.meter_slots.specs.declared.counts.Ended.TheVariants as ends
use Rattle.lists.specs.Each.{Each}
use Rattle.stranger_ring.specs.declared.strangers.Heard.{Heard}
use Rattle.receivers.specs.declared.told.Told.{Told}
use Rattle.receivers.specs.Orders.{IsOrderedSlot, AreOrderedStrangers}
use Rattle.report_text.specs.declared.lent.ReceiverEnd.{ReceiverEnd}
use Rattle.report_text.specs.Report.{meter_text, report_text}
use Rattle.state_file.specs.Left.{IsLeft, slot_block}
use Rattle.audit_check_main.specs.Comparing.{Compared, Compares}
use Rattle.audit_check_main.specs.Hearing.{HeardInput, tells}
use Rattle.audit_check_main.specs.Leaving.{IsReadBack, left_text}
use Rattle.audit_check_main.specs.Stepping.{AreOrderedSlots}

-- a receiver that heard an input to its end
abbrev pub end_of : HeardInput → ReceiverEnd
end_of h = record { counts = h.counts; ended = ends.End }

-- the report that is compared, and the state
pub record Papers : Type 0 where
  pub report : Compared
  pub next : Compared

-- what the report says of a meter is put, after its lines in this order of them, and what is left of it, which can be told
pub record IsMeterPut (own : Address) (all : List (List Told)) (c : Start) (order : List (ℕ × ℕ)) (old new : Papers) : Type 0 where
  pub slot : SlotView
  pub so : IsOrderedSlot own all c order slot
  pub put : Puts Compares old.report (meter_text slot) new.report
  pub told : IsLeft slot
  pub left : Puts Compares old.next (slot_block slot) new.next

-- what the report says of each meter is put, after its lines in the order of its list, and what is left of it
pub record AreMetersPut (own : Address) (all : List (List Told)) (meters : List Start) (lists : List (List (ℕ × ℕ)))
    (old new : Papers) : Type 0 where
  pub slots : List SlotView
  pub so : AreOrderedSlots own all meters lists slots
  pub put : Puts Compares old.report (flat_map meter_text slots) new.report
  pub told : Each IsLeft slots
  pub left : Puts Compares old.next (flat_map slot_block slots) new.next

-- the report of the session of some orders is put, and the state that it leaves
pub record IsSessionPut (own : Address) (meters : List Start) (heard : List HeardInput) (lists : List (List (ℕ × ℕ)))
    (old new : Papers) : Type 0 where
  pub slots : List SlotView
  pub strangers : List Heard
  pub so : AreOrderedSlots own (map tells heard) meters lists slots
  pub noted : AreOrderedStrangers meters (map tells heard) (slice_index_or lists (length meters) []) strangers
  pub put : Puts Compares old.report (report_text (map end_of heard) slots strangers) new.report
  pub read_back : IsReadBack own slots
  pub left : Puts Compares old.next (left_text own slots) new.next
