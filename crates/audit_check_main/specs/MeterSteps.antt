-- Words of private contracts: a meter's slot whose steps are put one by one, and are then let go.
use Rattle.std.specs.Prelude.{ℕ, ◌≡◌, [], ◌∷◌, ◌++◌, length, reverse, Option, Some, None}
use Rattle.meter_slots.specs.declared.entry.Event.{Event}
use Rattle.meter_slots.specs.declared.reading.Reading.{Reading}
use Rattle.meter_slots.specs.Journal.{SlotView, outcome, readings}
use Rattle.meter_slots.specs.Passing.{IsAfter}
use Rattle.paper.specs.Puts.{Puts}
use Rattle.report_text.specs.Report.{last_reading, steps_text}
use Rattle.audit_check_main.specs.declared.meter_steps.MeterSteps.{MeterSteps}
use Rattle.audit_check_main.specs.Comparing.{Compared, Compares}

-- the last reading after one that there may be
abbrev pub later_reading : Option Reading → Option Reading → Option Reading
later_reading last None = last
later_reading last (Some reading) = Some reading

-- a slot after one more step
abbrev pub stepped : SlotView → (source line : ℕ) → Event → SlotView
stepped slot source line event = record slot {
  journal = slot.journal ++ record {
    source = source;
    line = line;
    event = event;
    outcome = outcome slot.start slot.own (reverse slot.journal) event;
  } ∷ [];
}

-- what is kept of this slot, whose steps were put
pub record HasStepped (slot : SlotView) (start : Compared) (kept : MeterSteps) (now : Compared) : Type 0 where
  pub address_is : kept.address ≡ slot.start.address
  pub mode_is : kept.mode ≡ slot.start.mode
  pub own_is : kept.slot.own ≡ slot.own
  pub same_start : kept.slot.start ≡ slot.start
  pub after : IsAfter slot.journal kept.slot
  pub steps_are : kept.steps ≡ length slot.journal
  pub readings_are : kept.readings ≡ length (readings slot.start slot.journal)
  pub last_is : kept.last ≡ last_reading (readings slot.start slot.journal)
  pub put : Puts Compares start (steps_text (readings slot.start slot.journal) slot.journal) now
