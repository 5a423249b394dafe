use Rattle.std.proofs.Common.{◌-◌, List, length, ap, sym, ◌∙◌}
use Rattle.std.specs.Prelude.{slice_get}
use Rattle.meter_slots.specs.declared.reading.Reading.{Reading}
use Rattle.meter_slots.specs.Journal.{SlotView}
use Rattle.meter_slots.specs.Resuming.{last_of, last_known}
use Rattle.meter_slots.proofs.Starting.{last_of-last}
use Rattle.meter_slots.proofs.book.SlotBook.last_reading.Goals as goal

pub returns-in-Some : goal.returns-in-Some
returns-in-Some c =
    let b = c.self.inside in
    sym (last_of-last b.start.value.reading b.readings.items c.in-Some.reading.now
    (c.in-Some.ensures.value ∙ ap (λ (rs : List Reading). slice_get rs (length rs - 1)) c.deref.ensures.value))
    ∙ ap (last_of b.start.value.reading) c.self.invariant.0.readings_are
    ∙ ap (λ (v : SlotView). last_known v.start v.journal) c.self.view_is
