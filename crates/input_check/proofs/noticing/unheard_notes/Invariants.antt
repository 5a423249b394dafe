use Rattle.std.proofs.Common.{◌≡◌, take}
use Rattle.input_check.specs.Counting.{was_counted}
use Rattle.input_check.specs.Noticing.{notes_on_unheard}
use Rattle.input_check.proofs.noticing.unheard_notes.Given as goal

abbrev pub invariant-loop-meter : goal.invariant-loop-meter
invariant-loop-meter l =
    l.notes.items ≡ notes_on_unheard (was_counted l.heard.entries) (was_counted l.known.entries) (take l.meter-index l.meters)
