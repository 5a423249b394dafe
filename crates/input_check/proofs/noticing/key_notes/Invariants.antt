use Rattle.std.proofs.Common.{◌≡◌, take, flat_map}
use Rattle.meter_address.specs.Commission.{Commissioned}
use Rattle.input_check.specs.Noticing.{note_if, key_hint}
use Rattle.input_check.proofs.noticing.key_notes.Given as goal

abbrev pub invariant-loop-meter : goal.invariant-loop-meter
invariant-loop-meter l =
    l.notes.items ≡ flat_map (λ (m : Commissioned). note_if m.address (key_hint l.meters m)) (take l.meter-index l.meters)
