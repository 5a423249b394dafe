-- What the listener says of its value holds of the meter's.
use Rattle.std.proofs.Common.{sym, subst}
use Rattle.frame_formats.specs.Crc.{IsBytes}
use Rattle.meter_side_main.specs.Side.{Side}
use Rattle.meter_side_main.proofs.Executing.{stands_more}
use Rattle.meter_side_main.proofs.side.MeterSide.hear.Goals as goal

pub returns-clause-executed : goal.returns-clause-executed
returns-clause-executed c =
    rw (← c.self.view_is, ← c.bytes.ensures.bytes)
    (c.hear-did.ensures.executed (subst IsBytes (sym c.bytes.ensures.bytes) c.bytes.ensures.each))

pub returns-clause-refused : goal.returns-clause-refused
returns-clause-refused c =
    rw (← c.self.view_is, ← c.bytes.ensures.bytes)
    (c.hear-did.ensures.refused (subst IsBytes (sym c.bytes.ensures.bytes) c.bytes.ensures.each))

pub returns-clause-stands : goal.returns-clause-stands
returns-clause-stands c =
    let l = c.self.inside.listener in
    let s : Side = record { own = l.own; commission = l.commission; last = l.last; executed = c.self.inside.executed.items } in
    let each : IsBytes c.bytes.result.now = subst IsBytes (sym c.bytes.ensures.bytes) c.bytes.ensures.each in
    rw (← c.self.view_is, ← c.bytes.ensures.bytes, c.note.ensures, c.in_ok-reserve.ensures.items, c.hear-did.ensures.last)
    (λ ds h. stands_more s c.hear-did.result c.bytes.result.now ds c.self.invariant each c.hear-did.ensures.did h)
