use Rattle.std.proofs.Common.{◌≤◌, ◌<◌, ◌+◌, length, refl, arith}
use Rattle.input_check.specs.declared.faulty.FaultyLine.{FaultyLine}
use Rattle.input_check.specs.declared.faulty.FaultyLines.{FaultyLines}
use Rattle.input_check.proofs.Kept.{held_room, held_full}
use Rattle.input_check.proofs.faulty.FaultyLines.add.Goals as goal

pub returns-then-len-ge-MOST_SHOWN-clause-holds : goal.returns-then-len-ge-MOST_SHOWN-clause-holds
returns-then-len-ge-MOST_SHOWN-clause-holds c faults addresses holds =
    let x : FaultyLine = record { line = c.args.line; fault = c.in-Err.fault } in
    let new : FaultyLines = record { first = c.args.self.now.first; count = c.args.self.now.count + 1; heard = c.args.self.now.heard } in
    let full : 100 ≤ length c.args.self.now.first.items = omega (arith, c.if-len-ge-MOST_SHOWN.true, c.len.ensures) in
    rw c.in-Err.is (held_full faults addresses x c.args.self.now new full refl refl refl holds)

pub returns-clause-holds : goal.returns-clause-holds
returns-clause-holds c faults addresses holds =
    let x : FaultyLine = record { line = c.args.line; fault = c.in-Err.fault } in
    let new : FaultyLines = record { first = c.push-2.new.self; count = c.args.self.now.count + 1; heard = c.args.self.now.heard } in
    let room : length c.args.self.now.first.items < 100 = omega (arith, c.if-len-ge-MOST_SHOWN.false, c.len.ensures) in
    rw c.in-Err.is (held_room faults addresses x c.args.self.now new room c.in_ok-push.ensures.items refl refl holds)
