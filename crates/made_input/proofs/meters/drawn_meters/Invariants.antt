use Rattle.std.proofs.Common.{◌≡◌, ◌*◌, map}
use Rattle.std.specs.List.{range_with_len}
use Rattle.made_input.specs.Draws.{state_after}
use Rattle.made_input.specs.Meters.{meter_at}
use Rattle.made_input.proofs.meters.drawn_meters.Given as goal

abbrev pub invariant-loop-place : goal.invariant-loop-place
invariant-loop-place l =
    (l.draws.state ≡ state_after (4 * l.place) l.number) × (l.meters.items ≡ map (meter_at l.number) (range_with_len 0 l.place))
