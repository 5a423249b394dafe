use Rattle.std.proofs.Common.{◌*◌, ℕ, List, None, ap, ◌∙◌, refl, arith}
use Rattle.meter_address.specs.declared.address.Address.{Address}
use Rattle.meter_address.specs.declared.commission.Mode.TheVariants.{Seven}
use Rattle.meter_address.specs.Commission.{Commissioned}
use Rattle.made_input.specs.Draws.{state_after}
use Rattle.made_input.specs.Meters.{address_at, meter_at}
use Rattle.made_input.proofs.Hearing.{item_pushed}
use Rattle.made_input.proofs.meters.drawn_meters.Goals as goal

pub loop-place-init : goal.loop-place-init
unfolding state_after
loop-place-init c = (refl, c.new-meters.ensures.items)

abbrev meter_with : Address → List ℕ → Commissioned
meter_with address key = record { address = address; mode = Seven; key = key; other = None; last = None; down = 0; ids = 0 }

pub loop-place-preserved : goal.loop-place-preserved
loop-place-preserved c =
    let place = c.loop-place.place in
    let number = c.args.number in
    let before = c.loop-place.invariant.0 in
    let state = c.key.ensures.state number (4 * place) before ∙ ap (λ n. state_after n number) (omega arith) in
    let meter = ap (λ a. meter_with a c.key.result) c.address_at.ensures
    ∙ ap (meter_with (address_at place)) (c.key.ensures.key number (4 * place) before) in (
      state,
      item_pushed (meter_at number) 0 place place c.loop-place.meters.items _ _ c.loop-place.invariant.1
          (omega arith) c.in_ok-push.ensures.items meter,
    )
