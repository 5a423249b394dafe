use Rattle.std.proofs.Common.{ap, ◌∙◌, map}
use Rattle.std.proofs.lemmas.List.{take_all}
use Rattle.meter_slots.proofs.Starting.{mapped_more}
use Rattle.meter_slots.proofs.start.addresses_of.Goals as goal

pub loop-place-init : goal.loop-place-init
loop-place-init c = c.new-addresses.ensures.items

pub loop-place-preserved : goal.loop-place-preserved
loop-place-preserved c =
    c.in_ok-push.ensures.items
    ∙ mapped_more (λ s. s.address) c.args.starts.now c.loop-place.place c.index-starts-place.result c.loop-place.addresses.items c.address.result
    c.loop-place-test.true c.loop-place.invariant (c.address.ensures ∙ ap (λ s. s.address) c.index-starts-place.is)

pub returns : goal.returns
returns c = c.loop-place.invariant ∙ ap (map (λ s. s.address)) (take_all c.loop-place.place c.args.starts.now c.loop-place-test.false)
