use Rattle.std.proofs.Common.{rules, ◌≡◌, ◌<◌, ℕ, [], ◌∷◌, ◌++◌, length, get_or, ◌∙◌}
use Rattle.meter_slots.specs.Journal.{commission_of}
use Rattle.meter_slots.proofs.Starting.{mapped_more}
use Rattle.input_check.proofs.states.commissions.Goals as goal

pub loop-place-preserved : goal.loop-place-preserved
loop-place-preserved c =
    let place : ℕ = c.loop-place.place in let starts = c.args.starts.now in let d = c.index-starts-place.result in
    let inside : place < length starts = search rules in
    let pushed : c.push.new.self.items ≡ c.loop-place.meters.items ++ c.commission.result ∷ [] = search rules in
    let one : c.commission.result ≡ commission_of (get_or starts place d) = search rules in
    pushed ∙ mapped_more commission_of starts place d c.loop-place.meters.items c.commission.result inside c.loop-place.invariant one
