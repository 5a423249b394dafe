use Rattle.std.proofs.Common.{rules, ◌≡◌, [], ◌∷◌, ◌++◌}
use Rattle.std.specs.Map.{values_of}
use Rattle.line_accept.proofs.Places.{fence_more, fences_end}
use Rattle.line_accept.proofs.senders.Senders.fences.Goals as goal

pub loop-place-preserved : goal.loop-place-preserved
loop-place-preserved c =
    let pushed : c.push.new.self.items ≡ c.loop-place.fences.items ++ c.index.result.now ∷ [] = search rules in
    fence_more (values_of c.self.inside.fences.entries) c.loop-place.fences.items c.push.new.self.items c.loop-place.place c.index.result.now
    c.loop-place.invariant c.index.ensures pushed

pub returns : goal.returns
returns c =
    fences_end (λ k. k.items) c.self.inside.fences.entries c.args.self.now c.loop-place.fences.items c.loop-place.place c.self.view_is
    c.loop-place.invariant (search rules)
