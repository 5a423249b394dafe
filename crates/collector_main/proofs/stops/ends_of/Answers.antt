use Rattle.std.proofs.Common.{rules, ◌≡◌, ◌<◌, ℕ, [], ◌∷◌, ◌++◌, take, length, get_or, subst, sym}
use Rattle.std.proofs.lemmas.List.{take_more}
use Rattle.lists.specs.Each.{EachWith}
use Rattle.lists.proofs.Members.{with_push}
use Rattle.collector_main.specs.Ready.{IsEndOf}
use Rattle.collector_main.proofs.stops.ends_of.Goals as goal

pub loop-place-preserved : goal.loop-place-preserved
loop-place-preserved g c =
    let place : ℕ = c.loop-place.place in let receivers = c.args.receivers.now in let d = c.index-receivers-place.result in
    let inside : place < length receivers = search rules in
    let pushed : c.push.new.self.items ≡ c.loop-place.ends.items ++ c.in_ok-end.end ∷ [] = search rules in
    subst (λ l. EachWith IsEndOf l c.push.new.self.items) (sym (take_more receivers place d inside))
    (subst (λ t. EachWith IsEndOf (take place receivers ++ get_or receivers place d ∷ []) t) (sym pushed)
    (with_push IsEndOf (take place receivers) c.loop-place.ends.items (get_or receivers place d) c.in_ok-end.end c.loop-place.invariant
    (search rules)))
