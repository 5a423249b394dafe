use Rattle.std.proofs.Common.{ap, ◌∙◌, ◌++◌, ◌∷◌, []}
use Rattle.stranger_ring.specs.declared.strangers.Heard.{Heard}
use Rattle.stranger_ring.proofs.Rings.{next_ring}
use Rattle.stranger_ring.proofs.strangers.Strangers.note.Goals as goal

pub invariant_of-self-2 : goal.invariant_of-self-2
invariant_of-self-2 c =
    let heard : Heard = record { source = c.args.source; line = c.args.line; address = c.args.address } in
    next_ring c.self.inside.heard.items c.push_reserved.new.self.items heard c.self.inside.ring c.push.new.self c.self.invariant
    c.in_ok-push.ensures.ok (c.push_reserved.ensures.items ∙ ap (λ xs. xs ++ heard ∷ []) c.reserve.ensures.items)
