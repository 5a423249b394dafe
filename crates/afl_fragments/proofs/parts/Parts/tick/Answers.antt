use Rattle.std.proofs.Common.{ap, sym, ◌∙◌, List, map, arith}
use Rattle.afl_fragments.specs.declared.places.HeldPart.{HeldPart}
use Rattle.afl_fragments.specs.Places.{aged, older, held_in}
use Rattle.afl_fragments.proofs.Holding.{held-tick}
use Rattle.afl_fragments.proofs.PlaceLaws.{aged_places, aged_ordered}
use Rattle.afl_fragments.proofs.parts.Parts.tick.Goals as goal

pub invariant_of-self : goal.invariant_of-self
invariant_of-self c = (
  rw (c.grow_older.ensures, c.keep_fresh.ensures.left) (aged_ordered c.self.inside.places c.self.inside.order.items c.self.invariant.0),
  omega (arith, c.keep_fresh.ensures.room, c.self.invariant.1),
)

pub returns : goal.returns
returns c told h =
    ap (λ (ps : List HeldPart). held_in ps c.keep_fresh.new.order.items) c.grow_older.ensures
    ∙ ap (held_in (map older c.self.inside.places)) c.keep_fresh.ensures.left
    ∙ aged_places c.self.inside.places c.self.inside.order.items c.self.invariant.0
    ∙ ap aged (c.self.view_is ∙ h) ∙ sym (held-tick told)
