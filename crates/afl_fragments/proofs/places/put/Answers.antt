use Rattle.std.proofs.Common.{◌≡◌, ℕ, ◌-◌, ◌+◌, ◌≤◌, ap, ◌∙◌, arith, List, set, ◌∷◌, length}
use Rattle.afl_fragments.specs.declared.places.HeldPart.{HeldPart}
use Rattle.afl_fragments.specs.Places.{held_in}
use Rattle.afl_fragments.proofs.PlaceLaws.{placed, placed_ordered, others_few}
use Rattle.afl_fragments.proofs.places.put.Goals as goal

at_its_place : (fid wanted : ℕ) → fid ≡ wanted → 1 ≤ wanted → wanted ≡ (fid - 1) + 1
at_its_place fid wanted same first = omega arith

pub put_first-requires : goal.put_first-requires
put_first-requires c =
    let same = ap (λ a. a.fid) c.afl-place.ensures.header in
    let few =
    others_few c.args.places.now c.args.order.now.items (c.afl-place.result.fid - 1) c.args.part c.requires.ordered
    (omega (arith, same, c.requires.counted)) (at_its_place _ _ same c.afl-place.ensures.first) in
    omega (arith, ap length c.leave_out.ensures.left, few, c.leave_out.ensures.room, c.requires.room)

pub returns-clause-ordered : goal.returns-clause-ordered
returns-clause-ordered c =
    let same = ap (λ a. a.fid) c.afl-place.ensures.header in
    rw (c.put_first.ensures.first, c.leave_out.ensures.left)
    (placed_ordered c.args.places.now c.args.order.now.items (c.afl-place.result.fid - 1) c.args.part c.requires.ordered
    (omega (arith, same, c.requires.counted)) (at_its_place _ _ same c.afl-place.ensures.first))

pub returns-clause-held : goal.returns-clause-held
returns-clause-held c =
    let same = ap (λ a. a.fid) c.afl-place.ensures.header in
    let place = c.afl-place.result.fid - 1 in
    let after : List HeldPart = set c.args.places.now place (record { ticks = 0; part = c.args.part }) in
    ap (held_in after) (c.put_first.ensures.first ∙ ap (λ is. place ∷ is) c.leave_out.ensures.left)
    ∙ placed c.args.places.now c.args.order.now.items place c.args.part c.requires.ordered (omega (arith, same, c.requires.counted))
    (at_its_place _ _ same c.afl-place.ensures.first)
