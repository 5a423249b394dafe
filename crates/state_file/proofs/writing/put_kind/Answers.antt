use Rattle.std.proofs.Common.{◌≡◌, ◌+◌, ◌-◌, arith}
use Rattle.afl_fragments.specs.Held.{held}
use Rattle.state_file.proofs.StatePieces.{kind_step}
use Rattle.state_file.proofs.writing.put_kind.Goals as goal

pub parts-preserved : goal.parts-preserved
parts-preserved g c =
    let up : (c.parts.left - 1) + 1 ≡ c.parts.left = (let some = c.parts-test.true in omega arith) in
    kind_step c.args.fresh (held c.args.known.now.told) (c.parts.left - 1) c.parts.left _ c.parts.any c.put_if_kind-one.result _ up
    c.parts.invariant.2 c.part_at.ensures.held c.parts.invariant.0 c.put_if_kind-one.ensures.puts c.parts.invariant.1
    c.put_if_kind-one.ensures.is c.either-any.ensures
