use Rattle.std.proofs.Common.{◌≡◌, ◌<◌, arith}
use Rattle.full_text.proofs.ZerosPut.{zero_more, no_zeros}
use Rattle.full_text.proofs.decimals.put_zeros.Goals as goal

pub zeros-preserved : goal.zeros-preserved
zeros-preserved g c =
    let some : 0 < c.zeros.left = omega (arith, c.zeros-test.true) in
    λ q later. c.zeros.invariant q (zero_more c.zeros.left some c.put_text.ensures later)

pub returns : goal.returns
returns g c =
    let none : c.zeros.left ≡ 0 = omega (arith, c.zeros-test.false) in
    c.zeros.invariant _ (no_zeros c.zeros.left none)
