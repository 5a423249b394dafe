use Rattle.std.proofs.Common.{length, sym, arith}
use Rattle.meter_side_main.proofs.Agreeing.{agreeing_to}
use Rattle.meter_side_main.proofs.layers.agreeing.Goals as goal

pub returns-then-want-place : goal.returns-then-want-place
returns-then-want-place c =
    sym (agreeing_to c.args.want.now c.args.have.now c.loop-place.place (omega arith)
    c.requires c.loop-place.invariant (λ l. c.if-want-place.true))

pub returns : goal.returns
returns c =
    sym (agreeing_to c.args.want.now c.args.have.now (length c.args.want.now) (omega arith) c.requires
    (λ k h. c.loop-place.invariant k (omega arith)) (λ l. absurd (omega arith)))
