use Rattle.std.proofs.Common.{◌≡◌, length, sym, ◌∙◌, arith}
use Rattle.full_spans.proofs.Found.{behind-end, behind-filler, behind-other}
use Rattle.full_spans.proofs.walk.behind_fillers.Goals as goal

pub returns-then-bytes-place-ne-FILLER-clause-value : goal.returns-then-bytes-place-ne-FILLER-clause-value
returns-then-bytes-place-ne-FILLER-clause-value c =
    sym (behind-other c.loop-place.place c.args.bytes.now c.loop-place-test.true c.if-bytes-place-ne-FILLER.true) ∙ c.loop-place.invariant

pub loop-place-preserved : goal.loop-place-preserved
loop-place-preserved c =
    sym (behind-filler c.loop-place.place c.args.bytes.now c.loop-place-test.true c.if-bytes-place-ne-FILLER.false) ∙ c.loop-place.invariant

pub returns-clause-value : goal.returns-clause-value
returns-clause-value c =
    let all : length c.args.bytes.now ≡ c.loop-place.place = omega (arith, c.loop-place-test.false) in
    all ∙ (sym (behind-end c.loop-place.place c.args.bytes.now c.loop-place-test.false) ∙ c.loop-place.invariant)
