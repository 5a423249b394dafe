-- A front of what was left is written behind the front that was.
use Rattle.std.proofs.Common.{◌∙◌, ◌++◌, ap, arith, take}
use Rattle.outer_io.proofs.Parts.{written_more}
use Rattle.outer_io.proofs.sinks.write_all.Goals as goal

pub loop-at-preserved : goal.loop-at-preserved
loop-at-preserved g c = (
  omega (arith, c.in_ok-at.ensures.some.1, c.split_at.ensures.back_len, c.loop-at-test.true),
  omega (arith, c.loop-at.invariant.1, c.in_ok-at.ensures.later),
  λ on. written_more _ _ _ c.args.bytes.now c.loop-at.at c.in_ok-at.field-0 (c.loop-at.invariant.2 on)
      (c.in_ok-at.ensures.ok on ∙ ap (λ rest. g.K.Sink.written c.loop-at.sink ++ take c.in_ok-at.field-0 rest) c.split_at.ensures.back),
)
