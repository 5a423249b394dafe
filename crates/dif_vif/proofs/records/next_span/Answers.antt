use Rattle.std.proofs.Common.{sym, ◌∙◌, Ok, Err}
use Rattle.std.proofs.lemmas.Result.{err_from_is_err_and}
use Rattle.dif_vif.proofs.Spans.{ends_here, next_of-end, next_of-filler}
use Rattle.dif_vif.proofs.records.next_span.Goals as goal

pub returns-in_err-span_at : goal.returns-in_err-span_at
returns-in_err-span_at c =
    let p = err_from_is_err_and c.from_residual.result c.from_residual.ensures.1 in
    rw (p.1, p.2)
    (ends_here c.args.bytes.now c.loop-start.start (Err _) _ c.loop-start-test.true c.if-bytes-start-ne-FILLER.true
    c.in_err-span_at.ensures c.loop-start.invariant)

pub returns-then-bytes-start-ne-FILLER : goal.returns-then-bytes-start-ne-FILLER
returns-then-bytes-start-ne-FILLER c =
    ends_here c.args.bytes.now c.loop-start.start (Ok _) _ c.loop-start-test.true c.if-bytes-start-ne-FILLER.true
    c.in_ok-span_at.ensures c.loop-start.invariant

pub loop-start-preserved : goal.loop-start-preserved
loop-start-preserved c =
    sym (next_of-filler c.args.bytes.now c.loop-start.start c.loop-start-test.true c.if-bytes-start-ne-FILLER.false)
    ∙ c.loop-start.invariant

pub returns : goal.returns
returns c = sym (next_of-end c.args.bytes.now c.loop-start.start c.loop-start-test.false) ∙ c.loop-start.invariant
