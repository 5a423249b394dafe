use Rattle.std.proofs.Common.{sym, ap, ◌∙◌}
use Rattle.std.specs.List.{concat, flat_map}
use Rattle.frame_inspect_main.proofs.Finished.{text_is, finished_run}
use Rattle.frame_inspect_main.proofs.running.inspect_run.Goals as goal

pub returns-clause-run : goal.returns-clause-run
returns-clause-run g c =
    let all = c.in-Ok.ensures in
    let done = c.finish.ensures in
    finished_run _ _ _ _ _ _ _ c.in-Some.workers c.in-Ok.gathered.status _ (sym c.workers.ensures.exact ∙ c.in-Some.is)
    all.end all.cause all.ended all.bytes done.status
    (λ tells. ap (λ t. concat (flat_map (λ run. run.items) t)) c.deref-2.ensures.value
    ∙ text_is _ c.in-Ok.gathered.items.items c.deref.result.now _ (all.items tells) c.deref.ensures.value c.in-Ok-inspect_runs.ensures)
    done.written done.done
