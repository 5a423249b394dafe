use Rattle.std.proofs.Common.{◌≡◌, length, sym, ◌∙◌, arith}
use Rattle.std.proofs.lemmas.Iterator.Adapters.{YieldsList-from_vec}
use Rattle.std.proofs.lemmas.Iterator.Consumers.{YieldsList-turn, YieldsList-end}
use Rattle.std.proofs.lemmas.List.{length_push}
use Rattle.std.proofs.lemmas.Result.{IfOk-at_ok}
use Rattle.made_input.specs.Runs.{texts_heard, lines_of_run}
use Rattle.made_input.proofs.HeardRuns.{none_made, one_run_more, all_made}
use Rattle.made_input.proofs.runs.four_texts.Goals as goal

pub loop-run-init : goal.loop-run-init
loop-run-init g c = none_made c.args.meters.now c.args.telegrams c.new-texts.result c.new-texts.ensures

pub loop-run-preserved : goal.loop-run-preserved
loop-run-preserved g c =
    let runs = c.in_ok-runs.runs in
    let begun = c.into_iter-run-iterator.ensures.into_iter_gives in
    let worker = length c.loop-run.yielded in
    let all = YieldsList-from_vec {s = c.into_iter-run-iterator.result} runs.items begun.0 (begun.1 ∙ runs.ok.0) in
    let turn = YieldsList-turn all c.loop-run.yielded _ c.loop-run.yielded_by _ c.next.new.self c.in-Some.run' c.in-Some.is
    c.next.ensures.steps in
    let is = IfOk-at_ok (λ run. run ≡ texts_heard (lines_of_run c.args.meters.now c.args.telegrams worker)) (sym turn.1 ∙ c.in_ok-run.was)
    (c.in_ok-runs.ensures.each worker c.in-Some.run' (omega (arith, turn.0, runs.ok.0, c.in_ok-runs.ensures.len))).1.met in
    one_run_more c.args.meters.now c.args.telegrams worker _ c.loop-run.texts c.in_ok-run.field-0 c.push.new.self
    (length_push c.loop-run.yielded c.in-Some.run') is c.in_ok-push.ensures c.loop-run.invariant

pub returns : goal.returns
returns g c =
    let runs = c.in_ok-runs.runs in
    let begun = c.into_iter-run-iterator.ensures.into_iter_gives in
    let all = YieldsList-from_vec {s = c.into_iter-run-iterator.result} runs.items begun.0 (begun.1 ∙ runs.ok.0) in
    let end = YieldsList-end all c.loop-run.yielded _ c.loop-run.yielded_by _ c.next.new.self c.in-None.is c.next.ensures.steps in
    all_made c.args.meters.now c.args.telegrams (length c.loop-run.yielded) c.loop-run.texts
    (omega (arith, end.1, runs.ok.0, c.in_ok-runs.ensures.len)) c.loop-run.invariant
