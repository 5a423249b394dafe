use Rattle.std.proofs.Common.{◌≡◌, length, sym, ◌∙◌, arith}
use Rattle.std.proofs.lemmas.Iterator.Adapters.{YieldsList-from_vec}
use Rattle.std.proofs.lemmas.Iterator.Consumers.{YieldsList-turn}
use Rattle.std.proofs.lemmas.List.{length_push}
use Rattle.std.proofs.lemmas.Result.{IfOk-at_ok}
use Rattle.frame_inspect_main.specs.Looks.{shown_of_run}
use Rattle.frame_inspect_main.proofs.Runs.{one_run_pushed}
use Rattle.frame_inspect_main.proofs.inspecting.inspect_runs.Goals as goal

pub loop-run-preserved : goal.loop-run-preserved
loop-run-preserved g c =
    let meaning = g.L.Look.meaning c.args.look.now in
    let looked = c.in_ok-looked.looked in
    let begun = c.into_iter-run-iterator.ensures.into_iter_gives in
    let worker = length c.loop-run.yielded in
    let all = YieldsList-from_vec {s = c.into_iter-run-iterator.result} looked.items begun.0 (begun.1 ∙ looked.ok.0) in
    let turn = YieldsList-turn all c.loop-run.yielded _ c.loop-run.yielded_by _ c.next.new.self c.in-Some.run' c.in-Some.is
    c.next.ensures.steps in
    let is = IfOk-at_ok (λ run. run.items ≡ shown_of_run meaning c.args.items.now c.args.workers worker) (sym turn.1 ∙ c.in_ok-run.was)
    (c.in_ok-looked.ensures.each worker c.in-Some.run' (omega (arith, turn.0, looked.ok.0, c.in_ok-looked.ensures.len))).1.met in
    one_run_pushed meaning (λ run. run.items) c.args.items.now c.args.workers worker _ c.loop-run.runs.items c.push.new.self.items
    c.in_ok-run.field-0 (omega (arith, turn.0, looked.ok.0, c.in_ok-looked.ensures.len)) (length_push c.loop-run.yielded c.in-Some.run')
    c.in_ok-push.ensures.items is c.loop-run.invariant
