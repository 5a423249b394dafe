use Rattle.std.proofs.Common.{◌≡◌, None, All, subst, sym}
use Rattle.receivers.specs.Passes.{crew}
use Rattle.receivers.specs.Receiver.{Receiving}
use Rattle.std.proofs.lemmas.List.{nil_from_length}
use Rattle.receivers.proofs.Runs.{can_work, can_join, all_back, have_run}
use Rattle.receivers.proofs.running.run_cells.Goals as goal

pub work_all-requires-clause-can : goal.work_all-requires-clause-can
work_all-requires-clause-can g c κs within =
    can_work (λ w. w.receiver) (λ w. crew w.passes.items w.stranger_pass) c.args.cells.now c.args.strangers.now 1
    c.in_ok-workers.workers.items c.in_ok-workers.ensures.crews
    (subst (All (λ (r : Receiving g.row.S.Denot g.row.K.Denot). r.ended ≡ None)) (sym c.in_ok-workers.ensures.receivers) c.requires.fresh)

pub dismiss-requires-clause-crews : goal.dismiss-requires-clause-crews
dismiss-requires-clause-crews g c =
    can_join (λ w. w.receiver) (λ w. crew w.passes.items w.stranger_pass) c.args.cells.now c.args.strangers.now g.S.Source g.K.Sink
    c.args.directory.now
    1 c.in_ok-workers.workers.items c.work_all.new.workers.items c.work_all.ensures.as_many c.work_all.ensures.each
    c.in_ok-workers.ensures.crews

pub returns-in-Ok-clause-run : goal.returns-in-Ok-clause-run
returns-in-Ok-clause-run g c =
    have_run (λ w. w.receiver) (λ w. crew w.passes.items w.stranger_pass) c.args.cells.now c.args.strangers.now g.S.Source g.K.Sink
    c.args.directory.now
    c.in_ok-workers.workers.items c.work_all.new.workers.items c.args.receivers.now.items _ _ c.work_all.ensures.as_many
    c.in_ok-workers.ensures.receivers c.in-Ok.ensures.receivers (nil_from_length _ c.in_ok-workers.ensures.empty)
    _ _ _ _ c.work_all.ensures.each c.in_ok-workers.ensures.roots c.in_ok-workers.ensures.crews c.in-Ok.ensures.joined

pub returns-in-Ok-clause-as_many : goal.returns-in-Ok-clause-as_many
returns-in-Ok-clause-as_many g c =
    all_back (λ w. w.receiver) (λ w. crew w.passes.items w.stranger_pass) c.args.cells.now c.args.strangers.now g.S.Source g.K.Sink
    c.args.directory.now
    c.in_ok-workers.workers.items c.work_all.new.workers.items c.args.receivers.now.items _ _ c.work_all.ensures.as_many
    c.in_ok-workers.ensures.receivers c.in-Ok.ensures.receivers (nil_from_length _ c.in_ok-workers.ensures.empty)
