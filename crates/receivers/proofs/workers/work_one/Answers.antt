use Rattle.std.proofs.Common.{length, subst, sym, ap, ◌∙◌}
use Rattle.receivers.specs.Passes.{ArePassesOf}
use Rattle.receivers.proofs.Collecting.{whole}
use Rattle.receivers.proofs.workers.work_one.Goals as goal

pub work-requires-clause-fresh : goal.work-requires-clause-fresh
work-requires-clause-fresh g c = c.requires.can.fresh

pub work-requires-clause-passes : goal.work-requires-clause-passes
work-requires-clause-passes g c =
    subst (ArePassesOf c.args.cells.now) (sym c.as_mut_slice.ensures.value) c.requires.can.crew_of.passes

pub work-requires-clause-stranger_pass : goal.work-requires-clause-stranger_pass
work-requires-clause-stranger_pass g c = c.requires.can.crew_of.stranger_pass

pub returns : goal.returns
returns g c =
    let ok = c.args.worker.now.passes.ok.0 in
    let many = c.work.auto.passes ∙ ap length c.as_mut_slice.ensures.value in
    rw (
      whole c.args.worker.now.passes.len c.work.new.passes c.args.worker.now.passes.items (many ∙ sym ok) (sym ok),
      sym c.as_mut_slice.ensures.value,
    ) (record {
      crew_of = record { passes = c.work.ensures.passes; stranger_pass = c.work.ensures.stranger_pass };
      worked = c.work.ensures.worked;
    })
