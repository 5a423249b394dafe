use Rattle.std.proofs.Common.{Some, None, [], ap, refl, ◌∙◌, rules}
use Rattle.meter_slots.specs.declared.counts.Ended.TheVariants as ends
use Rattle.meter_slots.specs.World.{world_of}
use Rattle.collector_main.specs.declared.status.Status.TheVariants as statuses
use Rattle.collector_main.proofs.Runs.{heard_run, alone_unheard}
use Rattle.collector_main.proofs.session.hear_session.Goals as goal

pub returns-in-Err-clause-run : goal.returns-in-Err-clause-run
returns-in-Err-clause-run g c =
    alone_unheard _ _ _ _ _ _ c.in-Err.status None c.in-Err.ensures.refusal c.requires.fresh tt c.known.ensures.no_loss (λ told. refl) refl

pub returns-in_default-clause-run : goal.returns-in_default-clause-run
returns-in_default-clause-run g c =
    alone_unheard _ _ _ _ _ _ statuses.Memory None tt c.requires.fresh tt c.known.ensures.no_loss (λ told. refl) refl

pub returns-in-Memory-clause-run : goal.returns-in-Memory-clause-run
returns-in-Memory-clause-run g c =
    alone_unheard _ _ _ _ _ _ statuses.Memory (Some ends.Memory) tt (c.work_alone.ensures.ended ∙ ap Some c.in-Memory.is)
    tt c.known.ensures.no_loss
    c.work_alone.ensures.heard.has_heard.no_loss refl

pub returns-clause-run : goal.returns-clause-run
returns-clause-run g c =
    heard_run _ _ _ _ _ _ _ c.in-Ok.state c.work_alone.result c.counts-counts.result c.work_alone.new.self.counts
    c.in-Ok-new.world c.work_alone.new.alone.world c.counts-counts.ensures c.in-Ok.ensures.found c.in-Ok.ensures.read
    c.known.ensures.no_loss c.work_alone.ensures.ended refl
    (c.in-Ok-new.ensures ∙ ap (λ own. world_of own c.into_starts.result.items []) c.own-own.ensures
    ∙ ap (λ starts. world_of c.in-Ok.state.own starts []) c.into_starts.ensures.starts)
    (search rules)
    c.work_alone.ensures.heard c.work_alone.ensures.untaken (c.work_alone.ensures.never, c.in_default-work_alone.not-Memory)
    c.finish_one.ensures.status c.finish_one.ensures.written c.finish_one.ensures.done
