-- Closes what a step on cells comes to.
use Rattle.std.proofs.Common.{sym, ap, refl, ◌∙◌}
use Rattle.outer_io.specs.Shown.{sink_change}
use Rattle.receivers.specs.declared.slots.Heard.{Heard}
use Rattle.receivers.specs.Classes.{class_at}
use Rattle.receivers.proofs.Makings.{answered_nothing, made_nothing, works_nothing, makes_strange, makes_own}
use Rattle.receivers.proofs.shared.SharedSlots.step.Goals as goal

pub returns-in-Ok-clause-class : goal.returns-in-Ok-clause-class
returns-in-Ok-clause-class g c = ap (λ (h : Heard). h.class) c.silent.ensures ∙ ap class_at (sym (sym c.find.ensures ∙ c.in_default.is))

pub returns-in-Ok-clause-makes : goal.returns-in-Ok-clause-makes
returns-in-Ok-clause-makes g c = rw c.silent.ensures
    (makes_strange _ c.args.line c.args.address c.args.event _ _ _ _ _ (sym c.find.ensures ∙ c.in_default.is) c.in-Ok.ensures.noted)

pub returns-in-Err-clause-memory : goal.returns-in-Err-clause-memory
returns-in-Err-clause-memory g c = (works_nothing _ _ _ _ _ (answered_nothing _) c.in-Err.ensures.noted, refl)

pub returns-in-Ok-step_at-clause-class : goal.returns-in-Ok-step_at-clause-class
returns-in-Ok-step_at-clause-class g c = ap class_at (sym c.in-Some.is ∙ c.find.ensures)

pub returns-in-Ok-step_at-clause-makes : goal.returns-in-Ok-step_at-clause-makes
returns-in-Ok-step_at-clause-makes g c =
    makes_own c.args.self.now.directory.now c.args.line c.args.address c.args.event c.in-Some.place c.in-Ok-step_at.outcome
    c.send-sent.result c.args.self.now.passes.now c.step_at.new.passes c.args.self.now.stranger_pass.now g.K.Sink.tells
    (sink_change g.K.Sink c.args.tx.now c.send-sent.new.tx) (sym c.find.ensures ∙ c.in-Some.is) c.in-Ok-step_at.ensures.answered
    c.send-sent.ensures.sent c.send-sent.ensures.cause c.send-sent.ensures.later

pub returns-in-Err-step_at-clause-memory : goal.returns-in-Err-step_at-clause-memory
returns-in-Err-step_at-clause-memory g c = (
  works_nothing c.args.self.now.directory.now c.args.self.now.passes.now c.step_at.new.passes c.args.self.now.stranger_pass.now
      c.args.self.now.stranger_pass.now c.in-Err-step_at.ensures.answered (made_nothing c.args.self.now.stranger_pass.now),
  refl,
)
