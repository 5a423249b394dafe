-- The line is written, whole or in part, and the input at the place gave its next one.
use Rattle.std.proofs.Common.{refl, sym, subst}
use Rattle.line_merge.specs.Readers.{rests_of}
use Rattle.line_merge.specs.Steps.{Passes}
use Rattle.line_merge.proofs.Rows.{all_stay}
use Rattle.line_merge.proofs.Stepping.{passes, passes_in_part}
use Rattle.line_merge.proofs.running.pass_on.Goals as goal

pub returns-in_default-clause-step : goal.returns-in_default-clause-step
returns-in_default-clause-step g c = λ tells on.
    passes_in_part g.S.Source c.args.numbered c.args.place c.args.at c.args.inputs.now c.args.heads.now _ _ c.text.result.now
    c.requires.at_heads c.requires.place refl c.text.ensures _ _
    (c.in_default.ensures.err on)

pub returns-in_default-clause-goes_on : goal.returns-in_default-clause-goes_on
returns-in_default-clause-goes_on g c = all_stay g.S.Source c.args.inputs.now

pub returns-in-Ok-take_next-clause-step : goal.returns-in-Ok-take_next-clause-step
returns-in-Ok-take_next-clause-step g c = λ tells on.
    subst (λ after. Passes c.args.numbered c.args.place (rests_of g.S.Source c.args.inputs.now c.args.heads.now) after
    (g.K.Sink.written c.args.out.now) (g.K.Sink.written c.write.new.sink)) (sym (c.in-Ok-take_next.ensures.taken.rests tells))
    (passes g.S.Source c.args.numbered c.args.place c.args.at c.args.inputs.now c.args.heads.now _ _ c.text.result.now
    c.requires.at_heads c.requires.place refl c.text.ensures _ _
    (c.in-Ok.ensures.ok on))

pub returns-in-Err-clause-step : goal.returns-in-Err-clause-step
returns-in-Err-clause-step g c = λ tells on. (
  _,
  passes g.S.Source c.args.numbered c.args.place c.args.at c.args.inputs.now c.args.heads.now _ _ c.text.result.now
      c.requires.at_heads c.requires.place refl c.text.ensures _ _
      (c.in-Ok.ensures.ok on),
)
