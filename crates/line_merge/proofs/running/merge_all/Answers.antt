-- The first lines are taken and then all others, or an input has a fault at once.
use Rattle.std.proofs.Common.{[], refl, sym, subst, ◌∙◌}
use Rattle.std.proofs.lemmas.List.{append-nil}
use Rattle.outer_io.specs.Shown.{sink_change}
use Rattle.line_merge.specs.Run.{IsWritten}
use Rattle.line_merge.proofs.Rows.{all_then, none_lost, lines_shown}
use Rattle.line_merge.proofs.Stepping.{ended_from, ran}
use Rattle.line_merge.proofs.running.merge_all.Goals as goal

pub returns-in-Err : goal.returns-in-Err
returns-in-Err g c =
    ran _ (λ tells on. record { merged = []; left = _; merges = refl; written = sym (append-nil _) }) c.in-Err.ensures.faulty
    (none_lost g.S.Source _ _ c.take_first.ensures.goes_on)

pub returns : goal.returns
returns g c =
    let on = all_then g.S.Source c.args.inputs.now c.take_first.new.inputs c.merge_on.new.inputs c.take_first.ensures.goes_on
    c.merge_on.ensures.goes_on in
    ran _
    (λ tells out.
    subst (λ lines. IsWritten c.merge_on.result c.args.numbered lines (g.K.Sink.written c.args.out.now) (g.K.Sink.written c.merge_on.new.out))
    (c.in_default.ensures.rests tells ∙ sym (lines_shown g.S.Source c.args.inputs.now c.merge_on.new.inputs on))
    (c.merge_on.ensures.written tells out))
    (ended_from g.S.Source c.args.inputs.now c.take_first.new.inputs c.merge_on.new.inputs
    (sink_change g.K.Sink c.args.out.now c.merge_on.new.out) c.merge_on.result c.take_first.ensures.goes_on c.merge_on.ensures.ended)
    (none_lost g.S.Source c.args.inputs.now c.merge_on.new.inputs on)
