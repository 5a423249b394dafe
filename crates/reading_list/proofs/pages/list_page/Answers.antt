-- Each line stands behind those before it.
use Rattle.std.proofs.Common.{[], length, refl, ap, sym, append-nil, arith}
use Rattle.outer_io.specs.Shown.{sink_shown}
use Rattle.reading_list.specs.Listing.{listed}
use Rattle.reading_list.proofs.PageLines.{lines_few}
use Rattle.reading_list.proofs.PageRuns.{on_err, amid_len, amid_next, amid_front}
use Rattle.reading_list.proofs.pages.list_page.Goals as goal

pub overflow_add-now : goal.overflow_add-now
overflow_add-now g c =
    omega (arith, amid_len c.lines.invariant.amid, ap length c.in-Some.ensures.steps, lines_few c.args.page.now, c.requires.few)

pub lines-preserved : goal.lines-preserved
lines-preserved g c = record {
  no_note = c.in_ok-list_line.ensures.no_note;
  amid = amid_next c.lines.invariant.amid _ _ _ c.lines.invariant.later_notes c.list_line.ensures.later_notes c.in-Some.ensures.steps
      c.in_ok-list_line.ensures.one;
  later_out = omega arith;
  later_notes = omega arith;
}

pub returns-in_err-list_line-clause-front : goal.returns-in_err-list_line-clause-front
returns-in_err-list_line-clause-front g c =
    on_err c.from_residual.result _ (λ on.
    amid_front c.lines.invariant.amid _ _ _ (sink_shown g.K.Sink c.list_line.new.out) on
    (ap (listed c.lines.lister) c.in-Some.ensures.steps) refl (c.in_err-list_line.ensures.front on))

pub returns-in-Ok-clause-few : goal.returns-in-Ok-clause-few
returns-in-Ok-clause-few g c =
    omega (arith, amid_len c.lines.invariant.amid, ap length c.in_default.ensures.steps.0, lines_few c.args.page.now)

pub returns-in-Err-clause-front : goal.returns-in-Err-clause-front
returns-in-Err-clause-front g c = λ on.
    amid_front c.lines.invariant.amid [] [] _ (sink_shown g.K.Sink c.pass_on.new.out) on
    (ap (listed c.lines.lister) c.in_default.ensures.steps.0) (sym (append-nil _)) (c.in-Err.ensures.err on)
