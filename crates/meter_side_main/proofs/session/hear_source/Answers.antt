-- Each answer stands behind those before it, and the last counter behind them all.
use Rattle.std.proofs.Common.{ℕ, take, refl, ap, ◌∙◌, arith}
use Rattle.line_reader.specs.Lines.{all_lines}
use Rattle.meter_side_main.proofs.LinesHeard.{heard_none, heard_more, all_told}
use Rattle.meter_side_main.proofs.session.hear_source.Goals as goal

pub lines-init : goal.lines-init
lines-init g c = record {
  goes_on = c.requires.goes_on;
  longest = c.requires.longest;
  few = omega (arith, c.requires.fresh);
  heard = heard_none _ _ _ _ _ (ap (λ (n : ℕ). take n (all_lines (g.S.Source.taken c.args.tx.now.reader.source))) c.requires.fresh);
  later = omega arith;
  bytes = λ tells. refl;
}

pub lines-preserved : goal.lines-preserved
lines-preserved g c = record {
  goes_on = c.in-Ok.ensures.next.0;
  longest = c.hear_next.ensures.longest;
  few = c.hear_next.ensures.few;
  heard = heard_more _ _ _ _ _ _ _ _ _ _ _ c.lines.invariant.heard c.in-Ok.ensures.heard c.in-Ok.ensures.after c.print.ensures;
  later = omega (arith, c.lines.invariant.later, c.hear_next.ensures.later);
  bytes = λ tells. c.hear_next.ensures.bytes tells ∙ c.lines.invariant.bytes tells;
}

pub returns-in-Err-clause-told : goal.returns-in-Err-clause-told
returns-in-Err-clause-told g c =
    all_told _ _ _ _ _ _ _ _ _ _ _ _ _ c.new-listener.ensures.new c.lines.invariant.heard c.in-Err.ensures.kept c.in-Err.ensures.no_line
    c.last.ensures c.print-in-Err.ensures
