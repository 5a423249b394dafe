use Rattle.std.proofs.Common.{inl, inr, refl, sym, ◌∙◌}
use Rattle.steps_main.proofs.Wrote.{unwritten}
use Rattle.steps_main.proofs.running.finish.Goals as goal

pub returns-in-Err-clause-finishes : goal.returns-in-Err-clause-finishes
returns-in-Err-clause-finishes g c =
    let wrote = unwritten _ _ _ _ _ c.in-Err.is c.write_left.ensures.wrote in
    inr (inl (record {
      whole = sym c.is_whole.ensures ∙ c.if-not-is_whole.false;
      status_is = refl;
      failed = wrote.0;
      next = wrote.1;
      out = refl;
    }))
