-- What is asked for, by the first word.
use Rattle.std.proofs.Common.{◌∙◌, Ok}
use Rattle.std.specs.Prelude.{codes}
use Rattle.wmbus_words.proofs.Plans.{with_ok, with_err, compared, asks_steps, asks_session}
use Rattle.wmbus_words.specs.declared.asked.Asked.TheVariants as asks
use Rattle.wmbus_words.proofs.asked.asks_for.Goals as goal

pub returns-in_err-steps_plan : goal.returns-in_err-steps_plan
returns-in_err-steps_plan c = record {
  exact =
      with_err (λ steps. Ok (asks.Steps steps)) _ _ c.in_err-steps_plan.ensures c.from_residual.ensures.1
      ∙ asks_steps _ c.in-Some.first.now c.in-Some.ensures.value (compared (codes "steps") c.as_str.ensures.value c.if-eq.ensures);
}

pub returns-then-eq : goal.returns-then-eq
returns-then-eq c = record {
  exact =
      with_ok (λ steps. Ok (asks.Steps steps)) _ c.in_ok-steps_plan.ensures
      ∙ asks_steps _ c.in-Some.first.now c.in-Some.ensures.value (compared (codes "steps") c.as_str.ensures.value c.if-eq.ensures);
}

pub returns-in_err-words : goal.returns-in_err-words
returns-in_err-words c = record {
  exact =
      with_err (λ plan. Ok (asks.Session plan)) _ _ c.in_err-words.ensures.exact c.from_residual-in_err-words.ensures.1
      ∙ asks_session _ c.in-Some.first.now c.in-Some.ensures.value (compared (codes "steps") c.as_str.ensures.value c.if-eq.ensures);
}

pub returns : goal.returns
returns c = record {
  exact =
      with_ok (λ plan. Ok (asks.Session plan)) _ c.in_ok-words.ensures.exact
      ∙ asks_session _ c.in-Some.first.now c.in-Some.ensures.value (compared (codes "steps") c.as_str.ensures.value c.if-eq.ensures);
}
