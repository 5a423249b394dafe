-- The plan by the first word.
use Rattle.std.proofs.Common.{◌∙◌, Ok}
use Rattle.std.specs.Prelude.{codes}
use Rattle.wmbus_words.proofs.Plans.{with_ok, with_err, compared, plans_hear, plans_collect, plans_continue, plans_made, plans_nothing}
use Rattle.wmbus_words.specs.declared.asked.Plan.TheVariants as plans
use Rattle.wmbus_words.proofs.asked.words.Goals as goal

pub returns-then-eq-clause-exact : goal.returns-then-eq-clause-exact
returns-then-eq-clause-exact c =
    c.hear_plan.ensures ∙ plans_hear _ c.in-Some.command.now c.in-Some.ensures.value
    (compared (codes "hear") c.as_str.ensures.value c.if-eq.ensures)

pub returns-in_err-receivers_in-clause-exact : goal.returns-in_err-receivers_in-clause-exact
returns-in_err-receivers_in-clause-exact c =
    with_err (λ n. Ok (plans.Collect n)) _ _ c.in_err-receivers_in.ensures c.from_residual.ensures.1
    ∙ plans_collect _ c.in-Some.command.now c.in-Some.ensures.value (compared (codes "hear") c.as_str.ensures.value c.if-eq.ensures)
    (compared (codes "collect") c.as_str-2.ensures.value c.if-eq-2.ensures)

pub returns-then-eq-2-clause-exact : goal.returns-then-eq-2-clause-exact
returns-then-eq-2-clause-exact c =
    with_ok (λ n. Ok (plans.Collect n)) _ c.in_ok-receivers_in.ensures
    ∙ plans_collect _ c.in-Some.command.now c.in-Some.ensures.value (compared (codes "hear") c.as_str.ensures.value c.if-eq.ensures)
    (compared (codes "collect") c.as_str-2.ensures.value c.if-eq-2.ensures)

pub returns-in_err-receivers_in-2-clause-exact : goal.returns-in_err-receivers_in-2-clause-exact
returns-in_err-receivers_in-2-clause-exact c =
    with_err (λ n. Ok (plans.Continue n)) _ _ c.in_err-receivers_in-2.ensures c.from_residual-in_err-receivers_in-2.ensures.1
    ∙ plans_continue _ c.in-Some.command.now c.in-Some.ensures.value (compared (codes "hear") c.as_str.ensures.value c.if-eq.ensures)
    (compared (codes "collect") c.as_str-2.ensures.value c.if-eq-2.ensures)
    (compared (codes "continue") c.as_str-3.ensures.value c.if-eq-3.ensures)

pub returns-then-eq-3-clause-exact : goal.returns-then-eq-3-clause-exact
returns-then-eq-3-clause-exact c =
    with_ok (λ n. Ok (plans.Continue n)) _ c.in_ok-receivers_in-2.ensures
    ∙ plans_continue _ c.in-Some.command.now c.in-Some.ensures.value (compared (codes "hear") c.as_str.ensures.value c.if-eq.ensures)
    (compared (codes "collect") c.as_str-2.ensures.value c.if-eq-2.ensures)
    (compared (codes "continue") c.as_str-3.ensures.value c.if-eq-3.ensures)

pub returns-then-eq-4-clause-exact : goal.returns-then-eq-4-clause-exact
returns-then-eq-4-clause-exact c =
    c.made_plan.ensures.exact ∙ plans_made _ c.in-Some.command.now c.in-Some.ensures.value
    (compared (codes "hear") c.as_str.ensures.value c.if-eq.ensures) (compared (codes "collect") c.as_str-2.ensures.value c.if-eq-2.ensures)
    (compared (codes "continue") c.as_str-3.ensures.value c.if-eq-3.ensures)
    (compared (codes "made") c.as_str-4.ensures.value c.if-eq-4.ensures)

pub returns-clause-exact : goal.returns-clause-exact
returns-clause-exact c =
    plans_nothing _ c.in-Some.command.now c.in-Some.ensures.value
    (compared (codes "hear") c.as_str.ensures.value c.if-eq.ensures) (compared (codes "collect") c.as_str-2.ensures.value c.if-eq-2.ensures)
    (compared (codes "continue") c.as_str-3.ensures.value c.if-eq-3.ensures)
    (compared (codes "made") c.as_str-4.ensures.value c.if-eq-4.ensures)
