-- The verdict on lists that were read, by the first that goes wrong or by the session of their orders.
use Rattle.std.proofs.Common.{◌∙◌, ℕ, List, [], Ok, ap, map, length, get_or, option_copied, arith}
use Rattle.meter_slots.specs.Journal.{Start}
use Rattle.audit_check_main.specs.Hearing.{heard_input}
use Rattle.audit_check_main.proofs.Verdicts.{as_long, orders_are, first_wrong_is, judged, list_short}
use Rattle.audit_check_main.proofs.auditing.audit_lists.Goals as goal

pub overflow_cast-result : goal.overflow_cast-result
overflow_cast-result c =
    let wrong = c.in_ok-list.ensures.wrong c.in-Some.list c.in-Some.place (ap Ok c.in-Some.is) in
    let within = wrong.within in let long = as_long c.requires in let few = c.requires.few in omega arith

pub overflow_cast-result-in-Some : goal.overflow_cast-result-in-Some
overflow_cast-result-in-Some c =
    let wrong = c.in_ok-list.ensures.wrong c.in-Some.list c.in-Some.place (ap Ok c.in-Some.is) in
    let within = wrong.wrong.within in
    let short = list_short (length c.args.meters.items) c.args.report.now c.in-Some.list in
    let same = ap (λ (ls : List (List (ℕ × ℕ))). length (get_or ls c.in-Some.list [])) c.requires.lists_are in
    let lines = c.requires.few_lines in omega arith

pub returns-in-Some : goal.returns-in-Some
returns-in-Some c = λ text is.
    let heard = c.in_ok-heard.ensures ∙ ap (λ (m : List Start). map (heard_input m) c.args.inputs.now) c.as_slice-starts.ensures.value in
    first_wrong_is c.requires text (option_copied c.args.next) is c.as_slice.result.now (c.as_slice.ensures.value ∙ heard)
    c.in-Some.list c.in-Some.place (c.in_ok-list.ensures.wrong c.in-Some.list c.in-Some.place (ap Ok c.in-Some.is))

pub audit_orders-requires-clause-long : goal.audit_orders-requires-clause-long
audit_orders-requires-clause-long c = as_long c.requires

pub told_verdict-requires : goal.told_verdict-requires
told_verdict-requires c = λ stray.
    let heard = c.in_ok-heard.ensures ∙ ap (λ (m : List Start). map (heard_input m) c.args.inputs.now) c.as_slice-starts.ensures.value in
    c.audit_orders.ensures.stray stray
    (orders_are c.requires _ _ (c.as_slice.ensures.value ∙ heard) (c.as_slice-in-None.ensures.value ∙ heard)
    (c.in_ok-list.ensures.right (ap Ok c.in-None.is)))

pub returns-in-None : goal.returns-in-None
returns-in-None c =
    let heard = c.in_ok-heard.ensures ∙ ap (λ (m : List Start). map (heard_input m) c.args.inputs.now) c.as_slice-starts.ensures.value in
    judged c.requires (option_copied c.args.next) c.audit_orders.result c.told_verdict.result _ _ (c.as_slice.ensures.value ∙ heard)
    (c.as_slice-in-None.ensures.value ∙ heard) (c.in_ok-list.ensures.right (ap Ok c.in-None.is)) c.told_verdict.ensures
    c.audit_orders.ensures.stepped
