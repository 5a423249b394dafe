use Rattle.std.proofs.Common.{◌≡◌, ◌∙◌, length, map, Ok, sym, ap, subst}
use Rattle.std.specs.String.{string_bytes}
use Rattle.std.proofs.lemmas.List.{length-map}
use Rattle.wmbus.proofs.Plans.{session_named, steps_counted}
use Rattle.wmbus.proofs.run_asked.Goals as goal

pub run_plan-requires-clause-plan : goal.run_plan-requires-clause-plan
run_plan-requires-clause-plan g c = λ lifetimes outlive. session_named (map string_bytes c.args.command.now) _ (c.requires.asked ∙ ap Ok c.in-Session.is)

pub run_steps-requires : goal.run_steps-requires
run_steps-requires g c =
    let command = c.args.command.now in
    sym (length-map command string_bytes) ∙ steps_counted (map string_bytes command) _ (c.requires.asked ∙ ap Ok c.in-Steps.is)
