use Rattle.std.proofs.Common.{subst}
use Rattle.std.specs.Process.{exit_status}
use Rattle.program_words.specs.OwnTexts.{IsTold}
use Rattle.wmbus.proofs.Exits.{told_exit}
use Rattle.wmbus.proofs.perform.Goals as goal

pub returns-in-Some-clause-exit : goal.returns-in-Some-clause-exit
returns-in-Some-clause-exit g c =
    told_exit _ _ (subst (λ unwritten. IsTold unwritten (exit_status c.tell.result)) c.code.ensures c.tell.ensures)
