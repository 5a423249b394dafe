use Rattle.std.proofs.Common.{sym, subst, IsOk}
use Rattle.std.proofs.lemmas.Bool.{false≢true}
use Rattle.wmbus.specs.Exit.{IsSessionExit}
use Rattle.wmbus.proofs.Exits.{session_exit}
use Rattle.wmbus.proofs.session.run_over.Goals as goal

pub returns-clause-session : goal.returns-clause-session
returns-clause-session g c =
    subst IsSessionExit (sym c.end.ensures)
    (session_exit c.run-status.result (λ fault e. false≢true (subst IsOk (c.run-status.ensures.only_words fault e) c.requires.words)))

pub returns-clause-run : goal.returns-clause-run
returns-clause-run g c = (c.run-status.result, c.end.ensures, c.run-status.ensures.run)

pub returns-clause-made : goal.returns-clause-made
returns-clause-made g c = (c.run-status.result, c.end.ensures, c.run-status.ensures.made)
