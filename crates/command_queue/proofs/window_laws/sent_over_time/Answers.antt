-- The three clauses of what is sent over time.
use Rattle.command_queue.proofs.Time.{fresh_sends, three_tries}
use Rattle.command_queue.proofs.window_laws.sent_over_time.Goals as goal

pub returns-clause-counters : goal.returns-clause-counters
returns-clause-counters c = λ ids down moves. (fresh_sends ids down moves).counters

pub returns-clause-fit : goal.returns-clause-fit
returns-clause-fit c = λ ids down moves. (fresh_sends ids down moves).fit

pub returns-clause-tries : goal.returns-clause-tries
returns-clause-tries c = three_tries
