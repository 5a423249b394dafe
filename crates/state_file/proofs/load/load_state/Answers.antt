use Rattle.std.proofs.Common.{ap, Err}
use Rattle.state_file.proofs.ReadStates.{read_is_state}
use Rattle.state_file.proofs.TooLong.{first_line}
use Rattle.state_file.proofs.load.load_state.Goals as goal

pub returns-in-Err-TooMany-clause-roster : goal.returns-in-Err-TooMany-clause-roster
returns-in-Err-TooMany-clause-roster g c = λ line cause is tells.
    first_line (g.S.Source.left c.args.source.now) line cause (c.in-Err-TooMany.ensures.many (ap Err c.in-Err-TooMany.field-0-is) tells)
    (cc, cc)

pub returns-in-Ok-read_state-clause-state : goal.returns-in-Ok-read_state-clause-state
returns-in-Ok-read_state-clause-state g c = read_is_state _ _ c.in-Ok-read_state.ensures.found
