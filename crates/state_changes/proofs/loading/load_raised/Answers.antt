use Rattle.std.proofs.Common.{sym, subst}
use Rattle.state_file.specs.Written.{IsState}
use Rattle.state_changes.proofs.States.{raised_are_states, none_spent, read_back}
use Rattle.state_changes.proofs.loading.load_raised.Goals as goal

pub returns-clause-state : goal.returns-clause-state
returns-clause-state g c =
    subst IsState (sym c.new.ensures) (raised_are_states _ _ c.in_ok-known.ensures.state
    (none_spent _ _ _ _ c.first_spent.ensures c.in_default.is c.starts.ensures.starts))

pub returns-clause-read_back : goal.returns-clause-read_back
returns-clause-read_back g c =
    read_back _ _ c.new.ensures (raised_are_states _ _ c.in_ok-known.ensures.state
    (none_spent _ _ _ _ c.first_spent.ensures c.in_default.is c.starts.ensures.starts))
