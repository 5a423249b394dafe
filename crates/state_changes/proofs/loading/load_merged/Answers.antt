use Rattle.std.proofs.Common.{sym, subst}
use Rattle.state_file.specs.Written.{IsState}
use Rattle.state_changes.proofs.States.{merged_are_states, read_back}
use Rattle.state_changes.proofs.loading.load_merged.Goals as goal

pub returns-in-Ok-clause-state : goal.returns-in-Ok-clause-state
returns-in-Ok-clause-state g c =
    subst IsState (sym c.in-Ok.ensures) (merged_are_states _ _ c.in_ok-known.ensures.state c.in_ok-enrolled.ensures.enrolled)

pub returns-in-Ok-clause-read_back : goal.returns-in-Ok-clause-read_back
returns-in-Ok-clause-read_back g c =
    read_back _ _ c.in-Ok.ensures (merged_are_states _ _ c.in_ok-known.ensures.state c.in_ok-enrolled.ensures.enrolled)
