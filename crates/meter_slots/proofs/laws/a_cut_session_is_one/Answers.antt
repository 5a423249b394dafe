-- A journal of two parts is legal where each part is.
use Rattle.meter_slots.proofs.Cuts.{legal_parts, legal_joined}
use Rattle.meter_slots.proofs.laws.a_cut_session_is_one.Goals as goal

pub returns-clause-legal : goal.returns-clause-legal
returns-clause-legal _ c own before after =
    (λ p. legal_joined c before own after p.0 p.1, λ j. legal_parts c before own after j)
