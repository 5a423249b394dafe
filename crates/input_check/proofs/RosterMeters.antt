-- The meters of a roster.
use Rattle.std.proofs.Common.{◌≡◌, ℕ, List, [], ◌∷◌, map, Ok, refl, ap, ◌∙◌}
use Rattle.meter_address.specs.Commission.{Commissioned}
use Rattle.meter_slots.specs.Journal.{commission_of, fresh_start}
use Rattle.roster_file.specs.Roster.{Enrolled, roster_of}
use Rattle.state_file.specs.Whole.{state_of}
use Rattle.state_file.proofs.RosterStates.{rosters_are_states}
use Rattle.input_check.specs.States.{meters_in}

same_commissions : (meters : List Commissioned) → map commission_of (map fresh_start meters) ≡ meters
same_commissions [] = refl
same_commissions (c ∷ meters) = ap (λ ms. c ∷ ms) (same_commissions meters)

pub their_meters : (bytes : List ℕ) (r : Enrolled) → roster_of bytes ≡ Ok r → meters_in (state_of bytes) ≡ r.meters
their_meters bytes r h = ap meters_in (rosters_are_states bytes r h) ∙ same_commissions r.meters
