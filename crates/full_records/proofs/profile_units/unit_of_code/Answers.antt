use Rattle.std.proofs.Common.{sym, ap, ◌∙◌}
use Rattle.full_records.specs.Profile.{placed}
use Rattle.full_records.proofs.UnitPlaces.{placed_coded, primary_coded}
use Rattle.full_records.proofs.profile_units.unit_of_code.Goals as goal

pub returns-then-announces_code : goal.returns-then-announces_code
returns-then-announces_code c = λ a n. ap (λ u. placed u a n) c.extended_unit.ensures ∙ placed_coded c.args.vif c.args.code 3 0 a n

pub returns : goal.returns
returns c = λ a n.
    ap (λ u. placed u a n) c.primary_unit.ensures
    ∙ primary_coded c.args.vif c.args.code 2 0 a n (sym c.announces_code.ensures ∙ c.if-announces_code.false)
