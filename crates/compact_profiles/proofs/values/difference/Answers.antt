use Rattle.std.proofs.Common.{◌≡◌, refl, ap, ◌∙◌, ◌-ℤ◌}
use Rattle.std.specs.Int.{w128, cast_signed, cast_unsigned}
use Rattle.std.proofs.lemmas.Int.{to_z-of_z}
use Rattle.full_records.specs.Powers.{short}
use Rattle.full_records.proofs.Short.{short_is}
use Rattle.compact_profiles.proofs.values.difference.Goals as goal

pub returns : goal.returns
returns c =
    let same : cast_signed w128 (cast_unsigned w128 c.args.a) -ℤ cast_signed w128 (cast_unsigned w128 c.args.b) ≡ c.args.a -ℤ c.args.b =
    rw (to_z-of_z w128 c.args.a c.ranges.a, to_z-of_z w128 c.args.b c.ranges.b) refl in
    short_is _ c.checked_sub.result c.checked_sub.ensures ∙ ap short same
